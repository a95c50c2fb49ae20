use Rattle.std.proofs.Common.{◌≡◌, ◌-◌, ◌≤◌, ◌++◌, length, map, take, Some, None}
use Rattle.std.specs.Prelude.{IfSome, IfNone}
use Rattle.am_doccols.proofs.row_column.push_column.Given as goal

abbrev pub invariant-loop-at : goal.invariant-loop-at
invariant-loop-at g l = record {
  few : l.at ≤ length l.rows;
  written : IfSome (g.C.RowColumn.held l.initial.to) (λ xs. g.C.RowColumn.held l.to ≡ Some (xs ++ map (g.C.RowColumn.cell l.actors) (take l.at l.rows)));
  none : IfNone (g.C.RowColumn.held l.initial.to) (g.C.RowColumn.held l.to ≡ None);
}

abbrev pub decreases-loop-at : goal.decreases-loop-at
decreases-loop-at g l = length l.rows - l.at
