use Rattle.std.proofs.Common.{◌≡◌, ◌-◌, ◌≤◌, List, ℕ, length, map, take, replicate}
use Rattle.am_doccols.proofs.row_column.alike_with.Given as goal

abbrev pub invariant-loop-n : goal.invariant-loop-n
invariant-loop-n g l = record {
  few : l.n ≤ length l.rows;
  alike : (actors : List (List ℕ)) → map (g.C.RowColumn.cell actors) (take l.n l.rows) ≡ replicate l.n (g.C.RowColumn.cell actors l.first);
}

abbrev pub decreases-loop-n : goal.decreases-loop-n
decreases-loop-n g l = length l.rows - l.n
