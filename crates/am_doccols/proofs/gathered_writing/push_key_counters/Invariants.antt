use Rattle.std.proofs.Common.{◌≡◌, ◌++◌, Some, None, map, take}
use Rattle.std.specs.Prelude.{IfSome, IfNone}
use Rattle.am_fields.specs.Layout.{key_counter}
use Rattle.am_doccols.specs.declared.gathered.GatheredRow.{GatheredRow}
use Rattle.am_doccols.proofs.gathered_writing.push_key_counters.Given as goal

abbrev pub invariant-loop-row : goal.invariant-loop-row
invariant-loop-row l =
    IfSome l.initial.to (λ xs. l.to ≡ Some (xs ++ map (λ (g : GatheredRow). key_counter g.op.now.key) (take l.row-index l.rows)))
    × IfNone l.initial.to (l.to ≡ None)
