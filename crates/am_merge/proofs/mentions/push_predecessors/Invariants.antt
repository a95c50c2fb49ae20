use Rattle.std.proofs.Common.{◌≡◌, ◌++◌, map, take}
use Rattle.am_types.specs.declared.ObjId.TheVariants.{Root}
use Rattle.am_places.specs.Numbered.{operation_of}
use Rattle.am_merge.specs.Mentions.{mentioned}
use Rattle.am_merge.specs.Naming.{Named}
use Rattle.am_merge.proofs.mentions.push_predecessors.Given as goal

abbrev pub invariant-loop-i : goal.invariant-loop-i
invariant-loop-i l = map mentioned l.all.items ≡ map mentioned l.initial.all.items ++ map (λ p. let n : Named = record { obj = Root; id = p; operation = operation_of l.x } in n) (take l.i (operation_of l.x).op.preds)
