use Rattle.std.proofs.Common.{◌≡◌, ◌∷◌, ◌++◌, [], List, map, take}
use Rattle.am_types.specs.Operations.{Operation}
use Rattle.am_places.specs.Numbered.{operation_of}
use Rattle.am_merge.specs.Aims.{AreAims, means_id, one_at}
use Rattle.am_merge.specs.Naming.{Named}
use Rattle.am_merge.proofs.AimLaws.{by_id}
use Rattle.am_merge.proofs.aiming.push_predecessors.Given as goal

abbrev pub invariant-loop-i : goal.invariant-loop-i
invariant-loop-i l = (ns : List Named) (x : Operation) → one_at (map operation_of l.operations) l.place ≡ x ∷ [] → AreAims means_id (map operation_of l.operations) ns l.initial.aims.items
    → AreAims means_id (map operation_of l.operations) (ns ++ map (λ p. by_id p x) (take l.i x.op.preds)) l.aims.items
