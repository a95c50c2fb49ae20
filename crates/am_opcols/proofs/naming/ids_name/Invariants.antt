use Rattle.std.proofs.Common.{map, length}
use Rattle.am_fields.specs.Actors.{IsListed}
use Rattle.am_opcols.proofs.naming.ids_name.Given as goal

abbrev pub invariant-loop-id : goal.invariant-loop-id
invariant-loop-id l =
    (IsListed (map (λ id. id.actor) l.rest) l.actor → IsListed (map (λ id. id.actor) l.fn.ids) l.actor)
    × (IsListed (map (λ id. id.actor) l.fn.ids) l.actor → IsListed (map (λ id. id.actor) l.rest) l.actor)

abbrev pub decreases-loop-id : goal.decreases-loop-id
decreases-loop-id l = length l.rest
