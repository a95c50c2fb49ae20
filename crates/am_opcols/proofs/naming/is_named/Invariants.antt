use Rattle.std.proofs.Common.{length}
use Rattle.std.specs.List.{flat_map}
use Rattle.am_fields.specs.Actors.{IsListed}
use Rattle.am_opcols.specs.Others.{actors_of}
use Rattle.am_opcols.proofs.naming.is_named.Given as goal

abbrev pub invariant-loop-op : goal.invariant-loop-op
invariant-loop-op l =
    (IsListed (flat_map actors_of l.rest) l.actor → IsListed (flat_map actors_of l.ops) l.actor)
    × (IsListed (flat_map actors_of l.ops) l.actor → IsListed (flat_map actors_of l.rest) l.actor)

abbrev pub decreases-loop-op : goal.decreases-loop-op
decreases-loop-op l = length l.rest
