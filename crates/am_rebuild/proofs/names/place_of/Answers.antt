use Rattle.std.proofs.Common.{ℕ, List, rules}
use Rattle.std.specs.Borrow.{Bor}
use Rattle.std.specs.Ordering.{is_lt}
use Rattle.std.proofs.lemmas.List.Sorted.{IsPartitionPoint-from_clause}
use Rattle.am_types.specs.Order.{bytes_cmp}
use Rattle.am_rebuild.proofs.Placed.{place_is, partitioned}
use Rattle.am_rebuild.proofs.names.place_of.Goals as goal

pub returns : goal.returns
returns c =
    place_is c.args.names.now c.requires.sorted c.args.actor.now c.requires.named c.partition_point.result
    (IsPartitionPoint-from_clause (λ (y : Bor (List ℕ)). is_lt (bytes_cmp y.now c.args.actor.now)) c.args.names.now _ c.partition_point.ensures.partitioned (partitioned c.args.names.now c.requires.sorted c.args.actor.now) (λ a r q k. search rules))
