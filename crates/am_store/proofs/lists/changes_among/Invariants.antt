use Rattle.std.proofs.Common.{◌≡◌, filter, take}
use Rattle.am_types.specs.Order.{hash_cmp, among}
use Rattle.am_types.specs.Members.{changes}
use Rattle.am_delivery.specs.Waiting.{members_of}
use Rattle.am_store.proofs.lists.changes_among.Given as goal

abbrev pub invariant-loop-entry : goal.invariant-loop-entry
invariant-loop-entry l = l.list ≡ changes (filter (λ m. among hash_cmp l.hashes m.hash) (members_of (take l.entry-index l.entries)))
