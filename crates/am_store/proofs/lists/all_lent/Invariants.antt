use Rattle.std.proofs.Common.{◌≡◌, map, take}
use Rattle.am_types.specs.Members.{changes}
use Rattle.am_delivery.specs.Waiting.{members_of}
use Rattle.am_store.proofs.lists.all_lent.Given as goal

abbrev pub invariant-loop-entry : goal.invariant-loop-entry
invariant-loop-entry l = map (λ c. c.now) l.list.items ≡ changes (members_of (take l.entry-index l.entries))
