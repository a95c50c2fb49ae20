use Rattle.std.proofs.Common.{◌≡◌, take}
use Rattle.am_store.proofs.unseen.Unseen.of.Given as goal

abbrev pub invariant-loop-entry : goal.invariant-loop-entry
invariant-loop-entry l = l.all.entries ≡ take l.entry-index l.entries
