use Rattle.std.proofs.Common.{◌≡◌}
use Rattle.am_rebuild.specs.Documents.{changes_of}
use Rattle.am_store.proofs.lists.without_hashes.Given as goal

abbrev pub invariant-loop-change : goal.invariant-loop-change
invariant-loop-change l = l.list ≡ changes_of l.yielded
