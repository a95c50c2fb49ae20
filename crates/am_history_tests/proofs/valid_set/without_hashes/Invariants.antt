use Rattle.std.proofs.Common.{◌≡◌, vec_items}
use Rattle.am_rebuild.specs.Documents.{changes_of}
use Rattle.am_history_tests.proofs.valid_set.without_hashes.Given as goal

abbrev pub invariant-loop-change : goal.invariant-loop-change
invariant-loop-change l = vec_items l.changes ≡ changes_of l.yielded
