use Rattle.std.proofs.Common.{◌≡◌}
use Rattle.am_rebuild.specs.Documents.{changes_of}
use Rattle.am_rebuild.proofs.document.rebuild.Given as goal

abbrev pub invariant-loop-change : goal.invariant-loop-change
invariant-loop-change l = l.changes ≡ changes_of l.yielded
