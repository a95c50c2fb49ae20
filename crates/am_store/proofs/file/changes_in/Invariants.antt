use Rattle.std.proofs.Common.{◌≤◌, ◌+◌, length}
use Rattle.am_store.specs.Reading.{HasRead}
use Rattle.am_store.proofs.file.changes_in.Given as goal

abbrev pub invariant-chunks : goal.invariant-chunks
invariant-chunks l = record {
  read : HasRead l.fn.only_changes l.fn.bytes l.rest l.changes l.number;
  few : l.number + length l.rest ≤ length l.fn.bytes + 1;
}

abbrev pub decreases-chunks : goal.decreases-chunks
decreases-chunks l = length l.rest
