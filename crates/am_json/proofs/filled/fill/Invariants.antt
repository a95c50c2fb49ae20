use Rattle.std.proofs.Common.{◌≡◌, ◌++◌, length}
use Rattle.am_json.specs.Stretches.{spread, AreKept}
use Rattle.am_json.proofs.filled.fill.Given as goal

abbrev pub invariant-loop : goal.invariant-loop
invariant-loop g l = record {
  kept : AreKept l.form l.entries;
  all : spread l.entries ++ g.S.EntrySource.entries l.source ≡ spread l.initial.entries ++ g.S.EntrySource.entries l.initial.source;
}

abbrev pub decreases-loop : goal.decreases-loop
decreases-loop g l = length (g.S.EntrySource.entries l.source)
