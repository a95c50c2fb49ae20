use Rattle.std.proofs.Common.{◌≡◌, map, take}
use Rattle.am_json.specs.Stretches.{bare}
use Rattle.am_json.proofs.maker.lent.Given as goal

abbrev pub invariant-loop-entry : goal.invariant-loop-entry
invariant-loop-entry l = l.list ≡ map bare (take l.entry-index l.entries)
