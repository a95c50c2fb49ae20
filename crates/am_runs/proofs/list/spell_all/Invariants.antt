use Rattle.std.proofs.Common.{◌≡◌, ◌++◌, take}
use Rattle.am_runs.specs.Listing.{spelled}
use Rattle.am_runs.proofs.list.spell_all.Given as goal

abbrev pub invariant-loop-value : goal.invariant-loop-value
invariant-loop-value g l = l.out.items ≡ l.initial.out.items ++ spelled g.K.Spells.spelling (take l.value-index l.values)
