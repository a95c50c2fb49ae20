use Rattle.std.proofs.Common.{◌≡◌, drop}
use Rattle.am_flags.specs.Flags.{SpellCounts, flags_at}
use Rattle.am_flags.proofs.place.place_behind.Given as goal

abbrev pub invariant-loop-n : goal.invariant-loop-n
invariant-loop-n l = SpellCounts l.at.rest.now × (drop l.n (flags_at l.at.flag l.at.count l.at.rest.now) ≡ drop l.initial.n (flags_at l.initial.at.flag l.initial.at.count l.initial.at.rest.now))

abbrev pub decreases-loop-n : goal.decreases-loop-n
decreases-loop-n l = l.n
