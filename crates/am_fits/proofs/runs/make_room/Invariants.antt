use Rattle.std.proofs.Common.{ℕ, suc, ◌≡◌, ◌-◌, length}
use Rattle.am_fits.specs.Runs.{runs_in}
use Rattle.am_fits.proofs.runs.make_room.Given as goal

abbrev pub invariant-authors : goal.invariant-authors
invariant-authors l = (a : ℕ) → runs_in l.authors.items a ≡ runs_in l.fn.authors.items a

abbrev pub decreases-authors : goal.decreases-authors
decreases-authors l = suc l.author - length l.authors.items
