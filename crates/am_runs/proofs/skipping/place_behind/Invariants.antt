use Rattle.std.proofs.Common.{◌≡◌, ◌≤◌, drop}
use Rattle.am_runs.specs.Walking.{entries, HasEntries}
use Rattle.am_runs.specs.Positions.{place_of}
use Rattle.am_runs.proofs.skipping.place_behind.Given as goal

abbrev pub invariant-loop-n : goal.invariant-loop-n
invariant-loop-n g l =
    let end = g.K.Item.end_of in
    (l.n ≤ l.left)
    × HasEntries end l.left (place_of l.at)
    × (drop l.n (entries end l.left (place_of l.at))
    ≡ drop l.initial.n (entries end l.initial.left (place_of l.initial.at)))

abbrev pub decreases-loop-n : goal.decreases-loop-n
decreases-loop-n g l = l.n
