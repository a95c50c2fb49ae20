use Rattle.std.proofs.Common.{◌≡◌, length}
use Rattle.am_types.specs.Views.{id_of}
use Rattle.am_view.specs.Borrowed.{coming}
use Rattle.am_view.specs.Steps.{not_below}
use Rattle.am_view.proofs.ahead.Ahead.pass_below.Given as goal

abbrev pub invariant-loop-self : goal.invariant-loop-self
invariant-loop-self l = not_below (id_of l.id) (coming l.self) ≡ not_below (id_of l.id) (coming l.initial.self)

abbrev pub decreases-loop-self : goal.decreases-loop-self
decreases-loop-self l = length (coming l.self)
