use Rattle.std.proofs.Common.{◌≡◌, ◌↔◌, length}
use Rattle.am_values.specs.declared.nulls.Nulls.TheVariants.{AreRefused}
use Rattle.am_values.specs.Columns.{NoneNull}
use Rattle.am_values.specs.Cutting.{AreCut}
use Rattle.am_values.proofs.cutting.are_cut.Given as goal

abbrev pub invariant-loop-number : goal.invariant-loop-number
invariant-loop-number l = (AreCut l.numbers l.rest × (l.nulls ≡ AreRefused → NoneNull l.numbers)) ↔ (AreCut l.initial.numbers l.initial.raw × (l.nulls ≡ AreRefused → NoneNull l.initial.numbers))

abbrev pub decreases-loop-number : goal.decreases-loop-number
decreases-loop-number l = length l.numbers
