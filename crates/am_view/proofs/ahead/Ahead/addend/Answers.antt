use Rattle.std.proofs.Common.{subst, sym, arith}
use Rattle.std.proofs.lemmas.Int.{ints}
use Rattle.am_types.specs.Views.{value_of}
use Rattle.am_view.specs.Totals.{IsBounded}
use Rattle.am_view.proofs.Bounds.{amount_bounded}
use Rattle.am_view.proofs.ahead.Ahead.addend.Goals as goal

pub returns-in-Some-clause-bounded : goal.returns-in-Some-clause-bounded
returns-in-Some-clause-bounded c =
    let b : IsBounded 1 c.amount_of.result = subst (IsBounded 1) (sym c.amount_of.ensures.amount) (amount_bounded (value_of c.in-Some.first.value) c.slice_known.ensures) in
    (omega (arith, ints, b.0), omega (arith, ints, b.1))
