use Rattle.std.proofs.Common.{subst, sym, arith}
use Rattle.std.proofs.lemmas.Int.{ints}
use Rattle.am_types.specs.Views.{value_of}
use Rattle.am_view.specs.Totals.{IsBounded}
use Rattle.am_view.proofs.Bounds.{amount_bounded}
use Rattle.am_view.proofs.scan.Scan.counted.Goals as goal

pub tallied-requires-clause-bounded : goal.tallied-requires-clause-bounded
tallied-requires-clause-bounded c =
    let b : IsBounded 1 c.amount_of.result = subst (IsBounded 1) (sym c.amount_of.ensures.amount) (amount_bounded (value_of c.args.value) c.slice_known.ensures) in
    (omega (arith, ints, b.0), omega (arith, ints, b.1))
