use Rattle.std.proofs.Common.{◌-◌, ◌≤ℤ◌, ◌<ℤ◌, refl, arith, rules}
use Rattle.std.specs.Prelude.{replicate}
use Rattle.std.proofs.lemmas.Int.{ints}
use Rattle.am_delta.specs.Deltas.{AllBetween, sums_from}
use Rattle.am_delta.proofs.Sums.{as_given, no_sums}
use Rattle.am_delta.proofs.between.is_between_from.Goals as goal

pub returns-then-first-low : goal.returns-then-first-low
returns-then-first-low c =
    let below : c.args.first <ℤ c.args.low = search rules in
    (λ e. absurd (cc), λ all. absurd (omega (arith, ints, below, (all.0).0)))

pub returns-then-first-high : goal.returns-then-first-high
returns-then-first-high c =
    let above : c.args.high <ℤ c.args.first = search rules in
    (λ e. absurd (cc), λ all. absurd (omega (arith, ints, above, (all.0).1)))

pub returns-then-count-le1 : goal.returns-then-count-le1
returns-then-count-le1 c =
    let low : c.args.low ≤ℤ c.args.first = search rules in
    let high : c.args.first ≤ℤ c.args.high = search rules in
    (λ e. ((low, high), no_sums c.args.low c.args.high c.args.first c.args.difference (c.args.count - 1) (omega arith)), λ all. refl)

pub returns-in-None : goal.returns-in-None
returns-in-None c =
    let none = as_given (λ v d l h. AllBetween l h (sums_from v (replicate (c.args.count - 1) c.args.difference)) → ⊥) _ _ _ _ c.ranges.first c.ranges.first c.ranges.low c.ranges.high c.in-None.ensures.none in
    (λ e. absurd (cc), λ all. absurd (none all.1))

pub returns-in-Some : goal.returns-in-Some
returns-in-Some c =
    let low : c.args.low ≤ℤ c.args.first = search rules in
    let high : c.args.first ≤ℤ c.args.high = search rules in
    let some = as_given (λ v d l h. AllBetween l h (sums_from v (replicate (c.args.count - 1) c.args.difference))) _ _ _ _ c.ranges.first c.ranges.first c.ranges.low c.ranges.high c.in-Some.ensures.some.1 in
    (λ e. ((low, high), some), λ all. refl)
