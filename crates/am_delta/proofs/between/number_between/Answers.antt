use Rattle.std.proofs.Common.{rules, arith, subst, ◌∙◌, ◌≡◌, FitsSigned, w64, to_z, of_z, pos, replicate, Some, ◌+ℤ◌, ◌*ℤ◌, ◌≤ℤ◌}
use Rattle.am_delta.specs.Deltas.{AllBetween, sums_from}
use Rattle.std.proofs.lemmas.Int.{to_z-of_z}
use Rattle.am_delta.proofs.Sums.{first_none, last_none, both_ends, as_given}
use Rattle.am_delta.proofs.between.number_between.Goals as goal

pub returns-in-None-clause-none : goal.returns-in-None-clause-none
returns-in-None-clause-none c =
    first_none _ _ _ _ _ c.requires
    (as_given (λ v d l h. l ≤ℤ (v +ℤ pos 1 *ℤ d) → (v +ℤ pos 1 *ℤ d) ≤ℤ h → ⊥) _ _ _ _ c.ranges.value c.ranges.difference c.ranges.low c.ranges.high c.in-None.ensures.none)

pub returns-then-k-eq1-clause-some : goal.returns-then-k-eq1-clause-some
returns-then-k-eq1-clause-some c =
    let one = c.in-Some.first in
    let p = as_given (λ v d l h. (one ≡ v +ℤ pos 1 *ℤ d) × (l ≤ℤ one) × (one ≤ℤ h)) _ _ _ _ c.ranges.value c.ranges.difference c.ranges.low c.ranges.high c.in-Some.ensures.some in
    let fits : FitsSigned w64 one = search rules in
    let k : 1 ≡ c.args.k = omega (arith, c.if-k-eq1.true) in
    subst (λ k. (to_z w64 (of_z w64 one) ≡ c.args.value +ℤ pos k *ℤ c.args.difference) × AllBetween c.args.low c.args.high (sums_from c.args.value (replicate k (Some c.args.difference))))
    k (to_z-of_z w64 one fits ∙ p.0, both_ends c.args.low c.args.high c.args.value c.args.difference one one 1 (omega arith) p.0 p.1 p.2 p.0 p.1 p.2)

pub returns-in-None-end_between-clause-none : goal.returns-in-None-end_between-clause-none
returns-in-None-end_between-clause-none c =
    last_none _ _ _ _ _ c.requires
    (as_given (λ v d l h. l ≤ℤ (v +ℤ pos c.args.k *ℤ d) → (v +ℤ pos c.args.k *ℤ d) ≤ℤ h → ⊥) _ _ _ _ c.ranges.value c.ranges.difference c.ranges.low c.ranges.high c.in-None-end_between.ensures.none)

pub returns-in-Some-end_between-clause-some : goal.returns-in-Some-end_between-clause-some
returns-in-Some-end_between-clause-some c =
    let end = c.in-Some-end_between.end in
    let one = c.in-Some.first in
    let p = as_given (λ v d l h. (one ≡ v +ℤ pos 1 *ℤ d) × (l ≤ℤ one) × (one ≤ℤ h)) _ _ _ _ c.ranges.value c.ranges.difference c.ranges.low c.ranges.high c.in-Some.ensures.some in
    let q = as_given (λ v d l h. (end ≡ v +ℤ pos c.args.k *ℤ d) × (l ≤ℤ end) × (end ≤ℤ h)) _ _ _ _ c.ranges.value c.ranges.difference c.ranges.low c.ranges.high c.in-Some-end_between.ensures.some in
    let fits : FitsSigned w64 end = search rules in
    (to_z-of_z w64 end fits ∙ q.0, both_ends _ _ _ _ one end _ c.requires p.0 p.1 p.2 q.0 q.1 q.2)
