use Rattle.std.proofs.Common.{◌≡◌, suc, ◌+◌, ◌-◌, ◌^◌, length, arith, ap, sym, subst, ◌∙◌, true, false, ℤ, ◌+ℤ◌, Some}
use Rattle.std.proofs.lemmas.Int.{ints, to_z-of_z}
use mir.Val.{to_z, of_z, SFits}
use mir.Syntax.{w128}
use Rattle.am_types.specs.Views.{id_of}
use Rattle.am_view.specs.Borrowed.{coming}
use Rattle.am_view.specs.Seen.{seen_by}
use Rattle.am_view.specs.Steps.{tally}
use Rattle.am_view.specs.Totals.{IsBounded, IsWithin}
use Rattle.am_view.proofs.Bounds.{bounded_sum, bounded_more}
use Rattle.am_view.proofs.TallySteps.{tally_step, tally_skip}
use Rattle.am_view.proofs.tally.tallied.Goals as goal

pub sum-total-requires-clause-total : goal.sum-total-requires-clause-total
sum-total-requires-clause-total c =
    let inv = c.loop-id.invariant in
    let old = c.loop-id.succs in
    let new = c.next.new.self in
    let count : length old ≡ suc (length new) = ap length c.in-Some.ensures.next in
    bounded_more (2 ^ 22 + 1 - length old) (2 ^ 22) (to_z w128 c.loop-id.total-bits) (omega arith) inv.2

pub loop-id-preserved-in-Some-addend : goal.loop-id-preserved-in-Some-addend
loop-id-preserved-in-Some-addend c =
    let inv = c.loop-id.invariant in
    let total : ℤ = to_z w128 c.loop-id.total-bits in
    let more : ℤ = c.in-Some-addend.more in
    let old = c.loop-id.succs in
    let new = c.next.new.self in
    let count : length old ≡ suc (length new) = ap length c.in-Some.ensures.next in
    let some : c.addend.result ≡ Some more = c.in-Some-addend.is in
    let more_bounded : IsBounded 1 more = subst (IsWithin 1) some c.addend.ensures.bounded in
    let more_fits : SFits w128 more = record { sfits = omega (arith, ints, more_bounded.0, more_bounded.1) } in
    let result_fits : SFits w128 c.sum-total.result = record { sfits = c.sum-total.type_inv } in
    let sum : c.sum-total.result ≡ total +ℤ more = c.sum-total.ensures ∙ ap (λ z. total +ℤ z) (to_z-of_z w128 more more_fits) in
    let is : to_z w128 (of_z w128 c.sum-total.result) ≡ total +ℤ more = to_z-of_z w128 c.sum-total.result result_fits ∙ sum in
    let covered : seen_by c.args.clock.now (id_of c.in-Some.id) ≡ true = ap (λ k. seen_by k (id_of c.in-Some.id)) (sym inv.3) ∙ sym c.covers.ensures.covered ∙ c.if-covers.true in
    let step = tally_step (seen_by c.args.clock.now) total more (id_of c.in-Some.id) new (coming c.loop-id.ahead) (coming c.pass_below.new.self) covered c.pass_below.ensures (sym c.addend.ensures.adds ∙ some) in
    let shifted = ap (λ ids. tally (seen_by c.args.clock.now) total ids (coming c.loop-id.ahead)) (sym c.in-Some.ensures.next) in
    let bounded : IsBounded (2 ^ 22 + 1 - length old + 1) (total +ℤ more) = bounded_sum (2 ^ 22 + 1 - length old) total more inv.2 more_bounded in
    let few = inv.1 in (
      ap (λ t. tally (seen_by c.args.clock.now) t new (coming c.pass_below.new.self)) is ∙ sym step ∙ shifted ∙ inv.0,
      omega arith,
      subst (IsBounded (2 ^ 22 + 1 - length new)) (sym is) (bounded_more (2 ^ 22 + 1 - length old + 1) (2 ^ 22 + 1 - length new) (total +ℤ more) (omega arith) bounded),
      c.covers.ensures.same ∙ inv.3,
    )

pub loop-id-preserved : goal.loop-id-preserved
loop-id-preserved c =
    let inv = c.loop-id.invariant in
    let total : ℤ = to_z w128 c.loop-id.total-bits in
    let old = c.loop-id.succs in
    let new = c.next.new.self in
    let count : length old ≡ suc (length new) = ap length c.in-Some.ensures.next in
    let uncovered : seen_by c.args.clock.now (id_of c.in-Some.id) ≡ false = ap (λ k. seen_by k (id_of c.in-Some.id)) (sym inv.3) ∙ sym c.covers.ensures.covered ∙ c.if-covers.false in
    let skip = tally_skip (seen_by c.args.clock.now) total (id_of c.in-Some.id) new (coming c.loop-id.ahead) uncovered in
    let shifted = ap (λ ids. tally (seen_by c.args.clock.now) total ids (coming c.loop-id.ahead)) (sym c.in-Some.ensures.next) in
    let few = inv.1 in (
      sym skip ∙ shifted ∙ inv.0,
      omega arith,
      bounded_more (2 ^ 22 + 1 - length old) (2 ^ 22 + 1 - length new) total (omega arith) inv.2,
      c.covers.ensures.same ∙ inv.3,
    )
