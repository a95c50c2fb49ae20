use Rattle.std.proofs.Common.{arith, ap, refl, ◌*◌}
use Rattle.am_fields.proofs.Copies.{total_part}
use Rattle.am_fields.proofs.GivenAlike.{IfNone-from, given_kept}
use Rattle.am_fields.proofs.groups.total_of.Goals as goal

pub returns-in_err-sum-clause-none : goal.returns-in_err-sum-clause-none
returns-in_err-sum-clause-none c =
    let item = c.next_alike_within-item.result.0 in
    let count = c.next_alike_within-item.result.1 in
    let same = ap (λ v. count * v) c.unwrap_or.ensures in
    let part = total_part c.loop-rest.rest c.next_alike_within-item.new.self item count c.next_alike_within-item.ensures.next in
    IfNone-from c.from_residual.result _ (λ g. omega (arith, same, c.loop-rest.invariant.0, part, c.in_err-sum.ensures.none))

pub loop-rest-preserved : goal.loop-rest-preserved
loop-rest-preserved c =
    let item = c.next_alike_within-item.result.0 in
    let count = c.next_alike_within-item.result.1 in
    let same = ap (λ v. count * v) c.unwrap_or.ensures in
    let part = total_part c.loop-rest.rest c.next_alike_within-item.new.self item count c.next_alike_within-item.ensures.next in
    let sum = c.in_ok-sum.ensures.some in
    let kept = given_kept c.args.nulls count item c.next_alike_within-item.new.self c.loop-rest.rest c.next_alike_within-item.ensures.next (c.if-not-allow.ensures.0 refl) in
    let inv = c.loop-rest.invariant in
    (omega (arith, same, inv.0, part, sum.0), sum.1, ((λ g. inv.2.0 (kept.0 g)), (λ g. kept.1 (inv.2.1 g))))
