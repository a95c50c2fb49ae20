use Rattle.std.proofs.Common.{arith, ap, ◌*◌, length, length-append}
use Rattle.std.specs.Prelude.{replicate}
use Rattle.std.proofs.lemmas.List.{length-replicate}
use Rattle.am_fields.proofs.Copies.{total_part}
use Rattle.am_fields.proofs.groups.sum_of.Goals as goal

pub overflow_mul-sum : goal.overflow_mul-sum
overflow_mul-sum c =
    let item = c.next_alike_within-item.result.0 in
    let count = c.next_alike_within-item.result.1 in
    let same = ap (λ v. count * v) c.unwrap_or-size.ensures in
    omega (arith, same, c.requires, c.loop-rest.invariant, total_part c.loop-rest.rest c.next_alike_within-item.new.self item count c.next_alike_within-item.ensures.next)

pub overflow_add-sum : goal.overflow_add-sum
overflow_add-sum c =
    let item = c.next_alike_within-item.result.0 in
    let count = c.next_alike_within-item.result.1 in
    let same = ap (λ v. count * v) c.unwrap_or-size.ensures in
    omega (arith, same, c.requires, c.loop-rest.invariant, total_part c.loop-rest.rest c.next_alike_within-item.new.self item count c.next_alike_within-item.ensures.next)

pub loop-rest-preserved : goal.loop-rest-preserved
loop-rest-preserved c =
    let item = c.next_alike_within-item.result.0 in
    let count = c.next_alike_within-item.result.1 in
    let same = ap (λ v. count * v) c.unwrap_or-size.ensures in
    omega (arith, same, c.loop-rest.invariant, total_part c.loop-rest.rest c.next_alike_within-item.new.self item count c.next_alike_within-item.ensures.next)

pub loop-rest-smaller : goal.loop-rest-smaller
loop-rest-smaller c =
    let item = c.next_alike_within-item.result.0 in
    let count = c.next_alike_within-item.result.1 in
    omega (arith, c.next_alike_within-item.ensures.some, ap length c.next_alike_within-item.ensures.next, length-append (replicate count item) c.next_alike_within-item.new.self, length-replicate count item)
