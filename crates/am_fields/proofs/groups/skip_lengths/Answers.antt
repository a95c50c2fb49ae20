use Rattle.std.proofs.Common.{◌∙◌, ◌+◌, ◌*◌, arith, ap}
use Rattle.std.specs.Prelude.{replicate}
use Rattle.std.proofs.lemmas.List.{length-replicate}
use Rattle.am_runs.proofs.Parts.{behind_part, enough_behind}
use Rattle.am_fields.proofs.Copies.{sum_within, sum_part}
use Rattle.am_fields.proofs.groups.skip_lengths.Goals as goal

pub overflow_mul-sum : goal.overflow_mul-sum
overflow_mul-sum c =
    let inv = c.loop-left.invariant in
    let item = c.next_alike_within-item.result.0 in
    let count = c.next_alike_within-item.result.1 in
    let same = ap (λ v. count * v) c.unwrap_or-size.ensures in
    omega (arith, same, c.requires.few, sum_within c.args.from.now c.loop-left.from c.next_alike_within-item.new.self item c.args.n c.loop-left.left count c.loop-left.sum inv.sum inv.behind c.next_alike_within-item.ensures.next)

pub overflow_add-sum : goal.overflow_add-sum
overflow_add-sum c =
    let inv = c.loop-left.invariant in
    let item = c.next_alike_within-item.result.0 in
    let count = c.next_alike_within-item.result.1 in
    let same = ap (λ v. count * v) c.unwrap_or-size.ensures in
    omega (arith, same, c.requires.few, sum_within c.args.from.now c.loop-left.from c.next_alike_within-item.new.self item c.args.n c.loop-left.left count c.loop-left.sum inv.sum inv.behind c.next_alike_within-item.ensures.next)

pub loop-left-preserved : goal.loop-left-preserved
loop-left-preserved c =
    let item = c.next_alike_within-item.result.0 in
    let count = c.next_alike_within-item.result.1 in
    let next = c.next_alike_within-item.ensures in
    let inv = c.loop-left.invariant in
    let part = replicate count item in
    let long = length-replicate count item in
    record {
      few = omega (arith, inv.few);
      enough = enough_behind _ _ part _ count long inv.enough next.next;
      behind = behind_part _ _ _ part _ _ count long next.few inv.few c.requires.enough inv.behind next.next;
      sum = ap (λ v. c.loop-left.sum + count * v) c.unwrap_or-size.ensures ∙ sum_part c.args.from.now c.loop-left.from c.next_alike_within-item.new.self item c.args.n c.loop-left.left count c.loop-left.sum next.few inv.few c.requires.enough inv.sum inv.behind next.next;
    }
