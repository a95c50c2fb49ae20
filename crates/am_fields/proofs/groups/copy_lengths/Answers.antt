use Rattle.std.proofs.Common.{◌≤◌, ◌∙◌, ◌+◌, ◌*◌, arith, length, map, Some, ap}
use Rattle.std.specs.Prelude.{replicate, unwrap_or}
use Rattle.std.proofs.lemmas.List.{length-replicate, length-map}
use Rattle.am_runs.proofs.Parts.{behind_part, taken_part, none_on, none_both, enough_behind, room_part}
use Rattle.am_fields.specs.Groups.{counts}
use Rattle.am_fields.proofs.Copies.{given_part, given_behind, sum_within, sum_part}
use Rattle.am_fields.proofs.Moves.{as_moved}
use Rattle.am_fields.proofs.groups.copy_lengths.Goals as goal

pub push_alike-requires : goal.push_alike-requires
push_alike-requires c =
    let inv = c.loop-left.invariant in
    let all : c.args.n ≤ length (map Some (counts c.args.from.now)) = omega (arith, c.requires.enough, length-map c.args.from.now (λ x. unwrap_or x 0), length-map (counts c.args.from.now) Some) in
    room_part c.args.to.now c.loop-left.to (map Some (counts c.args.from.now)) c.args.n c.loop-left.left c.next_alike_within-item.result.1 c.next_alike_within-item.ensures.few inv.few all c.requires.room inv.none inv.written

pub overflow_mul-sum : goal.overflow_mul-sum
overflow_mul-sum c =
    let inv = c.loop-left.invariant in
    let item = c.next_alike_within-item.result.0 in
    let count = c.next_alike_within-item.result.1 in
    let same = ap (λ v. count * v) c.unwrap_or-size.ensures in
    omega (arith, same, c.requires.few, sum_within c.args.from.now c.loop-left.from c.next_alike_within-item.new.self item c.args.n c.loop-left.left count c.loop-left.sum inv.sum inv.behind c.next_alike_within-item.ensures.next)

pub overflow_add-sum : goal.overflow_add-sum
overflow_add-sum c =
    let inv = c.loop-left.invariant in
    let item = c.next_alike_within-item.result.0 in
    let count = c.next_alike_within-item.result.1 in
    let same = ap (λ v. count * v) c.unwrap_or-size.ensures in
    omega (arith, same, c.requires.few, sum_within c.args.from.now c.loop-left.from c.next_alike_within-item.new.self item c.args.n c.loop-left.left count c.loop-left.sum inv.sum inv.behind c.next_alike_within-item.ensures.next)

pub loop-left-preserved : goal.loop-left-preserved
loop-left-preserved c =
    let item = c.next_alike_within-item.result.0 in
    let count = c.next_alike_within-item.result.1 in
    let size = unwrap_or item 0 in
    let next = c.next_alike_within-item.ensures in
    let inv = c.loop-left.invariant in
    let part = replicate count item in
    let long = length-replicate count item in
    let all : c.args.n ≤ length (map Some (counts c.args.from.now)) = omega (arith, c.requires.enough, length-map c.args.from.now (λ x. unwrap_or x 0), length-map (counts c.args.from.now) Some) in
    record {
      few = omega (arith, inv.few);
      enough = enough_behind _ _ part _ count long inv.enough next.next;
      behind = behind_part _ _ _ part _ _ count long next.few inv.few c.requires.enough inv.behind next.next;
      sum = ap (λ v. c.loop-left.sum + count * v) c.unwrap_or-size.ensures ∙ sum_part c.args.from.now c.loop-left.from c.next_alike_within-item.new.self item c.args.n c.loop-left.left count c.loop-left.sum next.few inv.few c.requires.enough inv.sum inv.behind next.next;
      written = taken_part c.args.to.now c.loop-left.to _ (map Some (counts c.args.from.now)) (map Some (counts c.loop-left.from)) (map Some (counts c.next_alike_within-item.new.self)) (replicate count (Some size)) _ _ count (length-replicate count (Some size)) next.few inv.few all
          (given_behind _ c.args.from.now c.loop-left.from inv.behind) (given_part count item c.loop-left.from c.next_alike_within-item.new.self next.next) inv.written
          (as_moved c.loop-left.to _ count _ (Some size) (ap Some c.unwrap_or-size.ensures) c.in_ok-push_alike.ensures.ok);
      none = none_on _ c.loop-left.to _ inv.none (none_both _ _ _ c.in_ok-push_alike.ensures.failed);
    }
