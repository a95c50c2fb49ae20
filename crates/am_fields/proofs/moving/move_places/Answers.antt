use Rattle.std.proofs.Common.{◌≤◌, ◌∙◌, arith, length, map, ap}
use Rattle.std.specs.Prelude.{replicate}
use Rattle.std.proofs.lemmas.List.{length-replicate, length-map}
use Rattle.am_runs.proofs.Parts.{behind_part, taken_part, none_on, none_both, enough_behind, room_part}
use Rattle.am_fields.specs.Moving.{moved}
use Rattle.am_fields.proofs.Moves.{moved_part, moved_behind, as_moved}
use Rattle.am_fields.proofs.moving.move_places.Goals as goal

pub push_alike-requires : goal.push_alike-requires
push_alike-requires c =
    let inv = c.loop-left.invariant in
    let f = moved c.args.known.now c.args.actors.now in
    room_part c.args.places.now c.loop-left.places (map f c.args.from.now) c.args.n c.loop-left.left c.next_alike_within-place.result.1 c.next_alike_within-place.ensures.few inv.few (omega (arith, c.requires.enough, length-map c.args.from.now f)) c.requires.room inv.none inv.written

pub loop-left-preserved : goal.loop-left-preserved
loop-left-preserved c =
    let count = c.next_alike_within-place.result.1 in
    let place = c.next_alike_within-place.result.0 in
    let next = c.next_alike_within-place.ensures in
    let inv = c.loop-left.invariant in
    let f = moved c.args.known.now c.args.actors.now in
    let part = replicate count place in
    let size = length-replicate count place in
    let all : c.args.n ≤ length (map f c.args.from.now) = omega (arith, c.requires.enough, length-map c.args.from.now f) in
    let here = c.moved_place.ensures.place ∙ ap (λ known. moved known c.args.actors.now place) inv.same in
    record {
      few = omega (arith, inv.few);
      enough = enough_behind _ _ part _ count size inv.enough next.next;
      same = c.moved_place.ensures.same ∙ inv.same;
      behind = behind_part _ _ _ part _ _ count size next.few inv.few c.requires.enough inv.behind next.next;
      written = taken_part c.args.places.now c.loop-left.places _ (map f c.args.from.now) (map f c.loop-left.from) (map f c.next_alike_within-place.new.self) (replicate count (f place)) _ _ count (length-replicate count (f place)) next.few inv.few all
          (moved_behind f _ c.args.from.now c.loop-left.from inv.behind) (moved_part f count place c.loop-left.from c.next_alike_within-place.new.self next.next) inv.written
          (as_moved c.loop-left.places _ count _ (f place) here c.in_ok-push_alike.ensures.ok);
      none = none_on _ c.loop-left.places _ inv.none (none_both _ _ _ c.in_ok-push_alike.ensures.failed);
    }
