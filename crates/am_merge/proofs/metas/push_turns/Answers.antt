use Rattle.std.proofs.Common.{ℕ, ◌≡◌, ◌+◌, ◌<◌, [], ◌++◌, List, Option, Some, Bor, length, map, get_or, drop, option_map, refl, sym, ap, subst, ◌∙◌, arith}
use Rattle.std.specs.Prelude.{IfSome}
use Rattle.std.specs.List.{AllByRecursion}
use Rattle.std.proofs.lemmas.List.{length-map, get_or-map}
use Rattle.am_types.specs.declared.Change.{Change}
use Rattle.am_types.specs.declared.Meta.{Meta}
use Rattle.am_doccols.specs.Conditions.{IsMetaFor}
use Rattle.am_doccols.specs.Front.{HasMetaRoomFor}
use Rattle.am_merge.specs.ChangeRows.{row_in, moved_by, pushed, woven, change_rows}
use Rattle.am_merge.proofs.Weaving.{taken, goes_on, part_for, part_room, room_of, step_of, at_end}
use Rattle.am_merge.proofs.metas.push_turns.Goals as goal

abbrev lent : Option (Bor Change) → Option Change
lent t = option_map (λ (c : Bor Change). c.now) t

abbrev all_lent : List (Option (Bor Change)) → List (Option Change)
all_lent ts = map lent ts

pub loop-i-init : goal.loop-i-init
loop-i-init c = record {
  actors = refl;
  rows = ([], c.requires.empty, (λ i. woven (row_in c.args.places.now) (moved_by (c.in_ok-old_places.ensures i)) (all_lent c.args.turns.now) c.args.rest.now));
}

-- the turn of the loop
turn_is : (turns : List (Option (Bor Change))) (i : ℕ) (t : Option (Bor Change)) → i < length turns → t ≡ get_or turns i t → get_or (all_lent turns) i (lent t) ≡ lent t
turn_is turns i t l e = get_or-map lent turns i t (lent t) l ∙ ap lent (sym e)

pub push_turn-requires-clause-rows : goal.push_turn-requires-clause-rows
push_turn-requires-clause-rows c =
    let inv = c.loop-i.invariant in
    let new = row_in c.args.places.now in
    let old = moved_by c.in_ok-old_places.old_places.items in
    let ts = all_lent c.args.turns.now in
    let t = lent c.index-turns-i.result in
    let long = length-map c.args.turns.now lent in
    let low : c.loop-i.i < length ts = omega (arith, c.loop-i-test.true) in
    let is = turn_is c.args.turns.now c.loop-i.i c.index-turns-i.result c.loop-i-test.true c.index-turns-i.is in
    let all = taken new old ts c.loop-i.i t low is inv.rows.0 c.loop-i.rest (change_rows c.args.places.now ts c.args.rest.now) inv.rows.2 in
    let good = part_for c.args.writer.now.0 inv.rows.0 (pushed new old t c.loop-i.rest) _ _ all c.requires.all in
    subst (λ (actors : List (List ℕ)). AllByRecursion (IsMetaFor actors) (pushed new (moved_by c.as_slice.result.now) t c.loop-i.rest)) (sym inv.actors)
    (subst (λ (places : List ℕ). AllByRecursion (IsMetaFor c.args.writer.now.0) (pushed new (moved_by places) t c.loop-i.rest)) (sym c.as_slice.ensures.value) good)

pub push_turn-requires-clause-room : goal.push_turn-requires-clause-room
push_turn-requires-clause-room c =
    let inv = c.loop-i.invariant in
    let new = row_in c.args.places.now in
    let old = moved_by c.in_ok-old_places.old_places.items in
    let ts = all_lent c.args.turns.now in
    let t = lent c.index-turns-i.result in
    let long = length-map c.args.turns.now lent in
    let low : c.loop-i.i < length ts = omega (arith, c.loop-i-test.true) in
    let is = turn_is c.args.turns.now c.loop-i.i c.index-turns-i.result c.loop-i-test.true c.index-turns-i.is in
    let all = taken new old ts c.loop-i.i t low is inv.rows.0 c.loop-i.rest (change_rows c.args.places.now ts c.args.rest.now) inv.rows.2 in
    let room = room_of c.loop-i.writer.1 inv.rows.0 inv.rows.1 (pushed new old t c.loop-i.rest) (part_room inv.rows.0 (pushed new old t c.loop-i.rest) _ _ all c.requires.few c.requires.few_deps) in
    subst (λ (places : List ℕ). IfSome c.loop-i.writer.1 (λ metas. HasMetaRoomFor metas (pushed new (moved_by places) t c.loop-i.rest))) (sym c.as_slice.ensures.value) room

pub loop-i-preserved : goal.loop-i-preserved
loop-i-preserved c =
    let inv = c.loop-i.invariant in
    let step = c.in_ok-push_turn.ensures in
    let new = row_in c.args.places.now in
    let old = moved_by c.in_ok-old_places.old_places.items in
    let ts = all_lent c.args.turns.now in
    let t = lent c.index-turns-i.result in
    let long = length-map c.args.turns.now lent in
    let low : c.loop-i.i < length ts = omega (arith, c.loop-i-test.true) in
    let is = turn_is c.args.turns.now c.loop-i.i c.index-turns-i.result c.loop-i-test.true c.index-turns-i.is in
    let done = inv.rows.0 ++ pushed new old t c.loop-i.rest in
    record {
      actors = step.actors ∙ inv.actors;
      rows = (
        done,
        step_of c.loop-i.writer.1 inv.rows.0 inv.rows.1 c.push_turn.new.writer.1 (pushed new (moved_by c.as_slice.result.now) t c.loop-i.rest) step.ok
            ∙ ap (λ (places : List ℕ). Some (inv.rows.0 ++ pushed new (moved_by places) t c.loop-i.rest)) c.as_slice.ensures.value,
        ap (λ (ms : List Meta). done ++ woven new old (drop (c.loop-i.i + 1) ts) ms) step.rest
            ∙ goes_on new old ts c.loop-i.i t low is inv.rows.0 c.loop-i.rest (change_rows c.args.places.now ts c.args.rest.now) inv.rows.2,
      );
    }

pub returns-clause-actors : goal.returns-clause-actors
returns-clause-actors c = c.loop-i.invariant.actors

pub returns-clause-rows : goal.returns-clause-rows
returns-clause-rows c =
    let inv = c.loop-i.invariant in
    let ts = all_lent c.args.turns.now in
    let long = length-map c.args.turns.now lent in
    let old = moved_by c.in_ok-old_places.old_places.items in
    inv.rows.1 ∙ ap (λ (ms : List Meta). Some ms) (at_end (row_in c.args.places.now) old ts c.loop-i.i inv.rows.0 c.loop-i.rest (change_rows c.args.places.now ts c.args.rest.now) (omega (arith, c.loop-i-test.false)) inv.rows.2)
