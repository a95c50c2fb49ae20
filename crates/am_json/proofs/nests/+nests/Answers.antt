use Rattle.std.proofs.Common.{◌≡◌, List, ◌∷◌, true, false, ap, sym, ◌∙◌, refl, arith, true≢false}
use Rattle.serde_json.specs.Data.{Data, item, depth, items_depth}
use Rattle.am_types.specs.Views.{object_of}
use Rattle.am_json.specs.Entries.{Slot}
use Rattle.am_json.specs.Shown.{is_string, is_array, slot_data, shown_by}
use Rattle.am_json.specs.Steps.{inside}
use Rattle.am_json.specs.Stretches.{spread}
use Rattle.am_json.specs.Turns.{Turn, turn_of, turn_items}
use Rattle.am_json.proofs.Levels.{object_zero}
use Rattle.am_json.proofs.ByRuns.{shows_string, shows_array, shows_object, nests_more}
use Rattle.am_json.proofs.Rendered.{letters_shallow}
use Rattle.am_json.proofs.nests.+nests.Goals as goal

pub nests-returns-then-levels-eq0 : goal.nests-returns-then-levels-eq0
nests-returns-then-levels-eq0 t c =
    rw (object_zero c.args.form c.args.levels (spread c.args.entries.now) (object_of c.args.object) c.args.action c.if-levels-eq0.true) (λ h. omega arith, λ h. refl)

pub nests-returns-then-shows_string : goal.nests-returns-then-shows_string
nests-returns-then-shows_string t c =
    let o = object_of c.args.object in
    let es = c.args.entries.now in
    let text : is_string c.args.form c.args.action ≡ true = sym c.shows_string.ensures ∙ c.if-shows_string.true in
    rw (shows_string c.args.form c.args.levels es o c.args.action c.inside-own.result.now c.requires c.inside-own.ensures.own (c.inside-own.ensures.apart c.requires.apart) c.if-levels-eq0.false text) (λ h. omega arith, λ h. refl)

pub nests-returns-then-limit-eq0 : goal.nests-returns-then-limit-eq0
nests-returns-then-limit-eq0 t c =
    let o = object_of c.args.object in
    let es = c.args.entries.now in
    let text : is_string c.args.form c.args.action ≡ false = sym c.shows_string.ensures ∙ c.if-shows_string.false in
    let more = nests_more c.args.form c.args.levels es o c.args.action c.inside-own.result.now c.requires c.inside-own.ensures.own (c.inside-own.ensures.apart c.requires.apart) c.if-levels-eq0.false text in
    (λ h. absurd (true≢false (sym h)), λ h. absurd (omega (arith, more, h, c.if-limit-eq0.true)))

pub nests-returns-then-shows_array : goal.nests-returns-then-shows_array
nests-returns-then-shows_array t c =
    let o = object_of c.args.object in
    let es = c.args.entries.now in
    let text : is_string c.args.form c.args.action ≡ false = sym c.shows_string.ensures ∙ c.if-shows_string.false in
    let list : is_array c.args.action ≡ true = sym c.shows_array.ensures ∙ c.if-shows_array.true in
    let e = ap depth (shows_array c.args.form c.args.levels es o c.args.action c.inside-own.result.now c.requires c.inside-own.ensures.own (c.inside-own.ensures.apart c.requires.apart) c.if-levels-eq0.false text list) in
    (λ h. let small = c.items_nest.ensures.0 h in omega (arith, e, small, c.if-limit-eq0.false), λ h. c.items_nest.ensures.1 (omega (arith, e, h)))

pub nests-returns : goal.nests-returns
nests-returns t c =
    let o = object_of c.args.object in
    let es = c.args.entries.now in
    let text : is_string c.args.form c.args.action ≡ false = sym c.shows_string.ensures ∙ c.if-shows_string.false in
    let list : is_array c.args.action ≡ false = sym c.shows_array.ensures ∙ c.if-shows_array.false in
    let e = ap depth (shows_object c.args.form c.args.levels es o c.args.action c.inside-own.result.now c.requires c.inside-own.ensures.own (c.inside-own.ensures.apart c.requires.apart) c.if-levels-eq0.false text list) in
    (λ h. let small = c.members_nest.ensures.0 h in omega (arith, e, small, c.if-limit-eq0.false), λ h. c.members_nest.ensures.1 (omega (arith, e, h)))

-- ---- the items of a list

-- the letters before a slot nest to no depth
with_turn : (f : Slot → Data) (slots rest : List Turn) (t : Turn) → slots ≡ t ∷ rest → items_depth (turn_items f slots) ≡ items_depth (item (f t.slot) (turn_items f rest))
with_turn f slots rest t is = ap (λ ts. items_depth (turn_items f ts)) is ∙ letters_shallow t.bytes (item (f t.slot) (turn_items f rest))

pub items_nest-returns-then-not-slot_nests : goal.items_nest-returns-then-not-slot_nests
items_nest-returns-then-not-slot_nests t c =
    let f = slot_data c.args.form (shown_by (inside c.args.form c.args.levels (spread c.args.entries.now))) in
    let e = with_turn f c.loop-group.slots c.next.new.self (turn_of c.in-Some.group) c.in-Some.ensures.next in
    let down = c.loop-group.invariant.down in
    (λ h. absurd (true≢false (sym h)), λ h. absurd (true≢false (sym (c.slot_nests.ensures.1 (omega (arith, e, down, h))) ∙ c.if-not-slot_nests.true)))

pub items_nest-loop-group-preserved : goal.items_nest-loop-group-preserved
items_nest-loop-group-preserved t c =
    let f = slot_data c.args.form (shown_by (inside c.args.form c.args.levels (spread c.args.entries.now))) in
    let e = with_turn f c.loop-group.slots c.next.new.self (turn_of c.in-Some.group) c.in-Some.ensures.next in
    let down = c.loop-group.invariant.down in
    let small = c.slot_nests.ensures.0 c.if-not-slot_nests.false in
    record {
      down = omega (arith, e, down);
      up = λ h. c.loop-group.invariant.up (omega (arith, e, small, h));
    }
