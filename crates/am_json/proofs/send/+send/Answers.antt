use Rattle.std.proofs.Common.{◌≡◌, ◌≤◌, [], ◌∷◌, ◌+◌, drop, map, true, false, sym, ◌∙◌, ap, subst, arith, rules}
use Rattle.std.proofs.lemmas.List.{drop_all, drop_more}
use Rattle.std.proofs.lemmas.Result.{on_ok_weaker}
use Rattle.serde_json.specs.Data.{string, item, member, depth, items_depth, members_depth}
use Rattle.serde_json.specs.View.{items_of}
use Rattle.am_types.specs.Views.{object_of}
use Rattle.am_types.specs.declared.Key.TheVariants.{Name}
use Rattle.am_json.specs.Shown.{shown_by, slot_data, pair, id_text, is_string, is_array}
use Rattle.am_json.specs.Sending.{SendsValue, SendsItems, SendsMembers}
use Rattle.am_json.specs.Steps.{inside, slot_of, member_at, named}
use Rattle.am_json.specs.Stretches.{spread, heads}
use Rattle.am_json.specs.Turns.{turn_of, slots_of, letter_items, turn_items}
use Rattle.am_json.proofs.ByRuns.{shows_string, shows_array, shows_object}
use Rattle.am_json.proofs.Levels.{object_zero}
use Rattle.am_json.proofs.Rendered.{letters_shallow}
use Rattle.am_json.proofs.Sent.{sends_name}
use Rattle.am_json.proofs.send.+send.Goals as goal

pub send_object-returns-then-levels-eq0-clause-sent : goal.send_object-returns-then-levels-eq0-clause-sent
send_object-returns-then-levels-eq0-clause-sent g t c =
    rw (object_zero c.args.form c.args.levels (spread c.args.entries.now) (object_of c.args.object) c.args.action c.if-levels-eq0.true) c.unit.ensures

pub send_object-returns-then-shows_string-clause-sent : goal.send_object-returns-then-shows_string-clause-sent
send_object-returns-then-shows_string-clause-sent g t c =
    let text : is_string c.args.form c.args.action ≡ true = sym c.shows_string.ensures ∙ c.if-shows_string.true in
    rw (shows_string c.args.form c.args.levels c.args.entries.now (object_of c.args.object) c.args.action c.inside-own.result.now c.requires c.inside-own.ensures.own (c.inside-own.ensures.apart c.requires.apart) c.if-levels-eq0.false text)
    c.send_string.ensures

pub send_object-returns-then-shows_array-clause-sent : goal.send_object-returns-then-shows_array-clause-sent
send_object-returns-then-shows_array-clause-sent g t c =
    let text : is_string c.args.form c.args.action ≡ false = sym c.shows_string.ensures ∙ c.if-shows_string.false in
    let list : is_array c.args.action ≡ true = sym c.shows_array.ensures ∙ c.if-shows_array.true in
    rw (shows_array c.args.form c.args.levels c.args.entries.now (object_of c.args.object) c.args.action c.inside-own.result.now c.requires c.inside-own.ensures.own (c.inside-own.ensures.apart c.requires.apart) c.if-levels-eq0.false text list)
    c.send_array.ensures.sent

pub send_object-returns-clause-sent : goal.send_object-returns-clause-sent
send_object-returns-clause-sent g t c =
    let text : is_string c.args.form c.args.action ≡ false = sym c.shows_string.ensures ∙ c.if-shows_string.false in
    let list : is_array c.args.action ≡ false = sym c.shows_array.ensures ∙ c.if-shows_array.false in
    rw (shows_object c.args.form c.args.levels c.args.entries.now (object_of c.args.object) c.args.action c.inside-own.result.now c.requires c.inside-own.ensures.own (c.inside-own.ensures.apart c.requires.apart) c.if-levels-eq0.false text list)
    c.send_map.ensures.sent

pub send_pair-returns-clause-sent : goal.send_pair-returns-clause-sent
send_pair-returns-clause-sent g t c =
    let first = g.S.Serializer.written c.begin_seq.new.self in
    let told = g.S.Serializer.written c.send_id.new.out in
    on_ok_weaker c.end_seq.result (λ e. (
      first,
      c.in_ok-begin_seq.ensures,
      (told, subst (λ i. SendsValue (string (id_text i)) first told) c.id.ensures c.in_ok-send_id.ensures, (g.S.Serializer.written c.send_entry.new.out, c.in_ok-send_entry.ensures.sent, e)),
    )) c.end_seq.ensures

pub send_pairs-loop-entry-preserved : goal.send_pairs-loop-entry-preserved
send_pairs-loop-entry-preserved g t c =
    let f = pair (shown_by (inside c.args.form c.args.levels (spread c.args.entries.now))) in
    let xs = c.args.own.now in
    let i = c.loop-entry.entry-index in
    let x = c.entry-item.result in
    let here : drop i xs ≡ x ∷ drop (i + 1) xs = drop_more xs i x c.loop-entry-test.true ∙ ap (λ y. y ∷ drop (i + 1) xs) (sym c.entry-item.is) in
    let small = c.in_ok-send_pair.ensures.fits in
    record {
      sent = λ end h. c.loop-entry.invariant.sent end (subst (λ ys. SendsItems (items_of (map f (heads ys))) (g.S.Serializer.written c.loop-entry.out) end) (sym here)
          (g.S.Serializer.written c.send_pair.new.out, c.in_ok-send_pair.ensures.sent, h));
      fits = λ h. c.loop-entry.invariant.fits (subst (λ ys. items_depth (items_of (map f (heads ys))) ≤ c.args.limit) (sym here) (omega (arith, small, h)));
    }

pub send_pairs-returns-clause-sent : goal.send_pairs-returns-clause-sent
send_pairs-returns-clause-sent g t c =
    let f = pair (shown_by (inside c.args.form c.args.levels (spread c.args.entries.now))) in
    let xs = c.args.own.now in
    let first = g.S.Serializer.written c.begin_seq.new.self in
    let end = g.S.Serializer.written c.end_seq.new.self in
    let none : drop c.loop-entry.entry-index xs ≡ [] = drop_all c.loop-entry.entry-index xs (omega arith) in
    on_ok_weaker c.end_seq.result (λ e. (
      first,
      c.in_ok-begin_seq.ensures,
      c.loop-entry.invariant.sent end (subst (λ ys. SendsItems (items_of (map f (heads ys))) (g.S.Serializer.written c.loop-entry.out) end) (sym none) e),
    )) c.end_seq.ensures

pub send_array-loop-group-preserved : goal.send_array-loop-group-preserved
send_array-loop-group-preserved g t c =
    let f = slot_data c.args.form (shown_by (inside c.args.form c.args.levels (spread c.args.entries.now))) in
    let behind = item (f (slot_of c.in-Some.group)) (turn_items f c.next.new.self) in
    let small = c.in_ok-send_slot.ensures.fits in
    let shallow = letters_shallow (turn_of c.in-Some.group).bytes behind in
    record {
      sent = λ end h. c.loop-group.invariant.sent end (subst (λ ss. SendsItems (turn_items f ss) (g.S.Serializer.written c.loop-group.out) end) (sym c.in-Some.ensures.next)
          (subst (λ bs. SendsItems (letter_items bs behind) (g.S.Serializer.written c.loop-group.out) end) c.letters_before.ensures.text
          (c.in_ok-send_letters.ensures behind end (g.S.Serializer.written c.send_slot.new.out, c.in_ok-send_slot.ensures.sent, h))));
      fits = λ h. c.loop-group.invariant.fits (subst (λ ss. items_depth (turn_items f ss) ≤ c.args.limit) (sym c.in-Some.ensures.next) (omega (arith, shallow, small, h)));
    }

pub send_array-returns-clause-sent : goal.send_array-returns-clause-sent
send_array-returns-clause-sent g t c =
    let f = slot_data c.args.form (shown_by (inside c.args.form c.args.levels (spread c.args.entries.now))) in
    let first = g.S.Serializer.written c.begin_seq.new.self in
    let end = g.S.Serializer.written c.end_seq.new.self in
    let none : c.loop-group.slots ≡ [] = search rules in
    on_ok_weaker c.end_seq.result (λ e. (
      first,
      c.in_ok-begin_seq.ensures,
      c.loop-group.invariant.sent end (subst (λ ss. SendsItems (turn_items f ss) (g.S.Serializer.written c.loop-group.out) end) (sym none) e),
    )) c.end_seq.ensures

-- a slot with a name is a member
pub send_map-loop-group-preserved-in-Continue-branch-3 : goal.send_map-loop-group-preserved-in-Continue-branch-3
send_map-loop-group-preserved-in-Continue-branch-3 g t c =
    let f = slot_data c.args.form (shown_by (inside c.args.form c.args.levels (spread c.args.entries.now))) in
    let key = c.in-Some.group.winner.now.entry.slot in
    let d = f (slot_of c.in-Some.group) in
    let ms = named f (slots_of c.next.new.self) in
    let is : c.in-Some.group.winner.now.entry.slot ≡ Name c.in-Name.name.now = search rules in
    let more : member_at key d ms ≡ member c.in-Name.name.now d ms = ap (λ k. member_at k d ms) is in
    let small = c.in_ok-send_slot.ensures.fits in
    record {
      fits = λ h. c.loop-group.invariant.fits (subst (λ ss. members_depth (named f (slots_of ss)) ≤ c.args.limit) (sym c.in-Some.ensures.next)
          (subst (λ ns. members_depth ns ≤ c.args.limit) (sym more) (omega (arith, small, h))));
      sent = λ end h. c.loop-group.invariant.sent end (subst (λ ss. SendsMembers (named f (slots_of ss)) (g.S.Serializer.written c.loop-group.out) end) (sym c.in-Some.ensures.next)
          (sends_name key c.in-Name.name.now d ms (g.S.Serializer.written c.loop-group.out) end is (
            g.S.Serializer.written c.key.new.self,
            g.S.Serializer.written c.send_slot.new.out,
            c.in_ok-key.ensures,
            c.in_ok-send_slot.ensures.sent,
            h,
          )));
    }

-- another shows nothing
pub send_map-loop-group-preserved : goal.send_map-loop-group-preserved
send_map-loop-group-preserved g t c =
    let f = slot_data c.args.form (shown_by (inside c.args.form c.args.levels (spread c.args.entries.now))) in
    let d = f (slot_of c.in-Some.group) in
    let ms = named f (slots_of c.next.new.self) in
    let none : member_at c.in-Some.group.winner.now.entry.slot d ms ≡ ms = search rules in
    record {
      sent = λ end h. c.loop-group.invariant.sent end (subst (λ ss. SendsMembers (named f (slots_of ss)) (g.S.Serializer.written c.loop-group.out) end) (sym c.in-Some.ensures.next)
          (subst (λ ns. SendsMembers ns (g.S.Serializer.written c.loop-group.out) end) (sym none) h));
      fits = λ h. c.loop-group.invariant.fits (subst (λ ss. members_depth (named f (slots_of ss)) ≤ c.args.limit) (sym c.in-Some.ensures.next)
          (subst (λ ns. members_depth ns ≤ c.args.limit) (sym none) h));
    }

pub send_map-returns-clause-sent : goal.send_map-returns-clause-sent
send_map-returns-clause-sent g t c =
    let f = slot_data c.args.form (shown_by (inside c.args.form c.args.levels (spread c.args.entries.now))) in
    let first = g.S.Serializer.written c.begin_map.new.self in
    let end = g.S.Serializer.written c.end_map.new.self in
    let none : c.loop-group.slots ≡ [] = search rules in
    on_ok_weaker c.end_map.result (λ e. (
      first,
      c.in_ok-begin_map.ensures,
      c.loop-group.invariant.sent end (subst (λ ss. SendsMembers (named f (slots_of ss)) (g.S.Serializer.written c.loop-group.out) end) (sym none) e),
    )) c.end_map.ensures

-- ---- depths

pub send_object-returns-then-levels-eq0-clause-fits : goal.send_object-returns-then-levels-eq0-clause-fits
send_object-returns-then-levels-eq0-clause-fits g t c =
    let e = ap depth (object_zero c.args.form c.args.levels (spread c.args.entries.now) (object_of c.args.object) c.args.action c.if-levels-eq0.true) in
    on_ok_weaker c.unit.result (λ _. omega (arith, e)) c.unit.ensures

pub send_object-returns-then-shows_string-clause-fits : goal.send_object-returns-then-shows_string-clause-fits
send_object-returns-then-shows_string-clause-fits g t c =
    let text : is_string c.args.form c.args.action ≡ true = sym c.shows_string.ensures ∙ c.if-shows_string.true in
    let e = ap depth (shows_string c.args.form c.args.levels c.args.entries.now (object_of c.args.object) c.args.action c.inside-own.result.now c.requires c.inside-own.ensures.own (c.inside-own.ensures.apart c.requires.apart) c.if-levels-eq0.false text) in
    on_ok_weaker c.send_string.result (λ _. omega (arith, e)) c.send_string.ensures

pub send_object-returns-then-shows_array-clause-fits : goal.send_object-returns-then-shows_array-clause-fits
send_object-returns-then-shows_array-clause-fits g t c =
    let text : is_string c.args.form c.args.action ≡ false = sym c.shows_string.ensures ∙ c.if-shows_string.false in
    let list : is_array c.args.action ≡ true = sym c.shows_array.ensures ∙ c.if-shows_array.true in
    let e = ap depth (shows_array c.args.form c.args.levels c.args.entries.now (object_of c.args.object) c.args.action c.inside-own.result.now c.requires c.inside-own.ensures.own (c.inside-own.ensures.apart c.requires.apart) c.if-levels-eq0.false text list) in
    on_ok_weaker c.send_array.result (λ small. omega (arith, e, small, c.if-limit-eq0.false)) c.send_array.ensures.fits

pub send_object-returns-clause-fits : goal.send_object-returns-clause-fits
send_object-returns-clause-fits g t c =
    let text : is_string c.args.form c.args.action ≡ false = sym c.shows_string.ensures ∙ c.if-shows_string.false in
    let list : is_array c.args.action ≡ false = sym c.shows_array.ensures ∙ c.if-shows_array.false in
    let e = ap depth (shows_object c.args.form c.args.levels c.args.entries.now (object_of c.args.object) c.args.action c.inside-own.result.now c.requires c.inside-own.ensures.own (c.inside-own.ensures.apart c.requires.apart) c.if-levels-eq0.false text list) in
    on_ok_weaker c.send_map.result (λ small. omega (arith, e, small, c.if-limit-eq0.false)) c.send_map.ensures.fits

pub send_pair-returns-clause-fits : goal.send_pair-returns-clause-fits
send_pair-returns-clause-fits g t c =
    let small = c.in_ok-send_entry.ensures.fits in
    on_ok_weaker c.end_seq.result (λ _. omega (arith, small, c.if-limit-eq0.false)) c.end_seq.ensures

pub send_pairs-returns-clause-fits : goal.send_pairs-returns-clause-fits
send_pairs-returns-clause-fits g t c =
    let f = pair (shown_by (inside c.args.form c.args.levels (spread c.args.entries.now))) in
    let xs = c.args.own.now in
    let none : drop c.loop-entry.entry-index xs ≡ [] = drop_all c.loop-entry.entry-index xs (omega arith) in
    on_ok_weaker c.end_seq.result (λ _. c.loop-entry.invariant.fits (subst (λ ys. items_depth (items_of (map f (heads ys))) ≤ c.args.limit) (sym none) (omega arith))) c.end_seq.ensures

pub send_array-returns-clause-fits : goal.send_array-returns-clause-fits
send_array-returns-clause-fits g t c =
    let f = slot_data c.args.form (shown_by (inside c.args.form c.args.levels (spread c.args.entries.now))) in
    let none : c.loop-group.slots ≡ [] = search rules in
    on_ok_weaker c.end_seq.result (λ _. c.loop-group.invariant.fits (subst (λ ss. items_depth (turn_items f ss) ≤ c.args.limit) (sym none) (omega arith))) c.end_seq.ensures

pub send_map-returns-clause-fits : goal.send_map-returns-clause-fits
send_map-returns-clause-fits g t c =
    let f = slot_data c.args.form (shown_by (inside c.args.form c.args.levels (spread c.args.entries.now))) in
    let none : c.loop-group.slots ≡ [] = search rules in
    on_ok_weaker c.end_map.result (λ _. c.loop-group.invariant.fits (subst (λ ss. members_depth (named f (slots_of ss)) ≤ c.args.limit) (sym none) (omega arith))) c.end_map.ensures
