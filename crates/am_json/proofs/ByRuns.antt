-- What an object shows, by the entries that are kept of it.
use Rattle.std.proofs.Common.{◌≡◌, ◌≢◌, ℕ, ◌-◌, ◌≤◌, true, false, List, filter, map, flat_map, fold, ap, ◌∙◌, sym, refl, arith, subst, inl, inr}
use Rattle.std.proofs.lemmas.Bool.{cases_Bool}
use Rattle.serde_json.specs.Data.{string, array, object, no_members, depth}
use Rattle.serde_json.specs.View.{items_of}
use Rattle.am_types.specs.declared.ObjId.{ObjId}
use Rattle.am_types.specs.declared.Entry.{Entry}
use Rattle.am_json.specs.declared.form.Form.{Form}
use Rattle.am_json.specs.declared.form.Form.TheVariants as forms
use Rattle.am_json.specs.Entries.{is_in}
use Rattle.am_json.specs.Shown.{object_within, object_of, shown_by, slot_data, with_slot, piece, is_string, is_array}
use Rattle.am_json.specs.Steps.{inside, runs, named}
use Rattle.am_json.specs.Stretches.{Stretch, spread, stands_in, AreRuns, AreApart, ArePlain, AreKept}
use Rattle.am_json.specs.Turns.{turns, all_slots, slots_of, turn_text, turn_items}
use Rattle.am_json.proofs.Levels.{object_level}
use Rattle.am_json.proofs.Names.{climbs, runs_climb, names_in_turn}
use Rattle.am_json.proofs.Ordered.{by_slots, by_names}
use Rattle.am_json.proofs.Rendered.{Spelled, Each, each_turn, spelled, all_text, all_named, turns_listed}
use Rattle.am_json.proofs.SlotRuns.{is_by_slots, runs_are_slots}
use Rattle.am_json.proofs.Spread.{filter_spread, runs_filtered, plain_filtered}
use Rattle.am_json.proofs.TurnSlots.{runs_are_turns}

module _ (form : Form) (n : ℕ) (ss : List Stretch) (o : ObjId) (action : ℕ) (own : List Stretch) (kept : AreKept form ss) (is : own ≡ filter (stands_in o) ss) (apart : AreApart own) (some : n ≢ 0) where
  runs_own : AreRuns own
  runs_own = subst AreRuns (sym is) (runs_filtered o ss kept.runs)

  plain_own : form ≡ forms.All → ArePlain own
  plain_own all = subst ArePlain (sym is) (plain_filtered o ss (kept.plain all))

  spells : Each Spelled (turns own)
  spells = each_turn Spelled own (spelled own runs_own)

  same : filter (is_in o) (spread ss) ≡ spread own
  same = filter_spread o ss kept.runs ∙ sym (ap spread is)

  cut : runs (filter (is_in o) (spread ss)) ≡ all_slots (turns own)
  cut = ap runs same ∙ runs_are_turns own runs_own apart (subst (λ (es : List Entry). is_by_slots es ≡ true) same (by_slots o (spread ss) kept.ordered))

  level : object_within form n (spread ss) o action ≡ object_of form action (shown_by (inside form (n - 1) (spread ss))) (all_slots (turns own))
  level =
      object_level form n (spread ss) o action some
      ∙ ap (object_of form action (shown_by (inside form (n - 1) (spread ss)))) (sym (runs_are_slots (filter (is_in o) (spread ss)) (by_slots o (spread ss) kept.ordered)) ∙ cut)

  pub shows_string : is_string form action ≡ true → object_within form n (spread ss) o action ≡ string (turn_text (turns own))
  shows_string text = level ∙ (as_text ∙ ap string (all_text (turns own) spells))
    where
      as_text : object_of form action (shown_by (inside form (n - 1) (spread ss))) (all_slots (turns own)) ≡ string (flat_map (λ s. piece s.winner) (all_slots (turns own)))
      as_text = rw text refl

  pub shows_array : is_string form action ≡ false → is_array action ≡ true
      → object_within form n (spread ss) o action ≡ array (turn_items (slot_data form (shown_by (inside form (n - 1) (spread ss)))) (turns own))
  shows_array text list = level ∙ (as_list ∙ ap array (turns_listed form (inside form (n - 1) (spread ss)) own runs_own plain_own))
    where
      as_list : object_of form action (shown_by (inside form (n - 1) (spread ss))) (all_slots (turns own)) ≡ array (items_of (map (slot_data form (shown_by (inside form (n - 1) (spread ss)))) (all_slots (turns own))))
      as_list = rw (text, list) refl

  pub shows_object : is_string form action ≡ false → is_array action ≡ false
      → object_within form n (spread ss) o action ≡ object (named (slot_data form (shown_by (inside form (n - 1) (spread ss)))) (slots_of (turns own)))
  shows_object text list =
      let climb = runs_climb (filter (is_in o) (spread ss)) (by_slots o (spread ss) kept.ordered) (by_names o (spread ss) kept.ordered) in
      let g = slot_data form (shown_by (inside form (n - 1) (spread ss))) in
      let turn : fold (with_slot g) no_members (all_slots (turns own)) ≡ named g (all_slots (turns own)) = names_in_turn g (all_slots (turns own)) (ap climbs (sym cut) ∙ climb) in
      level ∙ (as_object ∙ ap object (turn ∙ all_named g (turns own) spells))
    where
      as_object : object_of form action (shown_by (inside form (n - 1) (spread ss))) (all_slots (turns own)) ≡ object (fold (with_slot (slot_data form (shown_by (inside form (n - 1) (spread ss))))) no_members (all_slots (turns own)))
      as_object = rw (text, list) refl

  pub nests_more : is_string form action ≡ false → 1 ≤ depth (object_within form n (spread ss) o action)
  nests_more text = elim (cases_Bool (is_array action)) [
    | inl list ↦ let e = ap depth (shows_array text list) in omega (arith, e)
    | inr list ↦ let e = ap depth (shows_object text list) in omega (arith, e)
  ]
