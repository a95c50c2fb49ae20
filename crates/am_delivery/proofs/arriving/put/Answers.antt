use Rattle.std.proofs.Common.{rules, ◌≡◌, ◌∷◌, [], ◌++◌, List, None, Some, BTreeMap, option_map, vec_items, refl, sym, ap, ◌∙◌}
use Rattle.std.specs.Global.{Box}
use Rattle.std.specs.Box.{box_value}
use Rattle.std.specs.BTreeMap.{get, insert_entry}
use Rattle.am_types.specs.declared.Hash.{Hash}
use Rattle.am_types.specs.declared.Change.{Change}
use Rattle.am_types.specs.Order.{hash_cmp}
use Rattle.am_types.specs.Members.{member}
use Rattle.am_types.specs.Same.{same_change}
use Rattle.am_delivery.specs.Waiting.{members_of, unboxed, waiting_of, remaining}
use Rattle.am_delivery.proofs.Boxes.{change_at, unboxed_insert}
use Rattle.am_delivery.proofs.Arrivals.{looked_in, in_second, is_none}
use Rattle.am_delivery.proofs.Steady.{absent}
use Rattle.am_delivery.proofs.Leaving.{remaining_inserted}
use Rattle.am_delivery.proofs.arriving.put.Goals as goal

pub returns-in-Occupied-clause-same : goal.returns-in-Occupied-clause-same
returns-in-Occupied-clause-same c =
    let found : Some c.get.result.now ≡ get hash_cmp c.args.waiting.now c.args.hash = cc (c.get.ensures, c.in_ok-held.ensures.value, c.in-Occupied.is) in
    let there : Some c.deref.result.now ≡ change_at c.args.waiting.now c.args.hash = ap Some c.deref.ensures ∙ ap (option_map box_value) found in
    ap Some c.is_same.ensures ∙ in_second None (member (waiting_of c.args.waiting.now) c.args.hash) c.args.change (Some c.deref.result.now) refl (there ∙ looked_in c.args.waiting.now c.args.hash)

-- where no change has the hash
none_there : (w : BTreeMap Hash (Box Change)) (h : Hash) (c : Change) → get hash_cmp w h ≡ None → None ≡ option_map (λ m. same_change m.change c) (member (waiting_of w) h)
none_there w h c none = in_second None (member (waiting_of w) h) c None refl (sym (ap (option_map box_value) none) ∙ looked_in w h)

pub returns-in_ok-boxed-in-Vacant-clause-same : goal.returns-in_ok-boxed-in-Vacant-clause-same
returns-in_ok-boxed-in-Vacant-clause-same c =
    let none : get hash_cmp c.args.waiting.now c.args.hash ≡ None = search rules in
    none_there c.args.waiting.now c.args.hash c.args.change none

-- the box is put in, and with it the change
put_in : (w : BTreeMap Hash (Box Change)) (es : List (Hash × Box Change)) (h : Hash) (b : Box Change) (c : Change) → es ≡ insert_entry hash_cmp w.entries h b → b.value ≡ c
    → unboxed es ≡ insert_entry hash_cmp (unboxed w.entries) h c
put_in w es h b c put is = ap unboxed put ∙ unboxed_insert h b w.entries ∙ ap (insert_entry hash_cmp (unboxed w.entries) h) is

pub returns-in_ok-boxed-in-Vacant-clause-put : goal.returns-in_ok-boxed-in-Vacant-clause-put
returns-in_ok-boxed-in-Vacant-clause-put c = put_in c.args.waiting.now _ c.args.hash c.in_ok-boxed-in-Vacant.boxed c.args.change (search rules) (search rules)

-- where it is put, its hash is put down
put_down : (came new : List Hash) (w : BTreeMap Hash (Box Change)) (es : List (Hash × Box Change)) (h : Hash) (b : Box Change) (c : Change)
    → new ≡ came ++ h ∷ [] → get hash_cmp w h ≡ None → es ≡ insert_entry hash_cmp w.entries h b → b.value ≡ c → remaining new (members_of (unboxed es)) ≡ remaining came (waiting_of w)
put_down came new w es h b c pushed none put is =
    let unheld = absent (waiting_of w) h (is_none c (member (waiting_of w) h) (none_there w h c none)) in
    ap (λ hs. remaining hs (members_of (unboxed es))) pushed ∙ remaining_inserted came w (unboxed es) h c unheld (put_in w es h b c put is)

pub returns-in_ok-boxed-in-Vacant-clause-kept : goal.returns-in_ok-boxed-in-Vacant-clause-kept
returns-in_ok-boxed-in-Vacant-clause-kept c =
    let none : get hash_cmp c.args.waiting.now c.args.hash ≡ None = search rules in
    let pushed : vec_items c.push_reserved.new.self ≡ vec_items c.args.came.now ++ c.args.hash ∷ [] = search rules in
    put_down (vec_items c.args.came.now) (vec_items c.push_reserved.new.self) c.args.waiting.now _ c.args.hash c.in_ok-boxed-in-Vacant.boxed c.args.change pushed none (search rules) (search rules)
