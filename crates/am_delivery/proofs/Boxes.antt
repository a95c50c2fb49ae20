-- The waiting changes of a map are in boxes: what is looked up, put in or taken out among the boxes is so among the changes.
use Rattle.std.proofs.Common.{◌≡◌, List, [], ◌∷◌, ◌++◌, length, Bool, true, false, cond, Option, option_map, refl, sym, ap, ◌∙◌, BTreeMap}
use Rattle.std.specs.Global.{Box}
use Rattle.std.specs.Box.{box_value}
use Rattle.std.specs.BTreeMap.{get, is_at, insert_entry}
use Rattle.std.specs.Map.{keys_of, lookup, remove_entry}
use Rattle.std.specs.Ordering.{match_ordering}
use Rattle.std.specs.declared.cmp.Ordering.{Ordering}
use Rattle.std.specs.declared.cmp.Ordering.TheVariants.{Less, Equal, Greater}
use Rattle.std.proofs.lemmas.List.{length-map, map-append}
use Rattle.std.proofs.lemmas.Map.Made.{lookup-map_values, keys_of-map_values}
use Rattle.am_types.specs.declared.Hash.{Hash}
use Rattle.am_types.specs.declared.Change.{Change}
use Rattle.am_types.specs.Order.{hash_cmp}
use Rattle.am_delivery.specs.Waiting.{member_of, out_of_box, unboxed, waiting_of}

-- the change at the hash h
abbrev pub change_at : BTreeMap Hash (Box Change) → Hash → Option Change
change_at w h = option_map box_value (get hash_cmp w h)

pub unboxed_lookup : (w : BTreeMap Hash (Box Change)) (h : Hash) → lookup (is_at (hash_cmp h)) (unboxed w.entries) ≡ change_at w h
unboxed_lookup w h = lookup-map_values box_value (is_at (hash_cmp h)) w.entries

pub unboxed_keys : (es : List (Hash × Box Change)) → keys_of (unboxed es) ≡ keys_of es
unboxed_keys es = keys_of-map_values box_value es

-- as many changes as boxes
pub unboxed_length : (es : List (Hash × Box Change)) → length es ≡ length (unboxed es)
unboxed_length es = sym (length-map es out_of_box)

pub waiting_count : (w : BTreeMap Hash (Box Change)) → length w.entries ≡ length (waiting_of w)
waiting_count w = unboxed_length w.entries ∙ sym (length-map (unboxed w.entries) member_of)

-- one is taken out
pub unboxed_remove : (p : Hash → Bool) (es : List (Hash × Box Change)) → unboxed (remove_entry p es) ≡ remove_entry p (unboxed es)
unboxed_remove p [] = refl
unboxed_remove p (e ∷ es) = by (p e.0) (unboxed_remove p es)
  where
    by : (b : Bool) → unboxed (remove_entry p es) ≡ remove_entry p (unboxed es) → unboxed (cond b es (e ∷ remove_entry p es)) ≡ cond b (unboxed es) (out_of_box e ∷ remove_entry p (unboxed es))
    by true again = refl
    by false again = ap (λ l. out_of_box e ∷ l) again

-- one is put in
pub unboxed_insert : (h : Hash) (b : Box Change) (es : List (Hash × Box Change)) → unboxed (insert_entry hash_cmp es h b) ≡ insert_entry hash_cmp (unboxed es) h b.value
unboxed_insert h b [] = refl
unboxed_insert h b (e ∷ es) = by (hash_cmp h e.0) (unboxed_insert h b es)
  where
    by : (o : Ordering) → unboxed (insert_entry hash_cmp es h b) ≡ insert_entry hash_cmp (unboxed es) h b.value
        → unboxed (match_ordering o ((h, b) ∷ e ∷ es) ((e.0, b) ∷ es) (e ∷ insert_entry hash_cmp es h b))
        ≡ match_ordering o ((h, b.value) ∷ out_of_box e ∷ unboxed es) ((e.0, b.value) ∷ unboxed es) (out_of_box e ∷ insert_entry hash_cmp (unboxed es) h b.value)
    by Less again = refl
    by Equal again = refl
    by Greater again = ap (λ l. out_of_box e ∷ l) again

-- what stands before an entry and behind it
pub unboxed_parts : (es ys rest : List (Hash × Box Change)) (x : Hash × Box Change) → es ≡ ys ++ x ∷ rest → unboxed es ≡ unboxed ys ++ out_of_box x ∷ unboxed rest
unboxed_parts es ys rest x e = ap unboxed e ∙ map-append out_of_box ys (x ∷ rest)
