-- Rows that are taken out of their columns.
use Rattle.std.proofs.Common.{◌≡◌, ℕ, zero, suc, ◌+◌, ◌-◌, ◌≤◌, ◌^◌, List, [], ◌∷◌, ◌++◌, length, take, drop, map, Option, Some, None, Bool, false, refl, sym, ap, ◌∙◌, subst, arith}
use Rattle.std.specs.Prelude.{IfSome, option_map}
use Rattle.std.specs.List.{AllByRecursion}
use Rattle.std.proofs.lemmas.List.{length-append, length-map, length-drop, length-take-le, map-append}
use Rattle.am_types.specs.declared.OpId.{OpId}
use Rattle.am_types.specs.declared.ObjId.{ObjId}
use Rattle.am_types.specs.declared.Key.{Key}
use Rattle.am_types.specs.declared.RawValue.{RawValue}
use Rattle.am_types.specs.declared.Row.{Row}
use Rattle.am_runs.proofs.Spelled.{map_take, map_drop}
use Rattle.am_fields.specs.Columns.{place_of}
use Rattle.am_fields.specs.Layout.{flat, object_actor, object_counter, key_actor, key_counter, key_string, id_actor, id_counter}
use Rattle.am_fields.specs.Held.{FieldLists, FieldsHeld, IdsHeld}
use Rattle.am_fields.specs.Front.{with_first}
use Rattle.am_fields.specs.declared.field_columns.FieldColumns.{FieldColumns}
use Rattle.am_fields.specs.declared.field_writer.FieldWriter.{FieldWriter}
use Rattle.am_fields.specs.declared.id_writer.IdWriter.{IdWriter}
use Rattle.am_fields.proofs.Lists.{all-append}
use Rattle.am_fields.proofs.WriteLaws.{held, wrote_all, map2-append, flat-append, lists_same}
use Rattle.am_doccols.specs.Conditions.{IsRowFor, succ_count}
use Rattle.am_doccols.specs.Front.{with_rows, Takes, AreOpenFor, HasRoomFor}
use Rattle.am_doccols.specs.Rows.{rows_from}
use Rattle.am_doccols.specs.Back.{rows_back}
use Rattle.am_doccols.specs.Writing.{row_lists, RowsHeld, rows_written, IsWritingRows}
use Rattle.am_doccols.proofs.BackLaws.{rows_again, lists_again}
use Rattle.am_doccols.proofs.RowLaws.{HasFields, fields_from}
use Rattle.am_doccols.proofs.RowsWritten.{rows_known}

-- ---- the first rows, and those behind

pub fields_front : (n : ℕ) (rows : List Row) (os : List ObjId) (ks : List Key) (ds : List OpId) (is : List Bool) (xs : List ℕ) (vs : List RawValue) (ss : List (List OpId)) (es : List Bool) (ms : List (Option (List ℕ))) → HasFields rows os ks ds is xs vs ss es ms
    → HasFields (take n rows) (take n os) (take n ks) (take n ds) (take n is) (take n xs) (take n vs) (take n ss) (take n es) (take n ms)
fields_front n rows os ks ds is xs vs ss es ms h = record {
  objects = map_take (λ r. r.obj) n rows ∙ ap (take n) h.objects;
  keys = map_take (λ r. r.key) n rows ∙ ap (take n) h.keys;
  ids = map_take (λ r. r.id) n rows ∙ ap (take n) h.ids;
  inserts = map_take (λ r. r.insert) n rows ∙ ap (take n) h.inserts;
  actions = map_take (λ r. r.action) n rows ∙ ap (take n) h.actions;
  values = map_take (λ r. r.value) n rows ∙ ap (take n) h.values;
  succs = map_take (λ r. r.succs) n rows ∙ ap (take n) h.succs;
  expands = map_take (λ r. r.expand) n rows ∙ ap (take n) h.expands;
  marks = map_take (λ r. r.mark) n rows ∙ ap (take n) h.marks;
}

pub fields_behind : (n : ℕ) (rows : List Row) (os : List ObjId) (ks : List Key) (ds : List OpId) (is : List Bool) (xs : List ℕ) (vs : List RawValue) (ss : List (List OpId)) (es : List Bool) (ms : List (Option (List ℕ))) → HasFields rows os ks ds is xs vs ss es ms
    → rows_from (drop n os) (drop n ks) (drop n ds) (drop n is) (drop n xs) (drop n vs) (drop n ss) (drop n es) (drop n ms) ≡ drop n rows
fields_behind n rows os ks ds is xs vs ss es ms h =
    lists_again (drop n rows)
    (sym (map_drop (λ r. r.obj) n rows ∙ ap (drop n) h.objects))
    (sym (map_drop (λ r. r.key) n rows ∙ ap (drop n) h.keys))
    (sym (map_drop (λ r. r.id) n rows ∙ ap (drop n) h.ids))
    (sym (map_drop (λ r. r.insert) n rows ∙ ap (drop n) h.inserts))
    (sym (map_drop (λ r. r.action) n rows ∙ ap (drop n) h.actions))
    (sym (map_drop (λ r. r.value) n rows ∙ ap (drop n) h.values))
    (sym (map_drop (λ r. r.succs) n rows ∙ ap (drop n) h.succs))
    (sym (map_drop (λ r. r.expand) n rows ∙ ap (drop n) h.expands))
    (sym (map_drop (λ r. r.mark) n rows ∙ ap (drop n) h.marks))

pub flat_behind : {A : Type 0} (n : ℕ) (groups : List (List A)) → length (flat (drop n groups)) ≤ length (flat groups)
flat_behind zero groups = omega arith
flat_behind (suc n) [] = omega arith
flat_behind (suc n) (g ∷ groups) = omega (arith, flat_behind n groups, length-append g (flat groups))

-- ---- rows that a writer took

lists_more : (rows more : List Row) → row_lists (rows ++ more) ≡ with_rows (row_lists rows) more
lists_more rows more =
    lists_same _ _ _ _ _ _ _ _ _ _ _ _ _ _ (map-append (λ x. x.obj) rows more) (map-append (λ x. x.key) rows more) (map-append (λ x. x.insert) rows more) (map-append (λ x. x.action) rows more) (map-append (λ x. x.value) rows more) (map-append (λ x. x.expand) rows more) (map-append (λ x. x.mark) rows more)

rows_more : (actors : List (List ℕ)) (rows more : List Row) (f : FieldWriter) (i : IdWriter) (l : Option (List (Option ℕ))) (s : IdWriter) (f' : FieldWriter) (i' : IdWriter) (l' : Option (List (Option ℕ))) (s' : IdWriter)
    → RowsHeld actors rows f i l s → Takes actors more f i l s f' i' l' s' → AllByRecursion (IsRowFor actors) more → HasRoomFor rows more → RowsHeld actors (rows ++ more) f' i' l' s'
rows_more actors rows more f i l s f' i' l' s' h steps good room =
    let P : FieldLists → Type 0 = λ x. FieldsHeld actors x f' in
    let Q : List OpId → Type 0 = λ zs. IdsHeld actors zs i' in
    let R : List OpId → Type 0 = λ zs. IdsHeld actors zs s' in
    let succs = ap flat (map-append (λ x. x.succs) rows more) ∙ flat-append (map (λ x. x.succs) rows) (map (λ x. x.succs) more) in
    let few = room.few in
    let few_succs = room.few_succs in
    record {
      fields_are = subst P (sym (lists_more rows more)) (steps.fields_step (row_lists rows) h.fields_are);
      ids_are = subst Q (sym (map-append (λ x. x.id) rows more)) (steps.ids_step (map (λ x. x.id) rows) h.ids_are);
      lengths_are = wrote_all _ _ _ _ _ _ h.lengths_are steps.lengths_step refl (ap (λ zs. map Some (map length zs)) (map-append (λ x. x.succs) rows more) ∙ map2-append Some length (map (λ x. x.succs) rows) (map (λ x. x.succs) more));
      succs_are = subst R (sym succs) (steps.succs_step (flat (map (λ x. x.succs) rows)) h.succs_are);
      all = all-append (IsRowFor actors) rows more h.all good;
      few = omega (arith, length-append rows more);
      few_succs = omega (arith, ap length succs, length-append (flat (map (λ x. x.succs) rows)) (flat (map (λ x. x.succs) more)));
    }

-- a writer with all memory has room for what its rows leave
pub given_room : (shown : Option (List Row)) (rows more : List Row) → shown ≡ Some rows → IfSome shown (λ xs. HasRoomFor xs more) → HasRoomFor rows more
given_room None rows more e room = absurd (cc)
given_room (Some xs) rows more e room =
    let same : xs ≡ rows = cc in
    let S : List Row → Type 0 = λ zs. HasRoomFor zs more in
    subst S same room

pub rows_taken : (failed : Bool) (actors at : List (List ℕ)) (f : FieldWriter) (i : IdWriter) (l : Option (List (Option ℕ))) (s : IdWriter) (shown : List (List ℕ) × Option (List Row)) (more : List Row) (f' : FieldWriter) (i' : IdWriter) (l' : Option (List (Option ℕ))) (s' : IdWriter)
    → failed ≡ false → actors ≡ shown.0 → rows_written failed actors f i l s ≡ shown.1 → IsWritingRows failed actors f i l s → at ≡ actors
    → AllByRecursion (IsRowFor shown.0) more → IfSome shown.1 (λ rows. HasRoomFor rows more) → Takes at more f i l s f' i' l' s'
    → IsWritingRows false actors f' i' l' s' × IfSome shown.1 (λ rows. Some (rows_back actors f' i' l' s') ≡ Some (rows ++ more))
rows_taken failed actors at f i l s shown more f' i' l' s' e names view inv at_is good room steps =
    let known = rows_known failed actors f i l s shown.1 e view inv in
    let rows = known.0 in
    let P : List (List ℕ) → Type 0 = λ a. Takes a more f i l s f' i' l' s' in
    let Q : List (List ℕ) → Type 0 = λ a. AllByRecursion (IsRowFor a) more in
    let given : HasRoomFor rows more = given_room shown.1 rows more known.1 room in
    let next = rows_more actors rows more f i l s f' i' l' s' known.2 (subst P at_is steps) (subst Q (sym names) good) given in
    let back = rows_again actors (rows ++ more) f' i' l' s' next in
    let R : List Row → Type 0 = λ zs. RowsHeld actors zs f' i' l' s' in
    (subst R (sym back) next, held shown.1 rows (λ zs. Some (rows_back actors f' i' l' s') ≡ Some (zs ++ more)) known.1 (ap Some back))

-- ---- room

in_room : {A : Type 0} (old : Option (List A)) (xs : List A) (n m : ℕ) → old ≡ Some xs → length xs ≤ m → m + n ≤ 2 ^ 22 → IfSome old (λ zs. length zs + n ≤ 2 ^ 32)
in_room old xs n m e l r = held old xs (λ zs. length zs + n ≤ 2 ^ 32) e (omega (arith, l, r))

pub open_for : (actors : List (List ℕ)) (rows : List Row) (n m : ℕ) (f : FieldWriter) (i : IdWriter) (l : Option (List (Option ℕ))) (s : IdWriter) → RowsHeld actors rows f i l s → length rows + n ≤ 2 ^ 22 → succ_count rows + m ≤ 2 ^ 22 → AreOpenFor n m f i l s
open_for actors rows n m f i l s h few few_succs =
    let place = option_map (place_of actors) in
    let fields = h.fields_are in
    let succs = flat (map (λ (r : Row). r.succs) rows) in
    record {
      fields = record {
        object_actor = in_room _ _ n (length rows) fields.object_actor (omega (arith, length-map (map object_actor (map (λ (r : Row). r.obj) rows)) place, length-map (map (λ (r : Row). r.obj) rows) object_actor, length-map rows (λ (r : Row). r.obj))) few;
        object_counter = in_room _ _ n (length rows) fields.object_counter (omega (arith, length-map (map (λ (r : Row). r.obj) rows) object_counter, length-map rows (λ (r : Row). r.obj))) few;
        key_actor = in_room _ _ n (length rows) fields.key_actor (omega (arith, length-map (map key_actor (map (λ (r : Row). r.key) rows)) place, length-map (map (λ (r : Row). r.key) rows) key_actor, length-map rows (λ (r : Row). r.key))) few;
        key_counter = in_room _ _ n (length rows) fields.key_counter (omega (arith, length-map (map (λ (r : Row). r.key) rows) key_counter, length-map rows (λ (r : Row). r.key))) few;
        key_name = in_room _ _ n (length rows) fields.key_name (omega (arith, length-map (map (λ (r : Row). r.key) rows) key_string, length-map rows (λ (r : Row). r.key))) few;
        insert = in_room _ _ n (length rows) fields.insert (omega (arith, length-map rows (λ (r : Row). r.insert))) few;
        action = in_room _ _ n (length rows) fields.action (omega (arith, length-map (map (λ (r : Row). r.action) rows) Some, length-map rows (λ (r : Row). r.action))) few;
        value = in_room _ _ n (length rows) fields.value (omega (arith, length-map rows (λ (r : Row). r.value))) few;
        expand = in_room _ _ n (length rows) fields.expand (omega (arith, length-map rows (λ (r : Row). r.expand))) few;
        mark = in_room _ _ n (length rows) fields.mark (omega (arith, length-map rows (λ (r : Row). r.mark))) few;
      };
      places = in_room _ _ n (length rows) (h.ids_are).places (omega (arith, length-map (map id_actor (map (λ (r : Row). r.id) rows)) place, length-map (map (λ (r : Row). r.id) rows) id_actor, length-map rows (λ (r : Row). r.id))) few;
      counters = in_room _ _ n (length rows) (h.ids_are).counters (omega (arith, length-map (map (λ (r : Row). r.id) rows) id_counter, length-map rows (λ (r : Row). r.id))) few;
      lengths = in_room _ _ n (length rows) h.lengths_are (omega (arith, length-map (map length (map (λ (r : Row). r.succs) rows)) Some, length-map (map (λ (r : Row). r.succs) rows) length, length-map rows (λ (r : Row). r.succs))) few;
      succ_places = in_room _ _ m (length succs) (h.succs_are).places (omega (arith, length-map (map id_actor succs) place, length-map succs id_actor)) few_succs;
      succ_counters = in_room _ _ m (length succs) (h.succs_are).counters (omega (arith, length-map succs id_counter)) few_succs;
    }

pub writers_open : (failed : Bool) (actors : List (List ℕ)) (f : FieldWriter) (i : IdWriter) (l : Option (List (Option ℕ))) (s : IdWriter) (shown : Option (List Row)) (n : ℕ) (from : List Row) → failed ≡ false → rows_written failed actors f i l s ≡ shown → IsWritingRows failed actors f i l s → n ≤ length from → IfSome shown (λ rows. HasRoomFor rows (take n from))
    → AreOpenFor n (succ_count (take n from)) f i l s
writers_open failed actors f i l s shown n from e view inv enough room =
    let known = rows_known failed actors f i l s shown e view inv in
    let given : HasRoomFor known.0 (take n from) = given_room shown known.0 (take n from) known.1 room in
    let few : length known.0 + n ≤ 2 ^ 22 = omega (arith, given.few, length-take-le n from enough) in
    open_for actors known.0 n (succ_count (take n from)) f i l s known.2 few given.few_succs

-- ---- what a cursor gives

-- the columns of a cursor hold the fields of its rows
pub cursor_fields : (rows : List Row) (os : List ObjId) (ks : List Key) (ds : List OpId) (is : List Bool) (xs : List ℕ) (vs : List RawValue) (ss : List (List OpId)) (es : List Bool) (ms : List (Option (List ℕ)))
    → length os ≡ length xs → length ks ≡ length xs → length ds ≡ length xs → length is ≡ length xs → length vs ≡ length xs → length ss ≡ length xs → length es ≡ length xs → length ms ≡ length xs
    → rows_from os ks ds is xs vs ss es ms ≡ rows → HasFields rows os ks ds is xs vs ss es ms
cursor_fields rows os ks ds is xs vs ss es ms a b c d e f g h view =
    subst (λ r. HasFields r os ks ds is xs vs ss es ms) view
    (fields_from (length xs) os ks ds is xs vs ss es ms (record { objects = a; keys = b; ids = c; inserts = d; actions = refl; values = e; succs = f; expands = g; marks = h }))

pub with_first-is : (x : FieldLists) (n : ℕ) (rows : List Row) (common : FieldColumns) (ds : List OpId) (ss : List (List OpId)) → HasFields rows common.objects common.keys ds common.inserts common.actions common.values ss common.expands common.marks → with_first x n common ≡ with_rows x (take n rows)
with_first-is x n rows common ds ss h =
    let w = fields_front n rows common.objects common.keys ds common.inserts common.actions common.values ss common.expands common.marks h in
    lists_same _ _ _ _ _ _ _ _ _ _ _ _ _ _ (ap (λ l. x.objects ++ l) (sym w.objects)) (ap (λ l. x.keys ++ l) (sym w.keys)) (ap (λ l. x.inserts ++ l) (sym w.inserts)) (ap (λ l. x.actions ++ l) (sym w.actions)) (ap (λ l. x.values ++ l) (sym w.values)) (ap (λ l. x.expands ++ l) (sym w.expands)) (ap (λ l. x.marks ++ l) (sym w.marks))

pub takes : (actors : List (List ℕ)) (n : ℕ) (rows : List Row) (common : FieldColumns) (ds : List OpId) (ss : List (List OpId)) (f : FieldWriter) (i : IdWriter) (l : Option (List (Option ℕ))) (s : IdWriter) (f' : FieldWriter) (i' : IdWriter) (l' : Option (List (Option ℕ))) (s' : IdWriter)
    → HasFields rows common.objects common.keys ds common.inserts common.actions common.values ss common.expands common.marks
    → ((x : FieldLists) → FieldsHeld actors x f → FieldsHeld actors (with_first x n common) f')
    → ((ids : List OpId) → IdsHeld actors ids i → IdsHeld actors (ids ++ take n ds) i')
    → IfSome l (λ zs. l' ≡ Some (zs ++ map Some (map length (take n ss))))
    → ((ids : List OpId) → IdsHeld actors ids s → IdsHeld actors (ids ++ flat (take n ss)) s')
    → Takes actors (take n rows) f i l s f' i' l' s'
takes actors n rows common ds ss f i l s f' i' l' s' h fields ids lengths succs =
    let w = fields_front n rows common.objects common.keys ds common.inserts common.actions common.values ss common.expands common.marks h in
    record {
      fields_step = λ x before. subst (λ y. FieldsHeld actors y f') (with_first-is x n rows common ds ss h) (fields x before);
      ids_step = λ before held. subst (λ zs. IdsHeld actors (before ++ zs) i') (sym w.ids) (ids before held);
      lengths_step = subst (λ zs. IfSome l (λ xs. l' ≡ Some (xs ++ map Some (map length zs)))) (sym w.succs) lengths;
      succs_step = λ before held. subst (λ zs. IdsHeld actors (before ++ flat zs) s') (sym w.succs) (succs before held);
    }

-- as many of each field as rows
pub record AsMany (n : ℕ) (os : List ObjId) (ks : List Key) (ds : List OpId) (is : List Bool) (xs : List ℕ) (vs : List RawValue) (ss : List (List OpId)) (es : List Bool) (ms : List (Option (List ℕ))) : Type 0 where
  pub objects : n ≤ length os
  pub keys : n ≤ length ks
  pub ids : n ≤ length ds
  pub inserts : n ≤ length is
  pub actions : n ≤ length xs
  pub values : n ≤ length vs
  pub succs : n ≤ length ss
  pub expands : n ≤ length es
  pub marks : n ≤ length ms

pub as_many : (n : ℕ) (rows : List Row) (os : List ObjId) (ks : List Key) (ds : List OpId) (is : List Bool) (xs : List ℕ) (vs : List RawValue) (ss : List (List OpId)) (es : List Bool) (ms : List (Option (List ℕ))) → HasFields rows os ks ds is xs vs ss es ms → n ≤ length rows → AsMany n os ks ds is xs vs ss es ms
as_many n rows os ks ds is xs vs ss es ms h enough = record {
  objects = omega (arith, enough, ap length h.objects, length-map rows (λ r. r.obj));
  keys = omega (arith, enough, ap length h.keys, length-map rows (λ r. r.key));
  ids = omega (arith, enough, ap length h.ids, length-map rows (λ r. r.id));
  inserts = omega (arith, enough, ap length h.inserts, length-map rows (λ r. r.insert));
  actions = omega (arith, enough, ap length h.actions, length-map rows (λ r. r.action));
  values = omega (arith, enough, ap length h.values, length-map rows (λ r. r.value));
  succs = omega (arith, enough, ap length h.succs, length-map rows (λ r. r.succs));
  expands = omega (arith, enough, ap length h.expands, length-map rows (λ r. r.expand));
  marks = omega (arith, enough, ap length h.marks, length-map rows (λ r. r.mark));
}

same_drop : {A B : Type 0} (n : ℕ) (xs : List A) (ys : List B) → length xs ≡ length ys → length (drop n xs) ≡ length (drop n ys)
same_drop n xs ys e = length-drop n xs ∙ ap (λ m. m - n) e ∙ sym (length-drop n ys)

-- the columns behind are as long as one another
pub still_even : (n : ℕ) (os : List ObjId) (ks : List Key) (ds : List OpId) (is : List Bool) (xs : List ℕ) (vs : List RawValue) (ss : List (List OpId)) (es : List Bool) (ms : List (Option (List ℕ)))
    → length os ≡ length xs → length ks ≡ length xs → length ds ≡ length xs → length is ≡ length xs → length vs ≡ length xs → length ss ≡ length xs → length es ≡ length xs → length ms ≡ length xs → length (flat ss) ≤ 2 ^ 22
    → (length (drop n os) ≡ length (drop n xs))
    × (length (drop n ks) ≡ length (drop n xs))
    × (length (drop n ds) ≡ length (drop n xs))
    × (length (drop n is) ≡ length (drop n xs))
    × (length (drop n vs) ≡ length (drop n xs))
    × (length (drop n ss) ≡ length (drop n xs))
    × (length (drop n es) ≡ length (drop n xs))
    × (length (drop n ms) ≡ length (drop n xs))
    × (length (flat (drop n ss)) ≤ 2 ^ 22)
still_even n os ks ds is xs vs ss es ms a b c d e f g h few =
    (same_drop n os xs a, same_drop n ks xs b, same_drop n ds xs c, same_drop n is xs d, same_drop n vs xs e, same_drop n ss xs f, same_drop n es xs g, same_drop n ms xs h, omega (arith, few, flat_behind n ss))
