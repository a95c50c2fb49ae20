-- Rows that are written one behind another.
use Rattle.std.proofs.Common.{◌≡◌, ◌≤◌, ◌^◌, ℕ, List, [], ◌∷◌, ◌++◌, length, map, Option, Some, None, Bool, true, false, refl, sym, ap, ◌∙◌, arith, subst}
use Rattle.std.specs.Prelude.{All, IfSome, IfOk, Result, Ok, Err}
use Rattle.am_types.specs.declared.Bytes.{Bytes}
use Rattle.am_colmeta.specs.Metadata.{listing, not_empty, Ascend}
use Rattle.std.specs.Option.{option_map}
use Rattle.std.specs.List.{AllByRecursion}
use Rattle.std.proofs.lemmas.List.{length-append, length-map, map-append}
use Rattle.std.proofs.lemmas.List.Elements.{All-from_recursion}
use Rattle.am_types.specs.declared.IdRef.{IdRef}
use Rattle.am_types.specs.declared.OpId.{OpId}
use Rattle.am_types.specs.Fine.{IsId}
use Rattle.am_types.specs.declared.Row.{Row}
use Rattle.am_types.specs.Views.{id_of}
use Rattle.am_fields.specs.Columns.{place_of, spellings}
use Rattle.am_fields.specs.Layout.{flat, id_actor, id_counter}
use Rattle.am_doccols.specs.declared.lent.RowFields.{RowFields}
use Rattle.am_fields.specs.declared.field_writer.Fields.{Fields}
use Rattle.am_fields.specs.declared.field_writer.FieldWriter.{FieldWriter}
use Rattle.am_fields.specs.declared.id_writer.IdWriter.{IdWriter}
use Rattle.am_doccols.specs.Columns.{row_columns, written_rows}
use Rattle.am_doccols.specs.Lent.{row_with}
use Rattle.am_doccols.specs.Conditions.{IsIdFor, IsRowFor, HasRoom}
use Rattle.am_fields.specs.Held.{FieldLists, FieldsHeld, FieldsFit, IdsHeld, IdsFit, with_fields}
use Rattle.am_doccols.specs.Back.{rows_back}
use Rattle.am_doccols.specs.Writing.{row_lists, RowsHeld, rows_written, IsWritingRows}
use Rattle.am_fields.proofs.Lists.{all-append}
use Rattle.am_fields.proofs.Zips.{map-map}
use Rattle.am_fields.proofs.WriteLaws.{held, wrote, wrote_all, map-next, map2-next, flat-next, lists, lists_same}
use Rattle.am_doccols.proofs.BackLaws.{rows_again, row_keys, row_values, row_ids, row_succs, ids_within}
use Rattle.am_fields.proofs.CanonicalLaws.{keys_middling, ids_middling}

abbrev common : RowFields → Fields
common r = record { obj = r.obj; key = r.key; insert = r.insert; action = r.action; value = r.value; expand = r.expand; mark = r.mark }

lists_next : (rows : List Row) (r : RowFields) (more : List OpId) → row_lists (rows ++ row_with r more ∷ []) ≡ with_fields (row_lists rows) (common r)
lists_next rows r more =
    let row = row_with r more in
    lists_same _ _ _ _ _ _ _ _ _ _ _ _ _ _ (map-next (λ x. x.obj) rows row) (map-next (λ x. x.key) rows row) (map-next (λ x. x.insert) rows row) (map-next (λ x. x.action) rows row) (map-next (λ x. x.value) rows row) (map-next (λ x. x.expand) rows row) (map-next (λ x. x.mark) rows row)

-- what the parts of one push did, with these actors
pub record Steps (actors : List (List ℕ)) (r : RowFields) (more : List OpId) (f : FieldWriter) (i : IdWriter) (l : Option (List (Option ℕ))) (s : IdWriter) (f' : FieldWriter) (i' : IdWriter) (l' : Option (List (Option ℕ))) (s' : IdWriter) : Type 0 where
  pub fields_step : (x : FieldLists) → FieldsHeld actors x f → FieldsHeld actors (with_fields x (common r)) f'
  pub id_step : (ids : List OpId) → IdsHeld actors ids i → IdsHeld actors (ids ++ id_of r.id ∷ []) i'
  pub lengths_step : IfSome l (λ xs. l' ≡ Some (xs ++ Some (length more) ∷ []))
  pub succs_step : (ids : List OpId) → IdsHeld actors ids s → IdsHeld actors (ids ++ more) s'

pub row_next : (actors : List (List ℕ)) (rows : List Row) (r : RowFields) (more : List OpId) (f : FieldWriter) (i : IdWriter) (l : Option (List (Option ℕ))) (s : IdWriter) (f' : FieldWriter) (i' : IdWriter) (l' : Option (List (Option ℕ))) (s' : IdWriter)
    → RowsHeld actors rows f i l s → Steps actors r more f i l s f' i' l' s' → IsRowFor actors (row_with r more) → HasRoom rows more
    → RowsHeld actors (rows ++ row_with r more ∷ []) f' i' l' s'
row_next actors rows r more f i l s f' i' l' s' h steps good room =
    let row = row_with r more in
    let P : FieldLists → Type 0 = λ x. FieldsHeld actors x f' in
    let Q : List OpId → Type 0 = λ zs. IdsHeld actors zs i' in
    let R : List OpId → Type 0 = λ zs. IdsHeld actors zs s' in
    let ids = map-next (λ x. x.id) rows row in
    let succs = flat-next (λ x. x.succs) rows row in
    let few = room.few in
    let few_succs = room.few_succs in
    record {
      fields_are = subst P (sym (lists_next rows r more)) (steps.fields_step (row_lists rows) h.fields_are);
      ids_are = subst Q (sym ids) (steps.id_step (map (λ x. x.id) rows) h.ids_are);
      lengths_are = wrote _ _ _ _ _ _ h.lengths_are steps.lengths_step refl (ap (λ zs. map Some (map length zs)) (map-next (λ x. x.succs) rows row) ∙ map2-next Some length (map (λ x. x.succs) rows) row.succs);
      succs_are = subst R (sym succs) (steps.succs_step (flat (map (λ x. x.succs) rows)) h.succs_are);
      all = all-append (IsRowFor actors) rows (row ∷ []) h.all (good, tt);
      few = omega (arith, length-append rows (row ∷ []));
      few_succs = omega (arith, ap length succs, length-append (flat (map (λ x. x.succs) rows)) more);
    }

-- the rows of a writer that had all memory
pub rows_known : (failed : Bool) (actors : List (List ℕ)) (f : FieldWriter) (i : IdWriter) (l : Option (List (Option ℕ))) (s : IdWriter) (shown : Option (List Row))
    → failed ≡ false → rows_written failed actors f i l s ≡ shown → IsWritingRows failed actors f i l s
    → (rows : List Row) × (shown ≡ Some rows) × RowsHeld actors rows f i l s
rows_known true actors f i l s shown e view inv = absurd (cc)
rows_known false actors f i l s shown e view inv = (rows_back actors f i l s, sym view, inv)

pub rows_pushed : (failed : Bool) (actors at : List (List ℕ)) (f : FieldWriter) (i : IdWriter) (l : Option (List (Option ℕ))) (s : IdWriter) (shown : List (List ℕ) × Option (List Row)) (r : RowFields) (more : List OpId) (f' : FieldWriter) (i' : IdWriter) (l' : Option (List (Option ℕ))) (s' : IdWriter)
    → failed ≡ false → actors ≡ shown.0 → rows_written failed actors f i l s ≡ shown.1 → IsWritingRows failed actors f i l s → at ≡ actors
    → IsRowFor shown.0 (row_with r more) → IfSome shown.1 (λ rows. HasRoom rows more) → Steps at r more f i l s f' i' l' s'
    → IsWritingRows false actors f' i' l' s' × IfSome shown.1 (λ rows. Some (rows_back actors f' i' l' s') ≡ Some (rows ++ row_with r more ∷ []))
rows_pushed failed actors at f i l s shown r more f' i' l' s' e names view inv at_is good room steps =
    let known = rows_known failed actors f i l s shown.1 e view inv in
    let rows = known.0 in
    let P : List (List ℕ) → Type 0 = λ a. Steps a r more f i l s f' i' l' s' in
    let Q : List (List ℕ) → Type 0 = λ a. IsRowFor a (row_with r more) in
    let next = row_next actors rows r more f i l s f' i' l' s' known.2 (subst P at_is steps) (subst Q (sym names) good) (given_room shown.1 rows more known.1 room) in
    let back = rows_again actors (rows ++ row_with r more ∷ []) f' i' l' s' next in
    let R : List Row → Type 0 = λ zs. RowsHeld actors zs f' i' l' s' in
    (subst R (sym back) next, held shown.1 rows (λ zs. Some (rows_back actors f' i' l' s') ≡ Some (zs ++ row_with r more ∷ [])) known.1 (ap Some back))
  where
    given_room : (shown : Option (List Row)) (rows : List Row) (more : List OpId) → shown ≡ Some rows → IfSome shown (λ xs. HasRoom xs more) → HasRoom rows more
    given_room None rows more e room = absurd (cc)
    given_room (Some xs) rows more e room =
        let same : xs ≡ rows = cc in
        let S : List Row → Type 0 = λ zs. HasRoom zs more in
        subst S same room

pub no_rows : (actors : List (List ℕ)) (f : FieldWriter) (i : IdWriter) (l : Option (List (Option ℕ))) (s : IdWriter)
    → FieldsHeld actors (lists [] [] [] [] [] [] []) f → IdsHeld actors [] i → l ≡ Some [] → IdsHeld actors [] s
    → RowsHeld actors [] f i l s
no_rows actors f i l s hf hi hl hs = record { fields_are = hf; ids_are = hi; lengths_are = hl; succs_are = hs; all = tt; few = omega arith; few_succs = omega arith }

pub begun : (actors : List (List ℕ)) (f : FieldWriter) (i : IdWriter) (l : Option (List (Option ℕ))) (s : IdWriter)
    → FieldsHeld actors (lists [] [] [] [] [] [] []) f → IdsHeld actors [] i → l ≡ Some [] → IdsHeld actors [] s
    → RowsHeld actors (rows_back actors f i l s) f i l s × (rows_back actors f i l s ≡ [])
begun actors f i l s hf hi hl hs =
    let none = no_rows actors f i l s hf hi hl hs in
    let back = rows_again actors [] f i l s none in
    let R : List Row → Type 0 = λ zs. RowsHeld actors zs f i l s in
    (subst R (sym back) none, back)

-- what was finished is what the rows' columns are

pub ascending : (actors : List (List ℕ)) (rows : List Row) → Ascend (listing (spellings actors (row_columns rows)))
ascending actors rows = (omega arith, (omega arith, (omega arith, (omega arith, (omega arith, (omega arith, (omega arith, (omega arith, (omega arith, (omega arith, (omega arith, (omega arith, (omega arith, (omega arith, (omega arith, tt)))))))))))))))

pub columns_ascend : (failed : Bool) (actors : List (List ℕ)) (f : FieldWriter) (i : IdWriter) (l : Option (List (Option ℕ))) (s : IdWriter) (columns at : List (ℕ × List ℕ))
    → failed ≡ false → IsWritingRows failed actors f i l s → ((a : List (List ℕ)) (rows : List Row) → RowsHeld a rows f i l s → columns ≡ spellings a (row_columns rows)) → at ≡ columns
    → Ascend (listing at)
columns_ascend true actors f i l s columns at e inv are at_is = absurd (cc)
columns_ascend false actors f i l s columns at e inv are at_is =
    let rows = rows_back actors f i l s in
    let P : List (ℕ × List ℕ) → Type 0 = λ zs. Ascend (listing zs) in
    subst P (sym (at_is ∙ are actors rows inv)) (ascending actors rows)

pub rows_finished : {E : Type 0} (part : Bytes × Bytes → List ℕ) (text : List (ℕ × List ℕ) → List ℕ) (failed : Bool) (actors : List (List ℕ)) (f : FieldWriter) (i : IdWriter) (l : Option (List (Option ℕ))) (s : IdWriter) (shown : List (List ℕ) × Option (List Row)) (columns at : List (ℕ × List ℕ)) (result : Result (Bytes × Bytes) E)
    → failed ≡ false → actors ≡ shown.0 → rows_written failed actors f i l s ≡ shown.1 → IsWritingRows failed actors f i l s
    → ((a : List (List ℕ)) (rows : List Row) → RowsHeld a rows f i l s → columns ≡ spellings a (row_columns rows)) → at ≡ columns
    → IfOk result (λ t. part t ≡ text (not_empty at))
    → IfOk result (λ t. IfSome shown.1 (λ rows. part t ≡ text (written_rows shown.0 rows)))
rows_finished part text failed actors f i l s shown columns at (Err e) had names view inv are at_is ok = tt
rows_finished part text failed actors f i l s shown columns at (Ok t) had names view inv are at_is ok =
    let known = rows_known failed actors f i l s shown.1 had view inv in
    let rows = known.0 in
    held shown.1 rows (λ zs. part t ≡ text (written_rows shown.0 zs)) known.1
    (ok ∙ ap (λ zs. text (not_empty zs)) (at_is ∙ are actors rows known.2) ∙ ap (λ a. text (written_rows a rows)) names)

-- what the rows hold may be finished

pub fields_fit : (actors : List (List ℕ)) (rows : List Row) → AllByRecursion (IsRowFor actors) rows → length rows ≤ 2 ^ 22 → FieldsFit (row_lists rows)
fields_fit actors rows all few = record {
  keys = keys_middling (map (λ r. r.key) rows) (row_keys actors rows all);
  values = row_values actors rows all;
  few_keys = omega (arith, length-map rows (λ r. r.key));
  few_inserts = omega (arith, length-map rows (λ r. r.insert));
  few_values = omega (arith, length-map rows (λ r. r.value));
  few_expands = omega (arith, length-map rows (λ r. r.expand));
}

pub ids_fit : (actors : List (List ℕ)) (rows : List Row) → AllByRecursion (IsRowFor actors) rows → length rows ≤ 2 ^ 22 → IdsFit (map (λ r. r.id) rows)
ids_fit actors rows all few =
    let ids = map (λ r. r.id) rows in
    record { counters = ids_middling ids (ids_within actors ids (row_ids actors rows all)); few = omega (arith, length-map rows (λ r. r.id)) }

pub succs_fit : (actors : List (List ℕ)) (rows : List Row) → AllByRecursion (IsRowFor actors) rows → length (flat (map (λ r. r.succs) rows)) ≤ 2 ^ 22 → IdsFit (flat (map (λ r. r.succs) rows))
succs_fit actors rows all few =
    let ids = flat (map (λ r. r.succs) rows) in
    record { counters = ids_middling ids (ids_within actors ids (row_succs actors rows all)); few = omega arith }

-- successors that are lent

pub lent_within : (actors : List (List ℕ)) (ids : List IdRef) → AllByRecursion (IsIdFor actors) (map id_of ids) → All (λ (i : IdRef). IsId (id_of i)) ids
lent_within actors ids all = All-from_recursion (λ (i : IdRef). IsId (id_of i)) ids (each ids all)
  where
    each : (ids : List IdRef) → AllByRecursion (IsIdFor actors) (map id_of ids) → AllByRecursion (λ (i : IdRef). IsId (id_of i)) ids
    each [] all = tt
    each (i ∷ ids) all = ((all.0).within, each ids all.1)

pub lent_step : (actors : List (List ℕ)) (old new : IdWriter) (more : List IdRef)
    → IfSome old.places (λ xs. new.places ≡ Some (xs ++ map (option_map (place_of actors)) (map (λ (i : IdRef). id_actor (id_of i)) more)))
    → IfSome old.counters (λ xs. new.counters ≡ Some (xs ++ map (λ (i : IdRef). id_counter (id_of i)) more))
    → (before : List OpId) → IdsHeld actors before old → IdsHeld actors (before ++ map id_of more) new
lent_step actors old new more placed counted before held =
    let f = option_map (place_of actors) in
    let ids = map id_of more in
    record {
      places = wrote_all _ _ _ _ _ _ held.places placed refl (ap (map f) (map-append id_actor before ids) ∙ map-append f (map id_actor before) (map id_actor ids) ∙ ap (λ zs. map f (map id_actor before) ++ map f zs) (map-map id_actor id_of more));
      counters = wrote_all _ _ _ _ _ _ held.counters counted refl (map-append id_counter before ids ∙ ap (λ zs. map id_counter before ++ zs) (map-map id_counter id_of more));
    }

pub lent_count : (l l' : Option (List (Option ℕ))) (ids : List IdRef) → IfSome l (λ xs. l' ≡ Some (xs ++ Some (length ids) ∷ [])) → IfSome l (λ xs. l' ≡ Some (xs ++ Some (length (map id_of ids)) ∷ []))
lent_count l l' ids h = subst (λ (n : ℕ). IfSome l (λ xs. l' ≡ Some (xs ++ Some n ∷ []))) (sym (length-map ids id_of)) h
