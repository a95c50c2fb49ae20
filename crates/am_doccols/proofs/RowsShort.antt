-- A writer that had all memory holds few enough of each field to be finished, and has room for another row.
use Rattle.std.proofs.Common.{◌≡◌, ℕ, ◌+◌, ◌<◌, ◌≤◌, ◌^◌, List, length, map, Option, Some, None, Bool, true, false, subst, arith}
use Rattle.std.specs.Prelude.{IfSome, IfNone, option_map}
use Rattle.std.proofs.lemmas.List.{length-map}
use Rattle.am_types.specs.Views.{id_of}
use Rattle.am_types.specs.declared.IdRef.{IdRef}
use Rattle.am_types.specs.declared.OpId.{OpId}
use Rattle.am_types.specs.declared.Row.{Row}
use Rattle.am_fields.specs.Columns.{place_of}
use Rattle.am_fields.specs.Layout.{flat, object_actor, object_counter, key_actor, key_counter, key_string, id_actor, id_counter}
use Rattle.am_fields.specs.Rooms.{IsOpen, FieldsHaveRoom, IsShort, AreShort}
use Rattle.am_fields.specs.declared.field_writer.FieldWriter.{FieldWriter}
use Rattle.am_fields.specs.declared.id_writer.IdWriter.{IdWriter}
use Rattle.am_fields.proofs.WriteLaws.{held}
use Rattle.am_doccols.specs.Conditions.{HasRoom}
use Rattle.am_doccols.specs.Back.{rows_back}
use Rattle.am_doccols.specs.Writing.{RowsHeld, rows_written, IsWritingRows}

pub record ColumnsShort (f : FieldWriter) (i : IdWriter) (l : Option (List (Option ℕ))) (s : IdWriter) : Type 0 where
  pub fields : AreShort f
  pub ids : IsShort i.places
  pub lengths : IsShort l
  pub succs : IsShort s.places

short : {A : Type 0} (old : Option (List A)) (xs : List A) (m : ℕ) → old ≡ Some xs → length xs ≤ m → m ≤ 2 ^ 22 → IfSome old (λ zs. length zs ≤ 2 ^ 32)
short old xs m e l few = held old xs (λ zs. length zs ≤ 2 ^ 32) e (omega (arith, l, few))

rows_short : (actors : List (List ℕ)) (rows : List Row) (f : FieldWriter) (i : IdWriter) (l : Option (List (Option ℕ))) (s : IdWriter) → RowsHeld actors rows f i l s → ColumnsShort f i l s
rows_short actors rows f i l s h =
    let place = option_map (place_of actors) in
    let fields = h.fields_are in
    let succs = flat (map (λ (r : Row). r.succs) rows) in
    record {
      fields = record {
        object_actor = short _ _ (length rows) fields.object_actor (omega (arith, length-map (map object_actor (map (λ (r : Row). r.obj) rows)) place, length-map (map (λ (r : Row). r.obj) rows) object_actor, length-map rows (λ (r : Row). r.obj))) h.few;
        object_counter = short _ _ (length rows) fields.object_counter (omega (arith, length-map (map (λ (r : Row). r.obj) rows) object_counter, length-map rows (λ (r : Row). r.obj))) h.few;
        key_actor = short _ _ (length rows) fields.key_actor (omega (arith, length-map (map key_actor (map (λ (r : Row). r.key) rows)) place, length-map (map (λ (r : Row). r.key) rows) key_actor, length-map rows (λ (r : Row). r.key))) h.few;
        key_name = short _ _ (length rows) fields.key_name (omega (arith, length-map (map (λ (r : Row). r.key) rows) key_string, length-map rows (λ (r : Row). r.key))) h.few;
        action = short _ _ (length rows) fields.action (omega (arith, length-map (map (λ (r : Row). r.action) rows) Some, length-map rows (λ (r : Row). r.action))) h.few;
        mark = short _ _ (length rows) fields.mark (omega (arith, length-map rows (λ (r : Row). r.mark))) h.few;
      };
      ids = short _ _ (length rows) (h.ids_are).places (omega (arith, length-map (map id_actor (map (λ (r : Row). r.id) rows)) place, length-map (map (λ (r : Row). r.id) rows) id_actor, length-map rows (λ (r : Row). r.id))) h.few;
      lengths = short _ _ (length rows) h.lengths_are (omega (arith, length-map (map length (map (λ (r : Row). r.succs) rows)) Some, length-map (map (λ (r : Row). r.succs) rows) length, length-map rows (λ (r : Row). r.succs))) h.few;
      succs = short _ _ (length succs) (h.succs_are).places (omega (arith, length-map (map id_actor succs) place, length-map succs id_actor)) h.few_succs;
    }

pub columns_short : (failed : Bool) (actors : List (List ℕ)) (f : FieldWriter) (i : IdWriter) (l : Option (List (Option ℕ))) (s : IdWriter) → failed ≡ false → IsWritingRows failed actors f i l s → ColumnsShort f i l s
columns_short true actors f i l s e inv = absurd (cc)
columns_short false actors f i l s e inv = rows_short actors (rows_back actors f i l s) f i l s inv

pub not_failed : (failed : Bool) (actors : List (List ℕ)) (f : FieldWriter) (i : IdWriter) (l : Option (List (Option ℕ))) (s : IdWriter) (shown : Option (List Row)) (P : Type 0) → failed ≡ false → rows_written failed actors f i l s ≡ shown → IfNone shown P
not_failed true actors f i l s shown P e view = absurd (cc)
not_failed false actors f i l s None P e view = absurd (cc)
not_failed false actors f i l s (Some rows) P e view = tt

-- and has room for one more row with so many successors
pub record ColumnsOpen (m : ℕ) (f : FieldWriter) (i : IdWriter) (l : Option (List (Option ℕ))) (s : IdWriter) : Type 0 where
  pub fields : FieldsHaveRoom f
  pub places : IsOpen i.places
  pub counters : IsOpen i.counters
  pub lengths : IsOpen l
  pub succ_places : IfSome s.places (λ xs. length xs + m ≤ 2 ^ 32)
  pub succ_counters : IfSome s.counters (λ xs. length xs + m ≤ 2 ^ 32)

open_at : {A : Type 0} (old : Option (List A)) (xs : List A) (m : ℕ) → old ≡ Some xs → length xs ≤ m → m < 2 ^ 22 → IfSome old (λ zs. length zs < 2 ^ 32)
open_at old xs m e l few = held old xs (λ zs. length zs < 2 ^ 32) e (omega (arith, l, few))

open_by : {A : Type 0} (old : Option (List A)) (xs : List A) (n m : ℕ) → old ≡ Some xs → length xs ≤ n → n + m ≤ 2 ^ 22 → IfSome old (λ zs. length zs + m ≤ 2 ^ 32)
open_by old xs n m e l few = held old xs (λ zs. length zs + m ≤ 2 ^ 32) e (omega (arith, l, few))

rows_open : (actors : List (List ℕ)) (rows : List Row) (more : List OpId) (f : FieldWriter) (i : IdWriter) (l : Option (List (Option ℕ))) (s : IdWriter) → RowsHeld actors rows f i l s → HasRoom rows more → ColumnsOpen (length more) f i l s
rows_open actors rows more f i l s h room =
    let place = option_map (place_of actors) in
    let fields = h.fields_are in
    let succs = flat (map (λ (r : Row). r.succs) rows) in
    record {
      fields = record {
        object_actor = open_at _ _ (length rows) fields.object_actor (omega (arith, length-map (map object_actor (map (λ (r : Row). r.obj) rows)) place, length-map (map (λ (r : Row). r.obj) rows) object_actor, length-map rows (λ (r : Row). r.obj))) room.few;
        object_counter = open_at _ _ (length rows) fields.object_counter (omega (arith, length-map (map (λ (r : Row). r.obj) rows) object_counter, length-map rows (λ (r : Row). r.obj))) room.few;
        key_actor = open_at _ _ (length rows) fields.key_actor (omega (arith, length-map (map key_actor (map (λ (r : Row). r.key) rows)) place, length-map (map (λ (r : Row). r.key) rows) key_actor, length-map rows (λ (r : Row). r.key))) room.few;
        key_counter = open_at _ _ (length rows) fields.key_counter (omega (arith, length-map (map (λ (r : Row). r.key) rows) key_counter, length-map rows (λ (r : Row). r.key))) room.few;
        key_name = open_at _ _ (length rows) fields.key_name (omega (arith, length-map (map (λ (r : Row). r.key) rows) key_string, length-map rows (λ (r : Row). r.key))) room.few;
        insert = open_at _ _ (length rows) fields.insert (omega (arith, length-map rows (λ (r : Row). r.insert))) room.few;
        action = open_at _ _ (length rows) fields.action (omega (arith, length-map (map (λ (r : Row). r.action) rows) Some, length-map rows (λ (r : Row). r.action))) room.few;
        value = open_at _ _ (length rows) fields.value (omega (arith, length-map rows (λ (r : Row). r.value))) room.few;
        expand = open_at _ _ (length rows) fields.expand (omega (arith, length-map rows (λ (r : Row). r.expand))) room.few;
        mark = open_at _ _ (length rows) fields.mark (omega (arith, length-map rows (λ (r : Row). r.mark))) room.few;
      };
      places = open_at _ _ (length rows) (h.ids_are).places (omega (arith, length-map (map id_actor (map (λ (r : Row). r.id) rows)) place, length-map (map (λ (r : Row). r.id) rows) id_actor, length-map rows (λ (r : Row). r.id))) room.few;
      counters = open_at _ _ (length rows) (h.ids_are).counters (omega (arith, length-map (map (λ (r : Row). r.id) rows) id_counter, length-map rows (λ (r : Row). r.id))) room.few;
      lengths = open_at _ _ (length rows) h.lengths_are (omega (arith, length-map (map length (map (λ (r : Row). r.succs) rows)) Some, length-map (map (λ (r : Row). r.succs) rows) length, length-map rows (λ (r : Row). r.succs))) room.few;
      succ_places = open_by _ _ (length succs) (length more) (h.succs_are).places (omega (arith, length-map (map id_actor succs) place, length-map succs id_actor)) room.few_succs;
      succ_counters = open_by _ _ (length succs) (length more) (h.succs_are).counters (omega (arith, length-map succs id_counter)) room.few_succs;
    }

pub columns_open : (failed : Bool) (actors : List (List ℕ)) (f : FieldWriter) (i : IdWriter) (l : Option (List (Option ℕ))) (s : IdWriter) (shown : Option (List Row)) (more : List OpId) → failed ≡ false → rows_written failed actors f i l s ≡ shown → IsWritingRows failed actors f i l s → IfSome shown (λ rows. HasRoom rows more) → ColumnsOpen (length more) f i l s
columns_open true actors f i l s shown more e view inv room = absurd (cc)
columns_open false actors f i l s shown more e view inv room =
    let rows = rows_back actors f i l s in
    rows_open actors rows more f i l s inv (known shown rows more view room)
  where
    known : (shown : Option (List Row)) (rows : List Row) (more : List OpId) → Some rows ≡ shown → IfSome shown (λ xs. HasRoom xs more) → HasRoom rows more
    known None rows more e room = absurd (cc)
    known (Some xs) rows more e room =
        let same : xs ≡ rows = cc in
        subst (λ (zs : List Row). HasRoom zs more) same room

pub lent_open : {A : Type 0} (old : Option (List A)) (ids : List IdRef) → IfSome old (λ xs. length xs + length (map id_of ids) ≤ 2 ^ 32) → IfSome old (λ xs. length xs + length ids ≤ 2 ^ 32)
lent_open old ids h = subst (λ (n : ℕ). IfSome old (λ xs. length xs + n ≤ 2 ^ 32)) (length-map ids id_of) h
