-- A writer of change rows that had all memory holds few enough of each field to be finished, and has room for another.
use Rattle.std.proofs.Common.{◌≡◌, ℕ, ◌+◌, ◌<◌, ◌≤◌, ◌^◌, List, length, map, Option, Some, None, Bool, true, false, subst, arith}
use Rattle.std.specs.Prelude.{IfSome, IfNone, option_map}
use Rattle.std.proofs.lemmas.List.{length-map}
use Rattle.am_types.specs.declared.Meta.{Meta}
use Rattle.am_types.specs.Documents.{unless_empty}
use Rattle.am_fields.specs.Columns.{place_of}
use Rattle.am_fields.specs.Extras.{extra_value}
use Rattle.am_fields.specs.Layout.{whole, flat}
use Rattle.am_fields.specs.Rooms.{IsOpen, IsShort}
use Rattle.am_fields.proofs.WriteLaws.{held}
use Rattle.am_doccols.specs.Conditions.{HasMetaRoom}
use Rattle.am_doccols.specs.declared.meta_columns.MetaColumns.{MetaColumns}
use Rattle.am_doccols.specs.MetaWriting.{metas_back, MetasHeld, metas_written, IsWritingMetas}

pub record MetaColumnsShort (w : MetaColumns) : Type 0 where
  pub actor : IsShort w.actor
  pub message : IsShort w.message
  pub lengths : IsShort w.lengths

short : {A : Type 0} (old : Option (List A)) (xs : List A) (m : ℕ) → old ≡ Some xs → length xs ≤ m → m ≤ 2 ^ 20 → IfSome old (λ zs. length zs ≤ 2 ^ 32)
short old xs m e l few = held old xs (λ zs. length zs ≤ 2 ^ 32) e (omega (arith, l, few))

metas_short : (actors : List (List ℕ)) (metas : List Meta) (w : MetaColumns) → MetasHeld actors metas w → MetaColumnsShort w
metas_short actors metas w h = record {
  actor = short _ _ (length metas) h.actor_are (omega (arith, length-map (map Some (map (λ (m : Meta). m.actor) metas)) (option_map (place_of actors)), length-map (map (λ (m : Meta). m.actor) metas) Some, length-map metas (λ (m : Meta). m.actor))) h.few;
  message = short _ _ (length metas) h.message_are (omega (arith, length-map (map (λ (m : Meta). m.message) metas) unless_empty, length-map metas (λ (m : Meta). m.message))) h.few;
  lengths = short _ _ (length metas) h.lengths_are (omega (arith, length-map (map length (map (λ (m : Meta). m.deps) metas)) Some, length-map (map (λ (m : Meta). m.deps) metas) length, length-map metas (λ (m : Meta). m.deps))) h.few;
}

pub columns_short : (failed : Bool) (actors : List (List ℕ)) (w : MetaColumns) → failed ≡ false → IsWritingMetas failed actors w → MetaColumnsShort w
columns_short true actors w e inv = absurd (cc)
columns_short false actors w e inv = metas_short actors (metas_back actors w) w inv

pub not_failed : (failed : Bool) (actors : List (List ℕ)) (w : MetaColumns) (shown : Option (List Meta)) (P : Type 0) → failed ≡ false → metas_written failed actors w ≡ shown → IfNone shown P
not_failed true actors w shown P e view = absurd (cc)
not_failed false actors w None P e view = absurd (cc)
not_failed false actors w (Some metas) P e view = tt

-- and has room for one more change row with so many dependencies
pub record MetaColumnsOpen (n : ℕ) (w : MetaColumns) : Type 0 where
  pub actor : IsOpen w.actor
  pub seq : IsOpen w.seq
  pub max : IsOpen w.max
  pub time : IsOpen w.time
  pub message : IsOpen w.message
  pub lengths : IsOpen w.lengths
  pub deps : IfSome w.deps (λ xs. length xs + n ≤ 2 ^ 32)
  pub extra : IsOpen w.extra

open_at : {A : Type 0} (old : Option (List A)) (xs : List A) (m : ℕ) → old ≡ Some xs → length xs ≤ m → m < 2 ^ 20 → IfSome old (λ zs. length zs < 2 ^ 32)
open_at old xs m e l few = held old xs (λ zs. length zs < 2 ^ 32) e (omega (arith, l, few))

open_by : {A : Type 0} (old : Option (List A)) (xs : List A) (n m : ℕ) → old ≡ Some xs → length xs ≤ n → n + m ≤ 2 ^ 22 → IfSome old (λ zs. length zs + m ≤ 2 ^ 32)
open_by old xs n m e l few = held old xs (λ zs. length zs + m ≤ 2 ^ 32) e (omega (arith, l, few))

metas_open : (actors : List (List ℕ)) (metas : List Meta) (deps : List ℕ) (w : MetaColumns) → MetasHeld actors metas w → HasMetaRoom metas deps → MetaColumnsOpen (length deps) w
metas_open actors metas deps w h room = record {
  actor = open_at _ _ (length metas) h.actor_are (omega (arith, length-map (map Some (map (λ (m : Meta). m.actor) metas)) (option_map (place_of actors)), length-map (map (λ (m : Meta). m.actor) metas) Some, length-map metas (λ (m : Meta). m.actor))) room.few;
  seq = open_at _ _ (length metas) h.seq_are (omega (arith, length-map (map (λ (m : Meta). m.seq) metas) whole, length-map metas (λ (m : Meta). m.seq))) room.few;
  max = open_at _ _ (length metas) h.max_are (omega (arith, length-map (map (λ (m : Meta). m.max) metas) whole, length-map metas (λ (m : Meta). m.max))) room.few;
  time = open_at _ _ (length metas) h.time_are (omega (arith, length-map (map (λ (m : Meta). m.time) metas) Some, length-map metas (λ (m : Meta). m.time))) room.few;
  message = open_at _ _ (length metas) h.message_are (omega (arith, length-map (map (λ (m : Meta). m.message) metas) unless_empty, length-map metas (λ (m : Meta). m.message))) room.few;
  lengths = open_at _ _ (length metas) h.lengths_are (omega (arith, length-map (map length (map (λ (m : Meta). m.deps) metas)) Some, length-map (map (λ (m : Meta). m.deps) metas) length, length-map metas (λ (m : Meta). m.deps))) room.few;
  deps = open_by _ _ (length (flat (map (λ (m : Meta). m.deps) metas))) (length deps) h.deps_are (omega (arith, length-map (flat (map (λ (m : Meta). m.deps) metas)) whole)) room.few_deps;
  extra = open_at _ _ (length metas) h.extra_are (omega (arith, length-map (map (λ (m : Meta). m.extra) metas) extra_value, length-map metas (λ (m : Meta). m.extra))) room.few;
}

pub columns_open : (failed : Bool) (actors : List (List ℕ)) (w : MetaColumns) (shown : Option (List Meta)) (deps : List ℕ) → failed ≡ false → metas_written failed actors w ≡ shown → IsWritingMetas failed actors w → IfSome shown (λ metas. HasMetaRoom metas deps) → MetaColumnsOpen (length deps) w
columns_open true actors w shown deps e view inv room = absurd (cc)
columns_open false actors w shown deps e view inv room =
    let metas = metas_back actors w in
    metas_open actors metas deps w inv (known shown metas deps view room)
  where
    known : (shown : Option (List Meta)) (metas : List Meta) (deps : List ℕ) → Some metas ≡ shown → IfSome shown (λ xs. HasMetaRoom xs deps) → HasMetaRoom metas deps
    known None metas deps e room = absurd (cc)
    known (Some xs) metas deps e room =
        let same : xs ≡ metas = cc in
        subst (λ (zs : List Meta). HasMetaRoom zs deps) same room
