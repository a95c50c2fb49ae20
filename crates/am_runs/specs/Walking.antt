-- A place within the runs of a column, and the steps from there.
--     open_run end bytes    the place at the first entry of the run that begins the bytes
--     step end place        the next entry, and the place behind it
--     entries end n place   the next n entries
--     HasEntries end n p    just n entries are to come
--     Jumps, AreAlike, Takes     many entries passed at once, all alike, or both
use Rattle.std.specs.Prelude.{◌≡◌, ℕ, ◌-◌, ◌≤◌, List, [], ◌∷◌, take, drop, Option, Some, None, Result, Ok, Err, ℤ, pos, negsuc, zero, suc, replicate}
use Rattle.am_leb.specs.declared.LebFault.{LebFault}
use Rattle.am_leb.specs.Reading.{first_unsigned, first_signed}
use Rattle.am_runs.specs.declared.place.Kind.{Kind}
use Rattle.am_runs.specs.declared.place.Kind.TheVariants.{Repeat, Literal, Nulls}

-- within a run: how many of its entries are to come, the item of a repeat, and the bytes behind
pub record Place : Type 0 where
  pub kind : Kind
  pub count : ℕ
  pub item : List ℕ
  pub rest : List ℕ

abbrev pub at_start : List ℕ → Place
at_start bytes = record { kind = Nulls; count = 0; item = []; rest = bytes }

abbrev pub open_nulls : List ℕ → Result (ℕ × ℕ) LebFault → Option Place
open_nulls bytes (Err e) = None
open_nulls bytes (Ok (zero, len)) = None
open_nulls bytes (Ok (suc k, len)) = Some (record { kind = Nulls; count = suc k; item = []; rest = drop len bytes })

abbrev pub open_repeat : ℕ → List ℕ → Option ℕ → Option Place
open_repeat n bytes None = None
open_repeat n bytes (Some len) = Some (record { kind = Repeat; count = n; item = take len bytes; rest = drop len bytes })

-- behind the run's number
abbrev pub open_at : (List ℕ → Option ℕ) → ℤ → List ℕ → Option Place
open_at end (pos zero) tail = open_nulls tail (first_unsigned tail)
open_at end (pos (suc n)) tail = open_repeat (suc n) tail (end tail)
open_at end (negsuc n) tail = Some (record { kind = Literal; count = suc n; item = []; rest = tail })

abbrev pub open_by : (List ℕ → Option ℕ) → List ℕ → Result (ℤ × ℕ) LebFault → Option Place
open_by end bytes (Err e) = None
open_by end bytes (Ok (z, len)) = open_at end z (drop len bytes)

-- the run that begins the bytes
abbrev pub open_run : (List ℕ → Option ℕ) → List ℕ → Option Place
open_run end bytes = open_by end bytes (first_signed bytes)

abbrev pub literal_step : ℕ → List ℕ → Option ℕ → Option (Option (List ℕ) × Place)
literal_step count rest None = None
literal_step count rest (Some len) = Some (Some (take len rest), record { kind = Literal; count = count; item = []; rest = drop len rest })

-- the next entry within a run of count + 1 entries
abbrev pub entry_by : (List ℕ → Option ℕ) → Kind → ℕ → List ℕ → List ℕ → Option (Option (List ℕ) × Place)
entry_by end Repeat count item rest = Some (Some item, record { kind = Repeat; count = count; item = item; rest = rest })
entry_by end Nulls count item rest = Some (None, record { kind = Nulls; count = count; item = item; rest = rest })
entry_by end Literal count item rest = literal_step count rest (end rest)

abbrev pub within_at : (List ℕ → Option ℕ) → ℕ → Place → Option (Option (List ℕ) × Place)
within_at end zero place = None
within_at end (suc count) place = entry_by end place.kind count place.item place.rest

abbrev pub within_opened : (List ℕ → Option ℕ) → Option Place → Option (Option (List ℕ) × Place)
within_opened end None = None
within_opened end (Some place) = within_at end place.count place

abbrev pub step_at : (List ℕ → Option ℕ) → ℕ → Place → Option (Option (List ℕ) × Place)
step_at end zero place = within_opened end (open_run end place.rest)
step_at end (suc count) place = entry_by end place.kind count place.item place.rest

-- the next entry and the place behind it
abbrev pub step : (List ℕ → Option ℕ) → Place → Option (Option (List ℕ) × Place)
step end place = step_at end place.count place

abbrev pub listed : (Place → List (Option (List ℕ))) → Option (Option (List ℕ) × Place) → List (Option (List ℕ))
listed behind None = []
listed behind (Some next) = next.0 ∷ behind next.1

-- the next n entries
unfoldable pub entries : (List ℕ → Option ℕ) → ℕ → Place → List (Option (List ℕ))
entries end zero place = []
entries end (suc n) place = listed (entries end n) (step end place)

abbrev pub holds_behind : (Place → Type 0) → Option (Option (List ℕ) × Place) → Type 0
holds_behind behind None = ⊥
holds_behind behind (Some next) = behind next.1

-- just n entries are to come
unfoldable pub HasEntries : (List ℕ → Option ℕ) → ℕ → Place → Type 0
HasEntries end zero place = (place.count ≡ 0) × (place.rest ≡ [])
HasEntries end (suc n) place = holds_behind (HasEntries end n) (step end place)

abbrev pub and_behind : (List ℕ → Option (List ℕ)) → List ℕ → Option ℕ → Option (List ℕ)
and_behind f bytes None = None
and_behind f bytes (Some len) = f (drop len bytes)

-- the bytes behind n items
unfoldable pub behind_items : (List ℕ → Option ℕ) → ℕ → List ℕ → Option (List ℕ)
behind_items end zero bytes = Some bytes
behind_items end (suc n) bytes = and_behind (behind_items end n) bytes (end bytes)

-- The place k entries on.
pub record Jumps (end : List ℕ → Option ℕ) (from : Place) (k : ℕ) (to : Place) : Type 0 where
  pub goes : (n : ℕ) → k ≤ n → HasEntries end n from → HasEntries end (n - k) to
  pub drops : (n : ℕ) → k ≤ n → HasEntries end n from → drop k (entries end n from) ≡ entries end (n - k) to

-- The next k entries are all this one.
abbrev pub AreAlike : (List ℕ → Option ℕ) → Place → ℕ → Option (List ℕ) → Type 0
AreAlike end place k entry = (j n : ℕ) → j ≤ k → j ≤ n → take j (entries end n place) ≡ replicate j entry

-- The next k entries are all this one, and the place is behind them.
abbrev pub Takes : (List ℕ → Option ℕ) → Place → Option (List ℕ) → ℕ → Place → Type 0
Takes end from entry k to = Jumps end from k to × AreAlike end from k entry
