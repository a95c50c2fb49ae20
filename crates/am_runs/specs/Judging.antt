-- Runs as they are seen one after another, to judge whether they stand in canonical order.
use Rattle.std.specs.Prelude.{◌≡◌, ◌≢◌, ℕ, ◌-◌, ◌≤◌, nat_lt, List, ◌++◌, length, take, drop, Option, Some, None, Bool, true, false, zero, suc, if◌then◌else◌}
use Rattle.std.specs.Str.{bytes_eq}
use Rattle.am_runs.specs.declared.place.Kind.{Kind}
use Rattle.am_runs.specs.declared.place.Kind.TheVariants as kinds
use Rattle.am_runs.specs.Runs.{Run, Repeat, Literal, Nulls, expansion, bytes_of, IsRun}
use Rattle.am_runs.specs.Canonical.{IsTight, first_entry, last_entry}
use Rattle.am_runs.specs.Walking.{Place, open_run}

-- a run that begins bytes: how many entries, the first and the last, whether it is literal, and what is behind it
pub record Sight : Type 0 where
  pub count : ℕ
  pub first : Option (List ℕ)
  pub last : Option (List ℕ)
  pub literal : Bool
  pub rest : List ℕ

abbrev pub is_literal : Run → Bool
is_literal (Repeat n item) = false
is_literal (Literal items) = true
is_literal (Nulls k) = false

abbrev pub sight_of : Run → List ℕ → Sight
sight_of run rest = record { count = length (expansion run); first = first_entry run; last = last_entry run; literal = is_literal run; rest = rest }

abbrev pub unlike_by : (List ℕ → List ℕ → Option (List ℕ × List ℕ)) → List ℕ → List ℕ → Bool → Option (List ℕ × List ℕ)
unlike_by behind item rest true = None
unlike_by behind item rest false = behind item rest

abbrev pub unlike : (List ℕ → List ℕ → Option (List ℕ × List ℕ)) → List ℕ → List ℕ → Option ℕ → Option (List ℕ × List ℕ)
unlike behind before bytes None = None
unlike behind before bytes (Some len) = unlike_by behind (take len bytes) (drop len bytes) (bytes_eq before (take len bytes))

-- the last of n items, each unlike the one before it, and what is behind them
unfoldable pub unlike_items : (List ℕ → Option ℕ) → ℕ → List ℕ → List ℕ → Option (List ℕ × List ℕ)
unlike_items end zero before bytes = Some (before, bytes)
unlike_items end (suc n) before bytes = unlike (unlike_items end n) before bytes (end bytes)

abbrev pub literal_by : ℕ → List ℕ → Option (List ℕ × List ℕ) → Option Sight
literal_by count first None = None
literal_by count first (Some x) = Some (record { count = count; first = Some first; last = Some x.0; literal = true; rest = x.1 })

abbrev pub literal_sight : (List ℕ → Option ℕ) → ℕ → List ℕ → Option ℕ → Option Sight
literal_sight end count bytes None = None
literal_sight end count bytes (Some len) = literal_by count (take len bytes) (unlike_items end (count - 1) (take len bytes) (drop len bytes))

abbrev pub sight_at : (List ℕ → Option ℕ) → Kind → ℕ → List ℕ → List ℕ → Option Sight
sight_at end kinds.Nulls count item rest = Some (record { count = count; first = None; last = None; literal = false; rest = rest })
sight_at end kinds.Repeat count item rest = if nat_lt count 2 then None else Some (record { count = count; first = Some item; last = Some item; literal = false; rest = rest })
sight_at end kinds.Literal count item rest = if nat_lt count 1 then None else literal_sight end count rest (end rest)

abbrev pub sight_opened : (List ℕ → Option ℕ) → Option Place → Option Sight
sight_opened end None = None
sight_opened end (Some p) = sight_at end p.kind p.count p.item p.rest

-- the run that begins the bytes, if it is tight
abbrev pub tight_sight : (List ℕ → Option ℕ) → List ℕ → Option Sight
tight_sight end bytes = sight_opened end (open_run end bytes)

-- The entries at the seam differ, and the two runs are not both literal. Any run may come first.
abbrev pub MayComeAfter : Option Sight → Sight → Type 0
MayComeAfter None s = Unit {0}
MayComeAfter (Some b) s = (b.last ≢ s.first) × (¬ ((b.literal ≡ true) × (s.literal ≡ true)))

-- A tight run that may follow begins the bytes, with at most so many entries.
pub record IsNext (end : List ℕ → Option ℕ) (before : Option Sight) (bytes : List ℕ) (most : ℕ) (s : Sight) : Type 0 where
  pub run : Run
  pub is_run : IsRun end run
  pub tight : IsTight run
  pub follows : MayComeAfter before s
  pub front : bytes ≡ bytes_of run ++ s.rest
  pub seen : s ≡ sight_of run s.rest
  pub within : s.count ≤ most

-- whether an item was seen so far
abbrev pub item_seen : Bool → Option (List ℕ) → Bool
item_seen true entry = true
item_seen false None = false
item_seen false (Some item) = true
