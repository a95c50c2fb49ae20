-- Where operations stand, by their keys. The place of an operation is how many came before it.
--     keys_of ss           the keys of the operations of the spans ss, in order
--     HasPlace rs c p      one of the runs rs has the counter c at the place p
--     AreRuns keys rs      rs a are the runs of the author a among the keys, ascending
--     IsEntered rs r new   new is rs with the run r where its counters belong
--     GoesOn last r longer longer is the run last and behind it the run r, which goes on where last ends
--     IsLengthened rs r new     new is rs, the last of which goes on with the run r
--     Joins rs r new       the one or the other
--     runs_below n rs      of the runs rs what is at places below n
--     AreNew keys s        no key of the span s is among the keys
use Rattle.std.specs.Prelude.{ℕ, zero, suc, ◌≡◌, ◌<◌, ◌≤◌, ◌+◌, ◌-◌, ◌⊎◌, min, nat_lt, List, [], ◌∷◌, flat_map, map, filter, length, Some, All, AllPairs, Contains, slice_get, slice_index_or, set}
use Rattle.std.specs.List.{insert}
use Rattle.std.specs.Global.{Vec}
use Rattle.am_fits.specs.declared.runs.Run.{Run}
use Rattle.am_fits.specs.declared.spans.Span.{Span}
use Rattle.am_fits.specs.declared.table.IdKey.{IdKey}

abbrev pub key_at : ℕ → ℕ → IdKey
key_at a c = record { author = a; counter = c }

abbrev pub keys_from : ℕ → ℕ → ℕ → List IdKey
keys_from a c zero = []
keys_from a c (suc n) = key_at a c ∷ keys_from a (c + 1) n

abbrev pub span_keys : Span → List IdKey
span_keys s = keys_from s.author s.start s.count

abbrev pub keys_of : List Span → List IdKey
keys_of ss = flat_map span_keys ss

pub record AreNew (keys : List IdKey) (s : Span) : Type 0 where
  pub each : (p j : ℕ) → j < s.count → slice_get keys p ≡ Some (key_at s.author (s.start + j)) → ⊥

-- ---- the runs of one author

-- r ends before s starts
pub record Apart (r s : Run) : Type 0 where
  pub ends : r.start + r.count ≤ s.start

pub record HasPlace (rs : List Run) (c p : ℕ) : Type 0 where
  pub run : Run
  pub is_among : Contains rs run
  pub step : ℕ
  pub within : step < run.count
  pub counter : run.start + step ≡ c
  pub place : run.first + step ≡ p

pub record IsEntered (rs : List Run) (r : Run) (new : List Run) : Type 0 where
  pub at : ℕ
  pub within : at ≤ length rs
  pub is : new ≡ insert rs at r
  pub below : (k : ℕ) (d : Run) → k < at → (slice_index_or rs k d).start ≤ r.start
  pub above : (k : ℕ) (d : Run) → at ≤ k → k < length rs → r.start < (slice_index_or rs k d).start

-- longer is the run last and behind it the run r, which goes on where last ends
pub record GoesOn (last r longer : Run) : Type 0 where
  pub start : longer.start ≡ last.start
  pub first : longer.first ≡ last.first
  pub count : longer.count ≡ last.count + r.count
  pub counters : last.start + last.count ≡ r.start
  pub places : last.first + last.count ≡ r.first

pub record IsLengthened (rs : List Run) (r : Run) (new : List Run) : Type 0 where
  pub at : ℕ
  pub last : at + 1 ≡ length rs
  pub longer : Run
  pub is : new ≡ set rs at longer
  pub goes_on : (d : Run) → GoesOn (slice_index_or rs at d) r longer

abbrev pub Joins : List Run → Run → List Run → Type 0
Joins rs r new = IsEntered rs r new ⊎ IsLengthened rs r new

abbrev pub run_below : ℕ → Run → Run
run_below n r = record { start = r.start; first = r.first; count = min r.count (n - r.first) }

abbrev pub runs_below : ℕ → List Run → List Run
runs_below n rs = map (run_below n) (filter (λ r. nat_lt r.first n) rs)

-- ---- the runs of all authors

abbrev pub runs_in : List (Vec Run) → ℕ → List Run
runs_in rss a = slice_index_or (map (λ v. v.items) rss) a []

pub record IsRun (keys : List IdKey) (a : ℕ) (r : Run) : Type 0 where
  pub some : 1 ≤ r.count
  pub each : (j : ℕ) → j < r.count → slice_get keys (r.first + j) ≡ Some (key_at a (r.start + j))

pub record AreRuns (keys : List IdKey) (rs : ℕ → List Run) : Type 0 where
  pub sound : (a : ℕ) → All (IsRun keys a) (rs a)
  pub apart : (a : ℕ) → AllPairs Apart (rs a)
  pub found : (p : ℕ) (k : IdKey) → slice_get keys p ≡ Some k → HasPlace (rs k.author) k.counter p
