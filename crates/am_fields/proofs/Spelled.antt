-- Canonical columns spell what they hold.
use Rattle.std.proofs.Common.{◌≡◌, ℕ, zero, suc, ◌<◌, ◌≤◌, ◌^◌, List, [], ◌∷◌, length, map, refl, ap, arith, sym, subst, Option, Some, None, Bool, inl, inr, ⊎_elim}
use Rattle.std.specs.Prelude.{ℤ, pos, neg_ℤ, slice_get, replicate, IfSome, IsUtf8}
use Rattle.std.specs.Option.{option_map}
use Rattle.std.specs.List.{flat_map, AllByRecursion}
use Rattle.std.proofs.lemmas.List.{length-append, length-map}
use Rattle.am_leb.specs.Leb.{uleb, leb}
use Rattle.am_runs.specs.Items.{IsItem, unsigned_end, text_end, text_spelling}
use Rattle.am_runs.specs.Runs.{Run, Repeat, Literal, Nulls, expansion, bytes_of, JoinsRuns}
use Rattle.am_runs.specs.Canonical.{AreNulls, canonical_bytes}
use Rattle.am_runs.proofs.Existing.{canonical_bytes-Canon}
use Rattle.am_runs.proofs.Spellings.{Spells-from_canon}
use Rattle.am_delta.specs.Deltas.{AreMiddling, canonical_delta_bytes}
use Rattle.am_delta.proofs.OneSpelling.{CanonDeltas_iff}
use Rattle.am_delta.proofs.Spellings.{SpellsDeltas-from_canon}
use Rattle.am_flags.specs.Flags.{canonical_maybe_bytes}
use Rattle.am_flags.specs.Flags as flags
use Rattle.am_flags.proofs.Counting.{CanonFlags_iff, CanonMaybe_iff}
use Rattle.am_flags.proofs.Spellings.{JoinsFlags-from_canon, SpellsFlags-from_canon}
use Rattle.am_fields.specs.Filling.{Fills}
use Rattle.am_fields.specs.Columns.{SpellsNumbers, SpellsDeltas, SpellsTexts, SpellsFlags, SpellsActors, Name, place_of, numbers_bytes, texts_bytes}
use Rattle.am_fields.specs.Writing.{AllFit, IsWord, IsShortText}
use Rattle.am_fields.proofs.Written.{IsCode, items_of}
use Rattle.am_fields.proofs.Codes.{numbers_code, texts_code}
use Rattle.am_fields.proofs.PlaceLaws.{IsKnown, place_of-le}
use Rattle.am_fields.proofs.Lists.{all-append}

nulls_back : {A : Type 0} (code : A → List ℕ) (xs : List (Option A)) → AreNulls (map (option_map code) xs) → AllByRecursion (λ x. x ≡ None) xs
nulls_back code [] h = tt
nulls_back code (None ∷ xs) h = (refl, nulls_back code xs h.1)
nulls_back code (Some a ∷ xs) h = absurd (let e = h.0 in cc)

spelled : {A : Type 0} (end : List ℕ → Option ℕ) (code : A → List ℕ) (value : List ℕ → A) (Fit : A → Type 0) → IsCode end code value Fit → (xs : List (Option A)) → AllFit Fit xs → length xs ≤ 2 ^ 32
    → Fills (λ bytes ys. JoinsRuns end bytes (map (option_map code) ys)) None (canonical_bytes (map (option_map code) xs)) xs
spelled end code value Fit laws xs all few =
    let list = map (option_map code) xs in
    ⊎_elim (λ n. inl (n.0, nulls_back code xs n.1)) (λ j. inr j)
    (Spells-from_canon end (canonical_bytes list) list (canonical_bytes-Canon end list (items_of end code value Fit laws xs all) (omega (arith, length-map xs (option_map code)))))

pub numbers_spelled : (xs : List (Option ℕ)) → AllFit IsWord xs → length xs ≤ 2 ^ 32 → SpellsNumbers (numbers_bytes xs) xs
numbers_spelled xs all few = spelled unsigned_end uleb _ IsWord numbers_code xs all few

pub texts_spelled : (xs : List (Option (List ℕ))) → AllFit IsShortText xs → length xs ≤ 2 ^ 32 → SpellsTexts (texts_bytes xs) xs
texts_spelled xs all few = spelled text_end text_spelling _ IsShortText texts_code xs all few

pub deltas_spelled : (xs : List (Option ℤ)) → AreMiddling xs → length xs ≤ 2 ^ 32 → SpellsDeltas (canonical_delta_bytes xs) xs
deltas_spelled xs all few = SpellsDeltas-from_canon (canonical_delta_bytes xs) xs ((CanonDeltas_iff xs (canonical_delta_bytes xs) all few).1 refl)

pub flags_spelled : (xs : List Bool) → length xs ≤ 2 ^ 32 → SpellsFlags (flags.canonical_bytes xs) xs
flags_spelled xs few = inr (JoinsFlags-from_canon (flags.canonical_bytes xs) xs ((CanonFlags_iff xs (flags.canonical_bytes xs) few).1 refl))

pub rare_flags_spelled : (xs : List Bool) → length xs ≤ 2 ^ 32 → SpellsFlags (canonical_maybe_bytes xs) xs
rare_flags_spelled xs few = ⊎_elim (λ n. inl (n.1, n.0)) (λ j. inr j) (SpellsFlags-from_canon (canonical_maybe_bytes xs) xs ((CanonMaybe_iff xs (canonical_maybe_bytes xs) few).1 refl))

-- actors by their places

known_names : (actors : List (List ℕ)) (names : List (Option (List ℕ))) → AllByRecursion (IsKnown actors) names → Name actors (map (option_map (place_of actors)) names) names
known_names actors [] all = refl
known_names actors (None ∷ names) all = ap (λ zs. None ∷ zs) (known_names actors names all.1)
known_names actors (Some a ∷ names) all =
    let here : Some (slice_get actors (place_of actors a)) ≡ Some (Some a) = ap Some all.0 in
    let more : Name actors (map (option_map (place_of actors)) names) names = known_names actors names all.1 in
    cc

places_fit : (actors : List (List ℕ)) (names : List (Option (List ℕ))) → length actors < 2 ^ 64 → AllFit IsWord (map (option_map (place_of actors)) names)
places_fit actors [] few = tt
places_fit actors (None ∷ names) few = (tt, places_fit actors names few)
places_fit actors (Some a ∷ names) few = (let place = place_of-le actors a in omega arith, places_fit actors names few)

pub actors_spelled : (actors : List (List ℕ)) (names : List (Option (List ℕ))) → length actors < 2 ^ 64 → AllByRecursion (IsKnown actors) names → length names ≤ 2 ^ 32 → SpellsActors actors (numbers_bytes (map (option_map (place_of actors)) names)) names
actors_spelled actors names few known short =
    let places = map (option_map (place_of actors)) names in
    (places, numbers_spelled places (places_fit actors names few) (omega (arith, length-map names (option_map (place_of actors)))), known_names actors names known)

-- the items of a list are no longer than its canonical spelling

abbrev IsWithin : ℕ → Option (List ℕ) → Type 0
IsWithin n entry = IfSome entry (λ x. length x ≤ n)

repeated_within : (n k : ℕ) (entry : Option (List ℕ)) → IsWithin n entry → AllByRecursion (IsWithin n) (replicate k entry)
repeated_within n zero entry h = tt
repeated_within n (suc k) entry h = (h, repeated_within n k entry h)

items_within : (n : ℕ) (items : List (List ℕ)) → length (flat_map (λ item. item) items) ≤ n → AllByRecursion (IsWithin n) (map Some items)
items_within n [] h = tt
items_within n (x ∷ items) h =
    let whole = length-append x (flat_map (λ item. item) items) in
    (omega arith, items_within n items (omega arith))

run_within : (n : ℕ) (r : Run) → length (bytes_of r) ≤ n → AllByRecursion (IsWithin n) (expansion r)
run_within n (Repeat k item) h = repeated_within n k (Some item) (let l : length item ≤ n = omega (arith, length-append (leb (pos k)) item) in l)
run_within n (Literal items) h = items_within n items (omega (arith, length-append (leb (neg_ℤ (pos (length items)))) (flat_map (λ item. item) items)))
run_within n (Nulls k) h = repeated_within n k None tt

runs_within : (n : ℕ) (runs : List Run) → length (flat_map bytes_of runs) ≤ n → AllByRecursion (IsWithin n) (flat_map expansion runs)
runs_within n [] h = tt
runs_within n (r ∷ runs) h =
    let whole = length-append (bytes_of r) (flat_map bytes_of runs) in
    all-append (IsWithin n) (expansion r) (flat_map expansion runs) (run_within n r (omega arith)) (runs_within n runs (omega arith))

nulls_within : (n : ℕ) (list : List (Option (List ℕ))) → AreNulls list → AllByRecursion (IsWithin n) list
nulls_within n [] h = tt
nulls_within n (None ∷ list) h = (tt, nulls_within n list h.1)
nulls_within n (Some x ∷ list) h = absurd (let e = h.0 in cc)

-- every list of bytes is an item that ends where the list does
whole : List ℕ → Option ℕ
whole bytes = Some (length bytes)

all_items : (list : List (Option (List ℕ))) → AllByRecursion (λ entry. IfSome entry (IsItem whole)) list
unfolding whole
all_items [] = tt
all_items (None ∷ list) = (tt, all_items list)
all_items (Some x ∷ list) = (refl, all_items list)

pub entries_within : (list : List (Option (List ℕ))) (n : ℕ) → length list ≤ 2 ^ 32 → length (canonical_bytes list) ≤ n → AllByRecursion (IsWithin n) list
entries_within list n few h =
    ⊎_elim (λ a. nulls_within n list a.1)
    (λ c. let P : List (Option (List ℕ)) → Type 0 = λ zs. AllByRecursion (IsWithin n) zs in
    subst P (sym (c.1).4) (runs_within n (c.1).0 (let same = ap length (c.1).3 in omega arith)))
    (canonical_bytes-Canon whole list (all_items list) (omega arith))

short_texts : (n : ℕ) (xs : List (Option (List ℕ))) → n < 2 ^ 64 → AllByRecursion (IsWithin n) (map (option_map text_spelling) xs) → AllByRecursion (λ x. IfSome x IsUtf8) xs → AllFit IsShortText xs
short_texts n [] small h u = tt
short_texts n (None ∷ xs) small h u = (tt, short_texts n xs small h.1 u.1)
short_texts n (Some t ∷ xs) small h u =
    let here : length (text_spelling t) ≤ n = h.0 in
    let short : length t < 2 ^ 64 = omega (arith, length-append (uleb (length t)) t) in
    ((u.0, short), short_texts n xs small h.1 u.1)

pub texts_short : (xs : List (Option (List ℕ))) → length xs ≤ 2 ^ 32 → length (texts_bytes xs) < 2 ^ 64 → AllByRecursion (λ x. IfSome x IsUtf8) xs → AllFit IsShortText xs
texts_short xs few h u =
    let list = map (option_map text_spelling) xs in
    short_texts (length (texts_bytes xs)) xs h (entries_within list (length (canonical_bytes list)) (omega (arith, length-map xs (option_map text_spelling))) (omega arith)) u
