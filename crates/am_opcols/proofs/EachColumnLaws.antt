-- A column that spells a list is canonical for some list just where it is the canonical spelling of that list.
--     numbers_tell, texts_tell, deltas_tell, flags_tell, maybe_tell     one that is canonical for some list is
--     numbers_back, texts_back, deltas_back, flags_back, maybe_back     and the other way round
--     Distinct actors      no actor stands twice
--     own_places           places that name actors are those of the actors
--     actors_tell, actors_back     the same of a column of places
--     IsNamed names a      the actor is one of the names
--     names_there          the actors that places name stand among the actors
use Rattle.std.proofs.Common.{◌≡◌, ℕ, zero, suc, ◌≤◌, ◌^◌, List, [], ◌∷◌, length, map, Option, Some, None, Bool, true, false, ℤ, refl, sym, ap, ◌∙◌, subst, arith, inl, inr, ◌⊎◌, ⊎_elim}
use Rattle.std.specs.Prelude.{slice_get, if◌then◌else◌}
use Rattle.std.specs.Option.{option_map}
use Rattle.std.specs.List.{AllByRecursion}
use Rattle.std.proofs.lemmas.List.{length-map}
use Rattle.am_leb.specs.Leb.{uleb}
use Rattle.am_runs.specs.Items.{unsigned_end, text_end, text_spelling}
use Rattle.am_runs.specs.ItemLaws.{unsigned_reads, text_reads}
use Rattle.am_runs.specs.Runs.{JoinsRuns, Spells}
use Rattle.am_runs.specs.Canonical.{AreNulls}
use Rattle.am_delta.specs.Deltas.{canonical_delta_bytes}
use Rattle.am_delta.proofs.Judged.{canon_tells, canon_back}
use Rattle.am_delta.proofs.Judged as deltas
use Rattle.am_flags.specs.Flags.{CanonFlags, CanonMaybe, JoinsFlags, canonical_maybe_bytes}
use Rattle.am_flags.specs.Flags as flags
use Rattle.am_flags.proofs.Counting.{CanonFlags_iff, CanonMaybe_iff}
use Rattle.am_flags.proofs.Judged.{plain_tells, maybe_tells}
use Rattle.am_fields.specs.Filling.{Fills}
use Rattle.am_fields.specs.Columns.{SpellsNumbers, SpellsDeltas, SpellsTexts, SpellsFlags, SpellsActors, Name, is_actor, place_of, numbers_bytes, texts_bytes}
use Rattle.am_fields.specs.Actors.{IsListed}
use Rattle.am_opcols.specs.EachColumn.{CanonicalNumbers, CanonicalTexts, CanonicalDeltas, CanonicalFlags, CanonicalMaybe}
use Rattle.am_fields.proofs.PlaceLaws.{is_actor-same, is_actor-itself}

-- ---- runs

null_codes : {A : Type 0} (code : A → List ℕ) (xs : List (Option A)) → AllByRecursion (λ x. x ≡ None) xs → AreNulls (map (option_map code) xs)
null_codes code [] h = tt
null_codes code (None ∷ xs) h = (refl, null_codes code xs h.1)
null_codes code (Some a ∷ xs) h = absurd (let e = h.0 in cc)

filled_spells : {A : Type 0} (end : List ℕ → Option ℕ) (code : A → List ℕ) (bytes : List ℕ) (xs : List (Option A)) → Fills (λ b ys. JoinsRuns end b (map (option_map code) ys)) None bytes xs → Spells end bytes (map (option_map code) xs)
filled_spells end code bytes xs f = ⊎_elim (λ n. inl (n.0, null_codes code xs n.1)) (λ j. inr j) f

pub numbers_tell : (bytes : List ℕ) (xs : List (Option ℕ)) → SpellsNumbers bytes xs → length xs ≤ 2 ^ 22 → CanonicalNumbers bytes → bytes ≡ numbers_bytes xs
numbers_tell bytes xs s l t = canon_tells unsigned_end unsigned_reads bytes (map (option_map uleb) xs) t.0 (filled_spells unsigned_end uleb bytes xs s) (omega (arith, length-map xs (option_map uleb))) t.1

pub numbers_back : (bytes : List ℕ) (xs : List (Option ℕ)) → SpellsNumbers bytes xs → length xs ≤ 2 ^ 22 → bytes ≡ numbers_bytes xs → CanonicalNumbers bytes
numbers_back bytes xs s l e = (
  map (option_map uleb) xs,
  canon_back unsigned_end bytes (map (option_map uleb) xs) (filled_spells unsigned_end uleb bytes xs s) (omega (arith, length-map xs (option_map uleb))) e,
  omega (arith, length-map xs (option_map uleb)),
)

pub texts_tell : (bytes : List ℕ) (xs : List (Option (List ℕ))) → SpellsTexts bytes xs → length xs ≤ 2 ^ 22 → CanonicalTexts bytes → bytes ≡ texts_bytes xs
texts_tell bytes xs s l t = canon_tells text_end text_reads bytes (map (option_map text_spelling) xs) t.0 (filled_spells text_end text_spelling bytes xs s) (omega (arith, length-map xs (option_map text_spelling))) t.1

pub texts_back : (bytes : List ℕ) (xs : List (Option (List ℕ))) → SpellsTexts bytes xs → length xs ≤ 2 ^ 22 → bytes ≡ texts_bytes xs → CanonicalTexts bytes
texts_back bytes xs s l e = (
  map (option_map text_spelling) xs,
  canon_back text_end bytes (map (option_map text_spelling) xs) (filled_spells text_end text_spelling bytes xs s) (omega (arith, length-map xs (option_map text_spelling))) e,
  omega (arith, length-map xs (option_map text_spelling)),
)

pub deltas_tell : (bytes : List ℕ) (xs : List (Option ℤ)) → SpellsDeltas bytes xs → length xs ≤ 2 ^ 22 → CanonicalDeltas bytes → bytes ≡ canonical_delta_bytes xs
deltas_tell bytes xs s l t = deltas.deltas_tell bytes xs t.0 s (omega arith) t.1

pub deltas_back : (bytes : List ℕ) (xs : List (Option ℤ)) → SpellsDeltas bytes xs → length xs ≤ 2 ^ 22 → bytes ≡ canonical_delta_bytes xs → CanonicalDeltas bytes
deltas_back bytes xs s l e = (xs, deltas.deltas_back bytes xs s (omega arith) e, l)

-- ---- flags

pub flags_tell : (bytes : List ℕ) (xs : List Bool) → SpellsFlags bytes xs → length xs ≤ 2 ^ 22 → (bytes ≡ [] → xs ≡ []) → CanonicalFlags bytes → bytes ≡ flags.canonical_bytes xs
flags_tell bytes xs s l stands t = ⊎_elim
    (λ n. n.0 ∙ ap flags.canonical_bytes (sym (stands n.0)))
    (λ j. plain_tells bytes xs t.0 j (omega arith) t.1)
    s

pub flags_back : (bytes : List ℕ) (xs : List Bool) → length xs ≤ 2 ^ 22 → bytes ≡ flags.canonical_bytes xs → CanonicalFlags bytes
flags_back bytes xs l e = (xs, (CanonFlags_iff xs bytes (omega arith)).1 e, l)

pub maybe_tell : (bytes : List ℕ) (xs : List Bool) → SpellsFlags bytes xs → length xs ≤ 2 ^ 22 → CanonicalMaybe bytes → bytes ≡ canonical_maybe_bytes xs
maybe_tell bytes xs s l t = maybe_tells bytes xs t.0 (⊎_elim (λ n. inl (n.1, n.0)) (λ j. inr j) s) (omega arith) t.1

pub maybe_back : (bytes : List ℕ) (xs : List Bool) → length xs ≤ 2 ^ 22 → bytes ≡ canonical_maybe_bytes xs → CanonicalMaybe bytes
maybe_back bytes xs l e = (xs, (CanonMaybe_iff xs bytes (omega arith)).1 e, l)

-- ---- places

abbrev pub Distinct : List (List ℕ) → Type 0
Distinct [] = Unit {0}
Distinct (x ∷ xs) = (IsListed xs x → ⊥) × Distinct xs

there_at : (actors : List (List ℕ)) (p : ℕ) (a : List ℕ) → slice_get actors p ≡ Some a → IsListed actors a
there_at [] p a e = absurd (cc)
there_at (x ∷ xs) zero a e = inl (let s : x ≡ a = cc in sym s)
there_at (x ∷ xs) (suc p) a e = inr (there_at xs p a e)

place_at : (actors : List (List ℕ)) (p : ℕ) (a : List ℕ) → Distinct actors → slice_get actors p ≡ Some a → place_of actors a ≡ p
place_at [] p a d e = absurd (cc)
place_at (x ∷ xs) zero a d e =
    let s : x ≡ a = cc in
    ap (λ b. if b then 0 else suc (place_of xs a)) (ap (is_actor a) s ∙ is_actor-itself a)
place_at (x ∷ xs) (suc p) a d e =
    let more : place_of xs a ≡ p = place_at xs p a d.1 e in
    elim (is_actor a x) as (λ b. is_actor a x ≡ b → (if b then 0 else suc (place_of xs a)) ≡ suc p) [
      | true ↦ λ t. absurd (d.0 (subst (IsListed xs) (is_actor-same a x t) (there_at xs p a e)))
      | false ↦ λ t. ap suc more
    ] refl

own_places : (actors : List (List ℕ)) (places : List (Option ℕ)) (names : List (Option (List ℕ))) → Distinct actors → Name actors places names → places ≡ map (option_map (place_of actors)) names
own_places actors [] [] d e = refl
own_places actors [] (n ∷ names) d e = absurd (cc)
own_places actors (p ∷ places) [] d e = absurd (cc)
own_places actors (None ∷ places) (None ∷ names) d e =
    let t : map (option_map (slice_get actors)) places ≡ map (option_map Some) names = cc in
    ap (λ l. None ∷ l) (own_places actors places names d t)
own_places actors (None ∷ places) (Some a ∷ names) d e = absurd (cc)
own_places actors (Some p ∷ places) (None ∷ names) d e = absurd (cc)
own_places actors (Some p ∷ places) (Some a ∷ names) d e =
    let t : map (option_map (slice_get actors)) places ≡ map (option_map Some) names = cc in
    let h : slice_get actors p ≡ Some a = cc in
    ap (λ n. Some n ∷ places) (sym (place_at actors p a d h)) ∙ ap (λ l. Some (place_of actors a) ∷ l) (own_places actors places names d t)

length-places : (actors : List (List ℕ)) (places : List (Option ℕ)) (names : List (Option (List ℕ))) → places ≡ map (option_map (place_of actors)) names → length places ≡ length names
length-places actors places names e = ap length e ∙ length-map names (option_map (place_of actors))

pub actors_tell : (actors : List (List ℕ)) (bytes : List ℕ) (names : List (Option (List ℕ))) → Distinct actors → SpellsActors actors bytes names → length names ≤ 2 ^ 22 → CanonicalNumbers bytes → bytes ≡ numbers_bytes (map (option_map (place_of actors)) names)
actors_tell actors bytes names d s l t =
    let own = own_places actors s.0 names d s.2 in
    numbers_tell bytes s.0 s.1 (omega (arith, length-places actors s.0 names own)) t ∙ ap numbers_bytes own

pub actors_back : (actors : List (List ℕ)) (bytes : List ℕ) (names : List (Option (List ℕ))) → Distinct actors → SpellsActors actors bytes names → length names ≤ 2 ^ 22 → bytes ≡ numbers_bytes (map (option_map (place_of actors)) names) → CanonicalNumbers bytes
actors_back actors bytes names d s l e =
    let own = own_places actors s.0 names d s.2 in
    numbers_back bytes s.0 s.1 (omega (arith, length-places actors s.0 names own)) (e ∙ ap numbers_bytes (sym own))

-- the actor is one of the names
abbrev pub IsNamed : List (Option (List ℕ)) → List ℕ → Type 0
IsNamed [] a = ⊥
IsNamed (None ∷ names) a = IsNamed names a
IsNamed (Some b ∷ names) a = (a ≡ b) ⊎ IsNamed names a

-- the actors that places name stand there
pub names_there : (actors : List (List ℕ)) (places : List (Option ℕ)) (names : List (Option (List ℕ))) → Name actors places names → (a : List ℕ) → IsNamed names a → IsListed actors a
names_there actors places [] e a h = absurd h
names_there actors [] (n ∷ names) e a h = absurd (cc)
names_there actors (None ∷ places) (None ∷ names) e a h =
    let t : map (option_map (slice_get actors)) places ≡ map (option_map Some) names = cc in
    names_there actors places names t a h
names_there actors (None ∷ places) (Some b ∷ names) e a h = absurd (cc)
names_there actors (Some p ∷ places) (None ∷ names) e a h = absurd (cc)
names_there actors (Some p ∷ places) (Some b ∷ names) e a h =
    let t : map (option_map (slice_get actors)) places ≡ map (option_map Some) names = cc in
    let g : slice_get actors p ≡ Some b = cc in
    ⊎_elim (λ s. subst (IsListed actors) (sym s) (there_at actors p b g)) (λ m. names_there actors places names t a m) h
