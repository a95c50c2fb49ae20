-- When the two columns of values are canonical.
--     numbers_are         canonical numbers that are read are canonical for what is read
--     canonical_of_joined     columns that spell values are canonical where the numbers are
--     canonical_from, canonical_to     the three tests together tell canonical columns
use Rattle.std.proofs.Common.{◌≡◌, ℕ, suc, ◌≤◌, ◌/◌, List, [], ◌∷◌, length, drop, map, Option, Some, None, refl, sym, ap, ◌∙◌, subst, arith, inl, inr, ⊎_elim}
use Rattle.std.specs.Option.{option_map}
use Rattle.std.specs.List.{flat_map}
use Rattle.std.proofs.lemmas.List.{length-map}
use Rattle.am_leb.specs.Leb.{uleb}
use Rattle.am_types.specs.declared.RawValue.{RawValue}
use Rattle.am_runs.specs.Items.{unsigned_end}
use Rattle.am_runs.specs.ItemLaws.{unsigned_reads}
use Rattle.am_runs.specs.Runs.{expansion, JoinsRuns}
use Rattle.am_runs.specs.Typed.{JoinsUnsigned}
use Rattle.am_runs.specs.Canonical.{Canon, AreNulls}
use Rattle.am_runs.proofs.Unique as unique
use Rattle.am_runs.proofs.Spelled.{one_unsigned}
use Rattle.am_values.specs.Columns.{metadata, AreGood, JoinsValues, AllGood, NoneNull, spellings, CanonValues}
use Rattle.am_values.specs.Cutting.{value_from, values_from, AreCut}
use Rattle.am_values.proofs.Cuts.{joins_values, cut_spelled, length-values}
use Rattle.am_values.proofs.Spelling.{spellings-map, joined-map, canonical_is_joined}

-- ---- the numbers are canonical

none_joined : (bytes : List ℕ) (list : List (Option (List ℕ))) → bytes ≡ [] → JoinsRuns unsigned_end bytes list → list ≡ []
none_joined bytes list e j = j.3 ∙ ap (flat_map expansion) (unique.no_more j.0 (sym e ∙ j.2))

pub numbers_are : (bytes : List ℕ) (xs ys : List (Option (List ℕ))) → JoinsRuns unsigned_end bytes xs → Canon unsigned_end bytes ys → Canon unsigned_end bytes xs
numbers_are bytes xs ys j c = ⊎_elim
    (λ m. inl (m.0, subst AreNulls (sym (none_joined bytes xs m.0 j)) tt))
    (λ m. subst (Canon unsigned_end bytes) (unique.one_list unsigned_end unsigned_reads bytes ys xs (m.1.0, m.1.1, m.1.3, m.1.4) j) (inr m))
    c

good_from : (values : List RawValue) → AreGood (map Some values) → AllGood values
good_from [] h = tt
good_from (v ∷ values) h = (h.0, good_from values h.1)

pub canonical_of_joined : (numbers raw : List ℕ) (values : List RawValue) (list : List (Option (List ℕ))) → JoinsValues numbers raw (map Some values) → Canon unsigned_end numbers list → CanonValues numbers raw values
canonical_of_joined numbers raw values list j c = record {
  numbers_are = subst (Canon unsigned_end numbers) (sym (spellings-map values)) (numbers_are numbers (map (option_map uleb) (map (option_map metadata) (map Some values))) list j.numbers_are c);
  raw_are = j.raw_are ∙ sym (joined-map values);
  good = good_from values j.good;
}

-- ---- the three tests

-- values none of which is null
given : (meta : List (Option ℕ)) (raw : List ℕ) → NoneNull meta → (values : List RawValue) × (values_from meta raw ≡ map Some values)
given [] raw h = ([], refl)
given (None ∷ meta) raw h = absurd (let e = h.0 in cc)
given (Some m ∷ meta) raw h =
    let w = given meta (drop (m / 16) raw) h.1 in
    (value_from m raw ∷ w.0, ap (λ l. Some (value_from m raw) ∷ l) w.1)

pub canonical_from : (bytes raw : List ℕ) (most : ℕ) (meta : List (Option ℕ)) (list : List (Option (List ℕ))) → Canon unsigned_end bytes list → JoinsUnsigned bytes meta → length meta ≤ most → NoneNull meta → AreCut meta raw
    → (values : List RawValue) × CanonValues bytes raw values × (length values ≤ most)
canonical_from bytes raw most meta list c j l n h =
    let w = given meta raw n in
    let spelled = subst (JoinsValues bytes raw) w.1 (joins_values bytes meta raw j h) in
    (w.0, canonical_of_joined bytes raw w.0 list spelled c, omega (arith, l, ap length w.1, length-values meta raw, length-map w.0 (λ (v : RawValue). Some v)))

none_null : (values : List RawValue) → NoneNull (map (option_map metadata) (map Some values))
none_null [] = tt
none_null (v ∷ values) = (refl, none_null values)

length-numbers : (values : List RawValue) → length (map (option_map metadata) (map Some values)) ≡ length values
length-numbers [] = refl
length-numbers (v ∷ values) = ap suc (length-numbers values)

length-spellings : (values : List RawValue) → length (spellings values) ≡ length values
length-spellings [] = refl
length-spellings (v ∷ values) = ap suc (length-spellings values)

pub canonical_numbers : (bytes raw : List ℕ) (most : ℕ) → (values : List RawValue) × CanonValues bytes raw values × (length values ≤ most) → (meta : List (Option ℕ)) × JoinsUnsigned bytes meta × (length meta ≤ most) × NoneNull meta × AreCut meta raw
canonical_numbers bytes raw most w =
    let j = canonical_is_joined bytes raw w.0 w.1 in
    let meta = map (option_map metadata) (map Some w.0) in
    (meta, j.numbers_are, omega (arith, w.2, length-numbers w.0), none_null w.0, subst (AreCut meta) (sym j.raw_are) (cut_spelled (map Some w.0) j.good))

-- those that were read are these
pub canonical_to : (bytes raw : List ℕ) (most : ℕ) (meta : List (Option ℕ)) → JoinsUnsigned bytes meta → (values : List RawValue) × CanonValues bytes raw values × (length values ≤ most) → NoneNull meta × AreCut meta raw
canonical_to bytes raw most meta j w =
    let v = canonical_numbers bytes raw most w in
    let same = one_unsigned bytes v.0 meta v.1 j in
    (subst NoneNull same v.3, subst (λ m. AreCut m raw) same v.4)
