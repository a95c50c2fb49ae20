-- The columns that were written are the canonical ones.
use Rattle.std.proofs.Common.{◌≡◌, ℕ, ◌<◌, ◌≤◌, ◌^◌, List, [], ◌∷◌, ◌++◌, length, map, Option, Some, None, Bool, refl, sym, ap, ◌∙◌, arith, subst}
use Rattle.std.specs.Prelude.{ℤ, pos, IfSome}
use Rattle.std.specs.Option.{option_map}
use Rattle.std.specs.List.{AllByRecursion}
use Rattle.std.proofs.lemmas.Int.{ints}
use Rattle.std.proofs.lemmas.List.{map-append}
use Rattle.am_leb.specs.Leb.{uleb}
use Rattle.am_types.specs.declared.OpId.{OpId}
use Rattle.am_types.specs.declared.Key.{Key}
use Rattle.am_types.specs.declared.Key.TheVariants as keys
use Rattle.am_types.specs.declared.RawValue.{RawValue}
use Rattle.am_types.specs.Fine.{IsId, IsKey}
use Rattle.am_delta.specs.Deltas.{IsMiddling, AreMiddling, CanonDeltas, canonical_delta_bytes}
use Rattle.am_delta.proofs.OneSpelling.{CanonDeltas_iff}
use Rattle.am_flags.specs.Flags.{CanonFlags, CanonMaybe, canonical_bytes, canonical_maybe_bytes}
use Rattle.am_flags.proofs.Counting.{CanonFlags_iff, CanonMaybe_iff}
use Rattle.am_values.specs.Columns.{metadata, joined, AllGood, CanonValues, spellings as value_spellings}
use Rattle.am_values.proofs.Spelling.{one_canonical}
use Rattle.am_runs.specs.Canonical as runs
use Rattle.am_fields.specs.Columns.{Cells, Column, numbers_bytes, texts_bytes, spelling, spellings}
use Rattle.am_fields.specs.Layout.{key_counter, id_counter}

pub got : {A : Type 0} (o : Option A) (x : A) (P : A → Type 0) → o ≡ Some x → IfSome o P → P x
got None x P e p = absurd (cc)
got (Some y) x P e p = let same : y ≡ x = cc in subst P same p

-- one column each

pub numbers_canonical : (o : Option (List (Option ℕ))) (xs : List (Option ℕ)) (bytes : List ℕ) → o ≡ Some xs → IfSome o (λ items. bytes ≡ numbers_bytes items) → bytes ≡ numbers_bytes xs
numbers_canonical o xs bytes e ok = got o xs (λ items. bytes ≡ numbers_bytes items) e ok

pub texts_canonical : (o : Option (List (Option (List ℕ)))) (xs : List (Option (List ℕ))) (bytes : List ℕ) → o ≡ Some xs → IfSome o (λ items. bytes ≡ texts_bytes items) → bytes ≡ texts_bytes xs
texts_canonical o xs bytes e ok = got o xs (λ items. bytes ≡ texts_bytes items) e ok

pub deltas_canonical : (o : Option (List (Option ℤ))) (xs : List (Option ℤ)) (bytes : List ℕ) → o ≡ Some xs → AreMiddling xs → length xs ≤ 2 ^ 32 → IfSome o (CanonDeltas bytes) → bytes ≡ canonical_delta_bytes xs
deltas_canonical o xs bytes e small few canon = (CanonDeltas_iff xs bytes small few).0 (got o xs (CanonDeltas bytes) e canon)

pub flags_canonical : (o : Option (List Bool)) (xs : List Bool) (bytes : List ℕ) → o ≡ Some xs → length xs ≤ 2 ^ 32 → IfSome o (CanonFlags bytes) → bytes ≡ canonical_bytes xs
flags_canonical o xs bytes e few canon = (CanonFlags_iff xs bytes few).0 (got o xs (CanonFlags bytes) e canon)

pub maybe_canonical : (o : Option (List Bool)) (xs : List Bool) (bytes : List ℕ) → o ≡ Some xs → length xs ≤ 2 ^ 32 → IfSome o (CanonMaybe bytes) → bytes ≡ canonical_maybe_bytes xs
maybe_canonical o xs bytes e few canon = (CanonMaybe_iff xs bytes few).0 (got o xs (CanonMaybe bytes) e canon)

numbers-same : (values : List RawValue) → value_spellings values ≡ map (option_map uleb) (map Some (map metadata values))
numbers-same [] = refl
numbers-same (v ∷ values) = ap (λ zs. Some (uleb (metadata v)) ∷ zs) (numbers-same values)

pub values_canonical : (o : Option (List RawValue)) (values : List RawValue) (numbers raw : List ℕ) → o ≡ Some values → AllGood values → length values ≤ 2 ^ 32 → IfSome o (CanonValues numbers raw) → (numbers ≡ numbers_bytes (map Some (map metadata values))) × (raw ≡ joined values)
values_canonical o values numbers raw e good few canon =
    let both = (one_canonical values numbers raw good few).0 (got o values (CanonValues numbers raw) e canon) in
    (both.0 ∙ ap runs.canonical_bytes (numbers-same values), both.1)

-- columns one after another

-- these are the canonical columns of what cs hold
pub record Spelled (actors : List (List ℕ)) (items : List (ℕ × List ℕ)) (cs : List Column) : Type 0 where
  pub is : items ≡ spellings actors cs

pub none_spelled : (actors : List (List ℕ)) (items : List (ℕ × List ℕ)) → items ≡ [] → Spelled actors items []
none_spelled actors items e = record { is = e }

-- and one more
pub put : {actors : List (List ℕ)} {items next : List (ℕ × List ℕ)} {cs : List Column} (s : ℕ) {bytes : List ℕ} (c : Cells) → Spelled actors items cs → next ≡ items ++ (s, bytes) ∷ [] → bytes ≡ spelling actors c → Spelled actors next (cs ++ (s, c) ∷ [])
put {actors = actors} {items = items} {cs = cs} s {bytes = bytes} c before e b = record {
  is = e ∙ ap (λ zs. zs ++ (s, bytes) ∷ []) before.is ∙ ap (λ z. spellings actors cs ++ (s, z) ∷ []) b ∙ sym (map-append {B = ℕ × List ℕ} (λ c. (c.0, spelling actors c.1)) cs ((s, c) ∷ []));
}

-- the bounds

pub middling : (n : ℕ) → n < 2 ^ 53 → IsMiddling (pos n)
middling n small = (omega (arith, ints), omega (arith, ints))

key_middling : (k : Key) → IsKey k → IfSome (key_counter k) IsMiddling
key_middling (keys.Name n) is = tt
key_middling keys.Head is = middling 0 (omega arith)
key_middling (keys.Elem i) is = middling i.counter is.high

pub keys_middling : (keys : List Key) → AllByRecursion IsKey keys → AreMiddling (map key_counter keys)
keys_middling [] all = tt
keys_middling (k ∷ keys) all = (key_middling k all.0, keys_middling keys all.1)

pub ids_middling : (ids : List OpId) → AllByRecursion IsId ids → AreMiddling (map id_counter ids)
ids_middling [] all = tt
ids_middling (i ∷ ids) all = (middling i.counter (all.0).high, ids_middling ids all.1)
