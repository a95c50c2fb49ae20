-- What holds of each row holds of its fields, and of the cells of each column.
use Rattle.std.proofs.Common.{ℕ, ◌≤◌, ◌<◌, ◌^◌, List, [], ◌∷◌, length, map, Option, Some, None, arith, true}
use Rattle.std.specs.Prelude.{IfSome, ◌==◌, if◌then◌else◌, false}
use Rattle.std.specs.List.{AllByRecursion}
use Rattle.std.proofs.lemmas.List.{length-append, length-map}
use Rattle.am_types.specs.declared.OpId.{OpId}
use Rattle.am_types.specs.Fine.{IsId}
use Rattle.am_colmeta.specs.Metadata.{body, column_at}
use Rattle.am_fields.specs.Actors.{IfListed}
use Rattle.am_fields.specs.Columns.{SpellsCounts, numbers_bytes}
use Rattle.am_fields.specs.Layout.{flat, id_actor}
use Rattle.am_fields.specs.Limits.{IsWithin}
use Rattle.am_fields.specs.Writing.{AllFit, IsWord}
use Rattle.am_fields.proofs.Lists.{all-append}
use Rattle.am_fields.proofs.PlaceLaws.{IsKnown, found}
use Rattle.am_fields.proofs.ReadAs.{read_as-some}
use Rattle.am_fields.proofs.Spelled.{numbers_spelled}
use Rattle.am_doccols.specs.Conditions.{IsIdFor}

pub fit_map : {A B : Type 0} (f : A → Option B) (Fit : B → Type 0) (P : A → Type 0) → ((x : A) → P x → IfSome (f x) Fit) → (xs : List A) → AllByRecursion P xs → AllFit Fit (map f xs)
fit_map f Fit P each [] all = tt
fit_map f Fit P each (x ∷ xs) all = (each x all.0, fit_map f Fit P each xs all.1)

pub all_map : {A B : Type 0} (f : A → B) (Q : B → Type 0) (P : A → Type 0) → ((x : A) → P x → Q (f x)) → (xs : List A) → AllByRecursion P xs → AllByRecursion Q (map f xs)
all_map f Q P each [] all = tt
all_map f Q P each (x ∷ xs) all = (each x all.0, all_map f Q P each xs all.1)

pub all_flat : {A : Type 0} (P : A → Type 0) (xss : List (List A)) → AllByRecursion (λ xs. AllByRecursion P xs) xss → AllByRecursion P (flat xss)
all_flat P [] all = tt
all_flat P (xs ∷ xss) all = all-append P xs (flat xss) all.0 (all_flat P xss all.1)

-- as many cells as there are rows
pub mapped : {A B C : Type 0} (f : A → B) (g : B → C) (xs : List A) (n : ℕ) → length xs ≤ n → length (map g (map f xs)) ≤ n
mapped f g xs n h = omega (arith, length-map (map f xs) g, length-map xs f)

-- actors that are listed

pub known : (actors : List (List ℕ)) (x : Option (List ℕ)) → IfListed actors x → IsKnown actors x
known actors None h = tt
known actors (Some a) h = found actors a h

pub ids_known : (actors : List (List ℕ)) (ids : List OpId) → AllByRecursion (IsIdFor actors) ids → AllByRecursion (IsKnown actors) (map id_actor ids)
ids_known actors ids all = all_map id_actor (IsKnown actors) (IsIdFor actors) (λ i h. found actors i.actor h.listed) ids all

-- limits

pub id_within : (i : OpId) → IsId i → IsWithin i
id_within i h = record { low = h.low; high = h.high; some = (h.actor).some; few = (h.actor).few }

-- numbers that all stand

pub given_fit : (ns : List ℕ) → AllByRecursion (λ n. n < 2 ^ 64) ns → AllFit IsWord (map Some ns)
given_fit ns all = fit_map Some IsWord (λ n. n < 2 ^ 64) (λ n h. h) ns all

pub counts_spelled : (ns : List ℕ) → AllByRecursion (λ n. n < 2 ^ 64) ns → length ns ≤ 2 ^ 32 → SpellsCounts (numbers_bytes (map Some ns)) ns
counts_spelled ns all few = (map Some ns, numbers_spelled (map Some ns) (given_fit ns all) (omega (arith, length-map ns (λ (n : ℕ). Some n))), read_as-some 0 ns)

-- the lengths of lists that are few together
pub lengths_fit : {A : Type 0} (xss : List (List A)) (n : ℕ) → length (flat xss) ≤ n → n < 2 ^ 64 → AllByRecursion (λ k. k < 2 ^ 64) (map length xss)
lengths_fit [] n few small = tt
lengths_fit (xs ∷ xss) n few small =
    let whole = length-append xs (flat xss) in
    (omega arith, lengths_fit xss n (omega arith) small)

-- columns are no longer than the body

pub column_within : (columns : List (ℕ × List ℕ)) (s : ℕ) → length (column_at columns s) ≤ length (body columns)
column_within [] s = omega arith
column_within (c ∷ columns) s =
    let whole = length-append c.1 (body columns) in
    elim (c.0 == s) as (λ b. length (if b then c.1 else column_at columns s) ≤ length (body (c ∷ columns))) [
      | true ↦ omega arith
      | false ↦ let more = column_within columns s in omega arith
    ]
