-- The other actors are just those that operations name, without the author, each once and ascending.
use Rattle.std.proofs.Common.{◌≡◌, ◌≢◌, ℕ, zero, suc, List, [], ◌∷◌, refl, ap, sym, ◌∙◌, true, false, Less, Equal, Greater, ◌⊎◌, inl, inr, ⊎_elim, arith, ◌↔◌}
use Rattle.std.specs.Prelude.{if◌then◌else◌, Contains}
use Rattle.std.specs.List.{flat_map}
use Rattle.std.specs.Ordering.{ordering_reverse}
use Rattle.std.proofs.lemmas.Cmp.{nat_list_cmp_total}
use Rattle.am_types.specs.declared.Op.{Op}
use Rattle.am_types.specs.Order.{bytes_cmp, Ascends}
use Rattle.am_fields.specs.Columns.{is_actor}
use Rattle.am_fields.specs.Actors.{IsListed}
use Rattle.am_fields.proofs.PlaceLaws.{is_actor-itself}
use Rattle.am_opcols.specs.Others.{actors_of, put_by, put_actor, put_other, put_others, others}
use Rattle.am_opcols.specs.Chains.{Chain, ChainFrom}
use Rattle.am_opcols.proofs.Chains.{chain_ascends}
use Rattle.am_opcols.proofs.Named.{others_there}

there_of : (xs : List (List ℕ)) (a : List ℕ) → Contains xs a → IsListed xs a
there_of [] a (k, l, e) = absurd (omega arith)
there_of (x ∷ xs) a (zero, l, e) = inl (sym e)
there_of (x ∷ xs) a (suc k, l, e) = inr (there_of xs a (k, omega arith, e))

contains_of : (xs : List (List ℕ)) (a : List ℕ) → IsListed xs a → Contains xs a
contains_of [] a h = absurd h
contains_of (x ∷ xs) a (inl e) = (0, omega arith, sym e)
contains_of (x ∷ xs) a (inr h) = let w = contains_of xs a h in (suc w.0, (let l = w.1 in omega arith), w.2)

-- what stands there was put there

put_alone : (actor a : List ℕ) (known : List (List ℕ)) → IsListed (put_actor actor known) a → (a ≡ actor) ⊎ IsListed known a
put_alone actor a [] h = ⊎_elim (λ e. inl e) (λ n. absurd n) h
put_alone actor a (first ∷ rest) h =
    elim (bytes_cmp actor first) as (λ r. IsListed (put_by r actor first rest (put_actor actor rest)) a → (a ≡ actor) ⊎ IsListed (first ∷ rest) a) [
      | Less ↦ λ g. g
      | Equal ↦ λ g. inr g
      | Greater ↦ λ g. ⊎_elim (λ e. inr (inl e)) (λ m. ⊎_elim (λ e. inl e) (λ k. inr (inr k)) (put_alone actor a rest m)) g
    ] h

other_alone : (author actor a : List ℕ) (known : List (List ℕ)) → IsListed (put_other author actor known) a → ((a ≡ actor) × (a ≢ author)) ⊎ IsListed known a
other_alone author actor a known h =
    elim (is_actor actor author) as (λ b. is_actor actor author ≡ b → IsListed (if b then known else put_actor actor known) a → ((a ≡ actor) × (a ≢ author)) ⊎ IsListed known a) [
      | true ↦ λ t g. inr g
      | false ↦ λ t g. ⊎_elim (λ e. inl (e, λ same. let itself : is_actor actor author ≡ true = ap (λ x. is_actor actor x) (sym same ∙ e) ∙ is_actor-itself actor in cc)) (λ k. inr k) (put_alone actor a known g)
    ] refl h

pub others_alone : (author : List ℕ) (xs known : List (List ℕ)) (a : List ℕ) → IsListed (put_others author xs known) a → (IsListed xs a × (a ≢ author)) ⊎ IsListed known a
others_alone author [] known a h = inr h
others_alone author (x ∷ xs) known a h =
    ⊎_elim (λ w. inl (inr w.0, w.1)) (λ k. ⊎_elim (λ w. inl (inl w.0, w.1)) (λ m. inr m) (other_alone author x a known k)) (others_alone author xs (put_other author x known) a h)

pub members : (author actor : List ℕ) (ops : List Op) → Contains (others author ops) actor ↔ (Contains (flat_map actors_of ops) actor × (actor ≢ author))
members author actor ops =
    let named = flat_map actors_of ops in (
      λ c. ⊎_elim (λ w. (contains_of named actor w.0, w.1)) (λ n. absurd n) (others_alone author named [] actor (there_of (others author ops) actor c)),
      λ w. ⊎_elim (λ same. absurd (w.1 same)) (λ h. contains_of (others author ops) actor h) (others_there author named [] actor (there_of named actor w.0)),
    )

-- ascending

turned : (a b : List ℕ) → bytes_cmp a b ≡ Greater → bytes_cmp b a ≡ Less
turned a b e = nat_list_cmp_total.antisymm b a ∙ ap ordering_reverse e

put_from : (before actor : List ℕ) (known : List (List ℕ)) → ChainFrom bytes_cmp before known → bytes_cmp before actor ≡ Less → ChainFrom bytes_cmp before (put_actor actor known)
put_from before actor [] up less = (less, tt)
put_from before actor (first ∷ rest) up less =
    elim (bytes_cmp actor first) as (λ r. bytes_cmp actor first ≡ r → ChainFrom bytes_cmp before (put_by r actor first rest (put_actor actor rest))) [
      | Less ↦ λ e. (less, (e, up.1))
      | Equal ↦ λ e. up
      | Greater ↦ λ e. (up.0, put_from first actor rest up.1 (turned actor first e))
    ] refl

put_up : (actor : List ℕ) (known : List (List ℕ)) → Chain bytes_cmp known → Chain bytes_cmp (put_actor actor known)
put_up actor [] up = tt
put_up actor (first ∷ rest) up =
    elim (bytes_cmp actor first) as (λ r. bytes_cmp actor first ≡ r → Chain bytes_cmp (put_by r actor first rest (put_actor actor rest))) [
      | Less ↦ λ e. (e, up)
      | Equal ↦ λ e. up
      | Greater ↦ λ e. put_from first actor rest up (turned actor first e)
    ] refl

other_up : (author actor : List ℕ) (known : List (List ℕ)) → Chain bytes_cmp known → Chain bytes_cmp (put_other author actor known)
other_up author actor known up =
    elim (is_actor actor author) as (λ b. Chain bytes_cmp (if b then known else put_actor actor known)) [
      | true ↦ up
      | false ↦ put_up actor known up
    ]

pub others_up : (author : List ℕ) (xs known : List (List ℕ)) → Chain bytes_cmp known → Chain bytes_cmp (put_others author xs known)
others_up author [] known up = up
others_up author (x ∷ xs) known up = others_up author xs (put_other author x known) (other_up author x known up)

pub ascend : (author : List ℕ) (ops : List Op) → Ascends bytes_cmp (others author ops)
ascend author ops = chain_ascends bytes_cmp (others author ops) (others_up author (flat_map actors_of ops) [] tt)
