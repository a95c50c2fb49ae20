-- Actors that are noted as they are met, then sorted, each left once.
--     notes_more                  first some are noted, and then others
--     notes_again                 one that is there isn't noted again
--     notes_one                   one that isn't the author is
--     ids_noted, ops_noted        one more id, one more operation
--     at_listed                   an actor at a place is listed
--     sorted_up, sorted_members   sorting and leaving each once: they ascend, and the same are listed
--     noted_others                what is left are the other actors of the operations
use Rattle.std.proofs.Common.{◌≡◌, ◌≢◌, ℕ, zero, suc, ◌+◌, ◌<◌, List, [], ◌∷◌, ◌++◌, length, map, take, get_or, refl, sym, ap, ◌∙◌, subst, Bool, Bor, arith, IsPermutation, inl, inr, ⊎_elim}
use Rattle.std.specs.Prelude.{Contains}
use Rattle.std.specs.List.{dedup, dedup_from, flat_map, AllByRecursion}
use Rattle.std.specs.List.Sorted.{IsSorted, IsStrictlySortedBy}
use Rattle.std.specs.Ordering.{on, is_lt}
use Rattle.std.specs.Cmp.Lexicographic.{texts_ties}
use Rattle.std.proofs.lemmas.Bool.{cases_Bool}
use Rattle.std.proofs.lemmas.Cmp.{nat_list_cmp_total, nat_list_eq_equiv}
use Rattle.std.proofs.lemmas.List.{get_or-map, length-map, map-append}
use Rattle.std.proofs.lemmas.List.Kept.{Contains-dedup, Contains-from_dedup, IsStrictlySortedBy-dedup}
use Rattle.std.proofs.lemmas.List.Sorted.{IsPermutation-map, Contains-permutation, IsPermutation-sym}
use Rattle.am_types.specs.declared.OpId.{OpId}
use Rattle.am_types.specs.declared.Op.{Op}
use Rattle.am_types.specs.Order.{bytes_cmp}
use Rattle.am_types.specs.Same.{same_bytes}
use Rattle.am_types.proofs.Orders.{same_bytes-true}
use Rattle.am_fields.specs.Actors.{IsListed}
use Rattle.am_fields.proofs.WriteLaws.{take_next}
use Rattle.am_opcols.specs.Chains.{Chain}
use Rattle.am_opcols.specs.Noted.{Notes}
use Rattle.am_opcols.specs.Others.{actors_of, others}
use Rattle.am_opcols.proofs.Named.{there_left, there_right}
use Rattle.am_opcols.proofs.ListedLaws.{own_others, there_either}
use Rattle.am_opcols.proofs.OtherLaws.{flat-next}

pub notes_more : (author : List ℕ) (xs ys old between new : List (List ℕ)) → Notes author xs old between → Notes author ys between new → Notes author (xs ++ ys) old new
notes_more author xs ys old between new first second = record {
  kept = λ a h. second.kept a (first.kept a h);
  noted = λ a h. ⊎_elim
      (λ l. ⊎_elim (λ e. inl e) (λ t. inr (second.kept a t)) (first.noted a l))
      (λ r. second.noted a r)
      (there_either xs ys a h);
  alone = λ a h. ⊎_elim
      (λ w. inl (there_right xs ys a w.0, w.1))
      (λ t. ⊎_elim (λ w. inl (there_left xs ys a w.0, w.1)) (λ o. inr o) (first.alone a t))
      (second.alone a h);
}

pub notes_again : (author actor : List ℕ) (old : List (List ℕ)) → IsListed old actor → Notes author (actor ∷ []) old old
notes_again author actor old there = record {
  kept = λ a h. h;
  noted = λ a h. ⊎_elim (λ e. inr (subst (IsListed old) (sym e) there)) (λ z. absurd z) h;
  alone = λ a h. inr h;
}

pub notes_one : (author actor : List ℕ) (old : List (List ℕ)) → actor ≢ author → Notes author (actor ∷ []) old (old ++ actor ∷ [])
notes_one author actor old other = record {
  kept = λ a h. there_left old (actor ∷ []) a h;
  noted = λ a h. ⊎_elim (λ e. inr (there_right old (actor ∷ []) a (inl e))) (λ z. absurd z) h;
  alone = λ a h. ⊎_elim
      (λ o. inr o)
      (λ n. ⊎_elim (λ e. inl (inl e, λ same. other (sym e ∙ same))) (λ z. absurd z) n)
      (there_either old (actor ∷ []) a h);
}

-- ---- of ids, of an operation, of operations

pub ids_noted : (author : List ℕ) (ids : List OpId) (i : ℕ) (id : OpId) (old now new : List (List ℕ)) → i < length ids → id ≡ get_or ids i id
    → Notes author (map (λ x. x.actor) (take i ids)) old now → Notes author (id.actor ∷ []) now new → Notes author (map (λ x. x.actor) (take (i + 1) ids)) old new
ids_noted author ids i id old now new n e before step =
    subst (λ xs. Notes author xs old new) (sym (map-append (λ x. x.actor) (take i ids) (id ∷ [])) ∙ ap (map (λ x. x.actor)) (sym (take_next ids i id n e)))
    (notes_more author (map (λ x. x.actor) (take i ids)) (id.actor ∷ []) old now new before step)

pub ops_noted : (author : List ℕ) (ops : List Op) (i : ℕ) (op : Op) (old now new : List (List ℕ)) → i < length ops → op ≡ get_or ops i op
    → Notes author (flat_map actors_of (take i ops)) old now → Notes author (actors_of op) now new → Notes author (flat_map actors_of (take (i + 1) ops)) old new
ops_noted author ops i op old now new n e before step =
    subst (λ xs. Notes author xs old new) (sym (flat-next (take i ops) op) ∙ ap (flat_map actors_of) (sym (take_next ops i op n e)))
    (notes_more author (flat_map actors_of (take i ops)) (actors_of op) old now new before step)

-- an actor at a place is listed
pub at_listed : (xs : List (Bor (List ℕ))) (i : ℕ) (d : Bor (List ℕ)) → i < length xs → IsListed (map (λ (a : Bor (List ℕ)). a.now) xs) ((get_or xs i d).now)
at_listed [] i d l = absurd (omega arith)
at_listed (x ∷ xs) zero d l = inl refl
at_listed (x ∷ xs) (suc i) d l = inr (at_listed xs i d (omega arith))

-- ---- sorted, each once

there_of : (xs : List (List ℕ)) (a : List ℕ) → Contains xs a → IsListed xs a
there_of [] a (k, l, e) = absurd (omega arith)
there_of (x ∷ xs) a (zero, l, e) = inl (sym e)
there_of (x ∷ xs) a (suc k, l, e) = inr (there_of xs a (k, omega arith, e))

contains_of : (xs : List (List ℕ)) (a : List ℕ) → IsListed xs a → Contains xs a
contains_of [] a h = absurd h
contains_of (x ∷ xs) a (inl e) = (0, omega arith, sym e)
contains_of (x ∷ xs) a (inr h) = let w = contains_of xs a h in (suc w.0, (let l = w.1 in omega arith), w.2)

chain_of : (xs : List (List ℕ)) → IsStrictlySortedBy bytes_cmp xs → Chain bytes_cmp xs
unfolding IsStrictlySortedBy
chain_of [] up = tt
chain_of (x ∷ []) up = tt
chain_of (x ∷ (y ∷ ys)) up = (up.0.0, chain_of (y ∷ ys) up.1)

module _ {X K : Type 0} (same : K → K → Bool) (f : X → K) where
  map-dedup_from : (x : X) (xs : List X) → map f (dedup_from (λ a b. same (f a) (f b)) x xs) ≡ dedup_from same (f x) (map f xs)
  map-dedup_from x [] = refl
  map-dedup_from x (y ∷ ys) =
      let skips = map-dedup_from x ys in
      let keeps = map-dedup_from y ys in
      elim (cases_Bool (same (f y) (f x))) [ inl e ↦ simp e skips | inr e ↦ simp e (ap (λ l. f x ∷ l) keeps) ]

  map-dedup : (xs : List X) → map f (dedup (λ a b. same (f a) (f b)) xs) ≡ dedup same (map f xs)
  map-dedup [] = refl
  map-dedup (x ∷ xs) = map-dedup_from x xs

abbrev Lent : Type 0
Lent = Bor (List ℕ)

abbrev bytes_of : Lent → List ℕ
bytes_of a = a.now

sorted-map : (xs : List Lent) → IsSorted (on bytes_of bytes_cmp) xs → IsSorted bytes_cmp (map bytes_of xs)
sorted-map [] s k d z h = absurd (omega arith)
sorted-map (x ∷ xs) s k d z h =
    let n = length-map (x ∷ xs) bytes_of in
    let next : k + 1 < length (x ∷ xs) = omega arith in
    let here : k < length (x ∷ xs) = omega arith in
    let a = get_or-map bytes_of (x ∷ xs) (k + 1) x d next in
    let b = get_or-map bytes_of (x ∷ xs) k x d here in
    (λ j. is_lt (bytes_cmp (a j) (b j))) ∙ s k x z next

pub sorted_up : (sorted : List Lent) → IsSorted (on bytes_of bytes_cmp) sorted → Chain bytes_cmp (map bytes_of (dedup (λ (a b : Lent). same_bytes a.now b.now) sorted))
sorted_up sorted s =
    subst (Chain bytes_cmp) (sym (map-dedup same_bytes bytes_of sorted))
    (chain_of (dedup same_bytes (map bytes_of sorted)) (IsStrictlySortedBy-dedup nat_list_cmp_total texts_ties (map bytes_of sorted) (sorted-map sorted s)))

pub sorted_members : (old sorted : List Lent) → IsPermutation old sorted → (a : List ℕ)
    → (IsListed (map bytes_of (dedup (λ (x y : Lent). same_bytes x.now y.now) sorted)) a → IsListed (map bytes_of old) a)
    × (IsListed (map bytes_of old) a → IsListed (map bytes_of (dedup (λ (x y : Lent). same_bytes x.now y.now) sorted)) a)
sorted_members old sorted p a =
    let moved = IsPermutation-map bytes_of old sorted p in
    let same = map-dedup same_bytes bytes_of sorted in (
      λ h. there_of (map bytes_of old) a (Contains-permutation (map bytes_of sorted) (map bytes_of old) a (IsPermutation-sym (map bytes_of old) (map bytes_of sorted) moved)
          (Contains-from_dedup same_bytes (map bytes_of sorted) a (contains_of (dedup same_bytes (map bytes_of sorted)) a (subst (λ l. IsListed l a) same h)))),
      λ h. subst (λ l. IsListed l a) (sym same) (there_of (dedup same_bytes (map bytes_of sorted)) a
          (Contains-dedup nat_list_eq_equiv same_bytes-true (map bytes_of sorted) a (Contains-permutation (map bytes_of old) (map bytes_of sorted) a moved (contains_of (map bytes_of old) a h)))),
    )

-- ---- what is left

pub at_each : (P : List ℕ → Type 0) (xs : List (List ℕ)) → ((a : List ℕ) → IsListed xs a → P a) → AllByRecursion P xs
at_each P [] f = tt
at_each P (x ∷ xs) f = (f x (inl refl), at_each P xs (λ a h. f a (inr h)))

pub noted_others : (author : List ℕ) (ops : List Op) (noted left : List (List ℕ)) → Notes author (flat_map actors_of ops) [] noted → Chain bytes_cmp left
    → ((a : List ℕ) → (IsListed left a → IsListed noted a) × (IsListed noted a → IsListed left a)) → left ≡ others author ops
noted_others author ops noted left n up same =
    own_others author ops left up
    (λ h. ⊎_elim (λ w. w.1 refl) (λ z. z) (n.alone author ((same author).0 h)))
    (at_each (IsListed (flat_map actors_of ops)) left (λ a h. ⊎_elim (λ w. w.0) (λ z. absurd z) (n.alone a ((same a).0 h))))
    (λ a h. ⊎_elim (λ e. inl e) (λ t. inr ((same a).1 t)) (n.noted a h))
