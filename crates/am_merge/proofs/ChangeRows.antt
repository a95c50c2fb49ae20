-- The change rows of a larger set are those of the smaller, moved, and those of the added changes between them.
use Rattle.std.proofs.Common.{ℕ, zero, suc, ◌≡◌, ◌+◌, List, [], ◌∷◌, ◌++◌, map, filter, true, false, Some, slice_get, unwrap_or, refl, sym, ap, ◌∙◌, subst, inl, inr, Contains, IsPermutation, arith}
use Rattle.std.proofs.lemmas.Bool.{cases_Bool, both_ways, false_from_ne_true}
use Rattle.std.proofs.lemmas.List.Elements.{Contains-append_cases}
use Rattle.std.proofs.lemmas.List.Sorted.{IsPermutation-sym, IsPermutation-trans}
use Rattle.std.proofs.lemmas.Option.{slice_get-map, slice_get_within, get_or_from_slice_get}
use Rattle.am_types.specs.declared.Change.{Change}
use Rattle.am_types.specs.declared.Meta.{Meta}
use Rattle.am_types.specs.Same.{same_hash}
use Rattle.am_types.specs.Members.{Member, hashes, holds, DistinctHashes}
use Rattle.am_types.specs.Canonical.{order, canonical_cmp}
use Rattle.am_types.specs.Documents.{index, meta_of, metas}
use Rattle.am_types.specs.ValidSets.{Valid}
use Rattle.am_types.proofs.Lists.{Contains-head, Contains-tail}
use Rattle.am_types.proofs.Orders.{same_hash-true, same_hash_itself}
use Rattle.am_types.proofs.Sorting.{IsPermutation-sorted_by}
use Rattle.am_laws.proofs.Rules.{distinct_hashes}
use Rattle.am_merge.specs.Laws.{MetasOfLarger}
use Rattle.am_merge.specs.Tables.{moved}
use Rattle.am_merge.specs.ChangeRows.{turns, old_places, row_in, moved_to, moved_by, woven}
use Rattle.am_merge.proofs.Sorts.{Contains-from_sorted_by}
use Rattle.am_merge.proofs.Larger.{one_apart}
use Rattle.am_merge.proofs.Orders.{order_of_old}
use Rattle.am_merge.proofs.Tables.{deps_moved}

-- ---- the canonical order is a listing of the set

reordered : (C : List Member) → IsPermutation C (order C)
unfolding order
reordered C = IsPermutation-sorted_by (canonical_cmp C) C

pub order_valid : (C : List Member) → Valid C → Valid (order C)
order_valid C v = record {
  listing = v.listing;
  same = IsPermutation-trans (order C) C v.listing (IsPermutation-sym C (order C) (reordered C)) v.same;
  in_turn = v.in_turn;
}

pub from_order : (C : List Member) (m : Member) → Contains (order C) m → Contains C m
unfolding order
from_order C m c = Contains-from_sorted_by (canonical_cmp C) C m c

-- ---- places

-- each member stands at its own place
placed_at : (L : List Member) → DistinctHashes L → (k : ℕ) (m : Member) → slice_get L k ≡ Some m → index L m.hash ≡ k
placed_at [] d k m e = absurd (none e)
  where
    none : slice_get {X = Member} [] k ≡ Some m → ⊥
    none e = cc
placed_at (n ∷ L) d zero m e =
    let is : n ≡ m = cc in
    let same : same_hash m.hash n.hash ≡ true = subst (λ (k : Member). same_hash m.hash k.hash ≡ true) (sym is) (same_hash_itself m.hash) in
    simp same refl
placed_at (n ∷ L) d (suc k) m e =
    let there : slice_get L k ≡ Some m = e in
    let l = slice_get_within L k m there in
    let apart : same_hash m.hash n.hash ≡ false = false_from_ne_true _ (λ t.
    d 0 (suc k) n (omega arith) (omega arith) (sym (same_hash-true m.hash n.hash t) ∙ ap (λ (x : Member). x.hash) (sym (get_or_from_slice_get L k m n there)))) in
    let again : index L m.hash ≡ k = placed_at L (λ i j x p q. d (suc i) (suc j) x (omega arith) (omega arith)) k m there in
    let step : index (n ∷ L) m.hash ≡ 1 + index L m.hash = simp apart refl in
    omega arith

-- the old members have the places of their turns
old_at : (C : List Member) (at : Member → ℕ) (M : List Member) (i : ℕ) → ((k : ℕ) (m : Member) → slice_get M k ≡ Some m → at m ≡ i + k) → old_places i (turns C M) ≡ map at (filter (λ m. holds C m.hash) M)
old_at C at [] i is = refl
old_at C at (m ∷ M) i is =
    let here : at m ≡ i = (let a = is 0 m refl in omega arith) in
    let again : old_places (i + 1) (turns C M) ≡ map at (filter (λ m. holds C m.hash) M) = old_at C at M (i + 1) (λ k n e. let a = is (suc k) n e in omega arith) in
    elim (cases_Bool (holds C m.hash)) [
      | inl t ↦ simp t (λ j. sym here j ∷ again j)
      | inr t ↦ simp t again
    ]

-- ---- rows

weave : (C : List Member) (new : Change → Meta) (old : Meta → Meta) (before after : Member → Meta) (M : List Member)
    → ((m : Member) → Contains M m → holds C m.hash ≡ true → old (before m) ≡ after m)
    → ((m : Member) → Contains M m → holds C m.hash ≡ false → new m.change ≡ after m)
    → woven new old (turns C M) (map before (filter (λ m. holds C m.hash) M)) ≡ map after M
weave C new old before after [] a b = refl
weave C new old before after (m ∷ M) a b =
    let again : woven new old (turns C M) (map before (filter (λ m. holds C m.hash) M)) ≡ map after M =
    weave C new old before after M (λ n c. a n (Contains-tail m M n c)) (λ n c. b n (Contains-tail m M n c)) in
    elim (cases_Bool (holds C m.hash)) [
      | inl t ↦ let e = a m (Contains-head m M) t in simp t (λ j. e j ∷ again j)
      | inr t ↦ let e = b m (Contains-head m M) t in simp t (λ j. e j ∷ again j)
    ]

module _ (C E : List Member) (v : Valid C) (w : Valid (C ++ E)) where
  abbrev L : List Member
  L = order C

  abbrev M : List Member
  M = order (C ++ E)

  pub places_of_old : old_places 0 (turns C (order (C ++ E))) ≡ map (λ m. index (order (C ++ E)) m.hash) (order C)
  places_of_old =
      old_at C (λ m. index M m.hash) M 0 (λ k m e. let p = placed_at M (distinct_hashes M (order_valid (C ++ E) w)) k m e in omega arith)
      ∙ ap (map (λ m. index M m.hash)) (order_of_old C E v w)

  moves : (i : ℕ) → moved_to (old_places 0 (turns C M)) i ≡ moved L M i
  moves i = ap (λ l. moved_to l i) places_of_old ∙ ap (λ o. unwrap_or o 0) (slice_get-map (λ m. index M m.hash) L i)

  is_old : (m : Member) → Contains M m → holds C m.hash ≡ true → Contains C m
  is_old m c t = elim (Contains-append_cases C E m (from_order (C ++ E) m c)) [
    | inl d ↦ d
    | inr d ↦ absurd (both_ways (holds C m.hash) (one_apart C E v w m d) t)
  ]

  abbrev before : Member → Meta
  before m = meta_of m.change (map (index L) m.change.deps)

  abbrev after : Member → Meta
  after m = meta_of m.change (map (index M) m.change.deps)

  old_row : (m : Member) → Contains C m → moved_by (old_places 0 (turns C M)) (before m) ≡ after m
  old_row m c = ap (meta_of m.change)
      ((λ j. map (λ i. moves i j) (map (index L) m.change.deps)) ∙ sym (deps_moved C E v m c))

  pub grown : metas M ≡ woven (row_in (hashes M)) (moved_by (old_places 0 (turns C M))) (turns C M) (metas L)
  grown =
      sym (ap (λ l. woven (row_in (hashes M)) (moved_by (old_places 0 (turns C M))) (turns C M) (map before l)) (sym (order_of_old C E v w))
      ∙ weave C (row_in (hashes M)) (moved_by (old_places 0 (turns C M))) before after M (λ m c t. old_row m (is_old m c t)) (λ m c t. refl))

pub metas_of_larger : MetasOfLarger
metas_of_larger C E v w = grown C E v w
