-- The hashes that a test picks, sorted.
use Rattle.std.proofs.Common.{ℕ, zero, suc, ◌≡◌, ◌+◌, List, [], ◌∷◌, ◌++◌, map, filter, take, Bool, true, false, cond, Some, slice_get, refl, ap, ◌∙◌, subst, inl, inr, All, Contains, IsPermutation, arith}
use Rattle.std.specs.List.Sorted.{IsSorted}
use Rattle.std.specs.Bool.{⊤}
use Rattle.std.proofs.lemmas.Bool.{cases_Bool}
use Rattle.std.proofs.lemmas.List.Elements.{All-contains_itself, All-head, All-tail, All-weaker}
use Rattle.am_types.specs.declared.Hash.{Hash}
use Rattle.am_types.specs.Order.{hash_cmp, sorted_by}
use Rattle.am_types.specs.Members.{Member, hashes}
use Rattle.am_types.specs.Ancestors.{is_named, ancestor_hashes, ancestors}
use Rattle.am_types.proofs.Orders.{hash_total, hash_exact}
use Rattle.am_graph.specs.declared.node.Node.{Node}
use Rattle.am_graph.specs.Graphs.{nodes, ForSet, TellsAncestors}
use Rattle.am_graph.proofs.SortCalls.{sorted_is}

abbrev pub wanted_among : (Hash → Bool) → List (Hash × Node) → List Hash
wanted_among W g = map (λ e. e.0) (filter (λ e. W e.0) g)

-- one place more
pub wanted_push : (W : Hash → Bool) (g : List (Hash × Node)) (i : ℕ) (e : Hash × Node) → slice_get g i ≡ Some e → wanted_among W (take (i + 1) g) ≡ wanted_among W (take i g) ++ cond (W e.0) (e.0 ∷ []) []
wanted_push W [] i e at = absurd (none_some e at)
  where
    none_some : (e : Hash × Node) → slice_get [] i ≡ Some e → ⊥
    none_some e at = cc
wanted_push W (x ∷ g) zero e at =
    let same : x ≡ e = cc in
    elim (cases_Bool (W x.0)) [ inl w ↦ subst (λ q. wanted_among W (x ∷ []) ≡ cond (W q.0) (q.0 ∷ []) []) same (simp w refl) | inr w ↦ subst (λ q. wanted_among W (x ∷ []) ≡ cond (W q.0) (q.0 ∷ []) []) same (simp w refl) ]
wanted_push W (x ∷ g) (suc i) e at =
    let again : wanted_among W (take (i + 1) g) ≡ wanted_among W (take i g) ++ cond (W e.0) (e.0 ∷ []) [] = wanted_push W g i e at in
    let one : suc (i + 1) ≡ suc i + 1 = omega arith in
    subst (λ n. wanted_among W (take n (x ∷ g)) ≡ wanted_among W (take (suc i) (x ∷ g)) ++ cond (W e.0) (e.0 ∷ []) []) one
    (elim (cases_Bool (W x.0)) [ inl w ↦ simp w (ap (λ l. x.0 ∷ l) again) | inr w ↦ simp w again ])

-- a test that tells the ancestors finds just them
tells_hashes : (W : Hash → Bool) (p : Member → Bool) (D : List Member) → All (λ m. W m.hash ≡ p m) D → wanted_among W (nodes D) ≡ hashes (filter p D)
tells_hashes W p [] all = refl
tells_hashes W p (m ∷ D) all =
    let again : wanted_among W (nodes D) ≡ hashes (filter p D) = tells_hashes W p D (All-tail (λ m. W m.hash ≡ p m) m D all) in
    let here : W m.hash ≡ p m = All-head (λ m. W m.hash ≡ p m) m D all in
    elim (cases_Bool (p m)) [
      | inl e ↦ let w : W m.hash ≡ true = here ∙ e in simp (e, w) (ap (λ l. m.hash ∷ l) again)
      | inr e ↦ let w : W m.hash ≡ false = here ∙ e in simp (e, w) again
    ]

pub found_is : (g : List (Hash × Node)) (hs : List Hash) (W : Hash → Bool) (found sorted : List Hash) → TellsAncestors g hs W → found ≡ wanted_among W g → IsPermutation found sorted → IsSorted hash_cmp sorted → ForSet g (λ C. sorted ≡ sorted_by hash_cmp (hashes (ancestors C hs)))
unfolding ancestors
found_is g hs W found sorted tells is same up C e =
    let all : All (λ m. W m.hash ≡ is_named (ancestor_hashes C hs) m) C = All-weaker (Contains C) (λ m. W m.hash ≡ is_named (ancestor_hashes C hs) m) (tells C e) C (All-contains_itself C) in
    sorted_is hash_total (λ _. ⊤) (λ x y _ _. hash_exact x y) found sorted (λ k d l. tt) same up
    ∙ ap (sorted_by hash_cmp) (is ∙ ap (wanted_among W) e ∙ tells_hashes W (is_named (ancestor_hashes C hs)) C all)
