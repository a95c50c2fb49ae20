-- The hashes that are dependencies, gathered in order.
use Rattle.std.proofs.Common.{ℕ, zero, suc, ◌≡◌, ◌+◌, ◌<◌, List, [], ◌∷◌, ◌++◌, length, get_or, filter, not, take, Bool, ◌||◌, refl, ap, ◌∙◌, subst, inl, inr, IsPermutation, arith}
use Rattle.std.specs.List.Sorted.{IsSorted}
use Rattle.std.specs.Bool.{⊤}
use Rattle.std.proofs.lemmas.Bool.{cases_Bool}
use Rattle.am_types.specs.declared.Hash.{Hash}
use Rattle.am_types.specs.Order.{hash_cmp, same, among, sorted_by}
use Rattle.am_types.specs.Members.{Member, hashes, is_dependency, heads}
use Rattle.am_types.proofs.Orders.{hash_total, hash_exact}
use Rattle.am_graph.specs.declared.node.Node.{Node}
use Rattle.am_graph.specs.Graphs.{nodes, ForSet, is_named_in}
use Rattle.am_graph.proofs.Found.{wanted_among}
use Rattle.am_graph.proofs.SortCalls.{sorted_is}

pub take_one : {X : Type 0} (xs : List X) (i : ℕ) (d : X) → i < length xs → take (i + 1) xs ≡ take i xs ++ get_or xs i d ∷ []
take_one [] i d l = absurd (omega arith)
take_one (x ∷ xs) zero d l = refl
take_one (x ∷ xs) (suc i) d l =
    let again : take (i + 1) xs ≡ take i xs ++ get_or xs i d ∷ [] = take_one xs i d (omega arith) in
    let one : suc (i + 1) ≡ suc i + 1 = omega arith in
    subst (λ n. take n (x ∷ xs) ≡ x ∷ (take i xs ++ get_or xs i d ∷ [])) one (ap (λ l. x ∷ l) again)

-- what no change names
unnamed : (T : Hash → Bool) (D : List Member) → wanted_among (λ h. not (T h)) (nodes D) ≡ filter (λ h. not (T h)) (hashes D)
unnamed T [] = refl
unnamed T (m ∷ D) =
    let again : wanted_among (λ h. not (T h)) (nodes D) ≡ filter (λ h. not (T h)) (hashes D) = unnamed T D in
    elim (cases_Bool (T m.hash)) [ inl t ↦ simp t again | inr t ↦ simp t (ap (λ l. m.hash ∷ l) again) ]

named_of_set : (C : List Member) (h : Hash) → is_named_in (nodes C) h ≡ is_dependency C h
named_of_set [] h = refl
named_of_set (m ∷ C) h = ap (λ b. among hash_cmp m.change.deps h || b) (named_of_set C h)

pub heads_are : (g : List (Hash × Node)) (W : Hash → Bool) (found sorted : List Hash) → ((h : Hash) → W h ≡ is_named_in g h) → found ≡ wanted_among (λ h. not (W h)) g → IsPermutation found sorted → IsSorted hash_cmp sorted → ForSet g (λ C. sorted ≡ heads C)
heads_are g W found sorted tells is same up C e =
    sorted_is hash_total (λ _. ⊤) (λ x y _ _. hash_exact x y) found sorted (λ k d l. tt) same up
    ∙ ap (sorted_by hash_cmp) (is ∙ ap (wanted_among (λ h. not (W h))) e ∙ (λ t. wanted_among (λ h. not ((tells h ∙ ap (λ g. is_named_in g h) e ∙ named_of_set C h) t)) (nodes C)) ∙ unnamed (is_dependency C) C)
