-- Ancestors by the first step: of several heads, and of one change.
use Rattle.std.proofs.Common.{◌≡◌, List, [], ◌∷◌, true, refl, sym, subst, inl, inr, ◌⊎◌, All, Contains}
use Rattle.std.proofs.lemmas.List.Elements.{All-contains, All-cons, All-nil}
use Rattle.am_types.specs.declared.Hash.{Hash}
use Rattle.am_types.specs.Order.{hash_cmp, among}
use Rattle.am_types.specs.Members.{Member}
use Rattle.am_types.specs.Ancestors.{is_named, ancestor_hashes, ancestors}
use Rattle.am_types.proofs.Orders.{same_hash_itself}
use Rattle.am_laws.proofs.Ancestry.{ancestors_closed, ancestors_named, ancestors_least, Contains-from_filter}
use Rattle.am_laws.proofs.Growth.{among_at, found_among}
use Rattle.std.proofs.lemmas.Bool.{or_left}

-- what holds of the members with each ancestor's hash holds of each ancestor
pub by_hashes : (C : List Member) (hs : List Hash) (P : Member → Type 0) → ((n : Member) → Contains C n → P n → (m : Member) → Contains C m → among hash_cmp n.change.deps m.hash ≡ true → P m)
    → ((m : Member) → Contains C m → among hash_cmp hs m.hash ≡ true → P m) → (m : Member) → Contains (ancestors C hs) m → P m
unfolding ancestors
by_hashes C hs P passes first m c =
    let Q : Hash → Type 0 = λ h. (m : Member) → Contains C m → m.hash ≡ h → P m in
    let all : All Q (ancestor_hashes C hs) = ancestors_least C Q
    (λ n cn q k d l m cm e. passes n cn (q n cn refl) m cm (among_at n.change.deps m.hash d k l e)) hs
    (λ k d l m cm e. first m cm (among_at hs m.hash d k l e)) in
    let is = Contains-from_filter (is_named (ancestor_hashes C hs)) C m c in
    All-contains Q (ancestor_hashes C hs) m.hash all (found_among _ m.hash is.1) m is.0 refl

pub among_one : (h : Hash) → among hash_cmp (h ∷ []) h ≡ true
among_one h = or_left _ _ (same_hash_itself h)

-- an ancestor is one of the heads, or an ancestor of one
pub from_named : (C : List Member) (hs : List Hash) (m : Member) → Contains (ancestors C hs) m
    → (p : Member) × Contains C p × (among hash_cmp hs p.hash ≡ true) × Contains (ancestors C (p.hash ∷ [])) m
from_named C hs = by_hashes C hs (λ m. (p : Member) × Contains C p × (among hash_cmp hs p.hash ≡ true) × Contains (ancestors C (p.hash ∷ [])) m)
    (λ n cn g m cm d. (g.0, g.1, g.2, ancestors_closed C (g.0.hash ∷ []) n m g.3 d cm))
    (λ m cm d. (m, cm, d, ancestors_named C (m.hash ∷ []) m cm (among_one m.hash)))

module _ (C : List Member) (one : (m n : Member) → Contains C m → Contains C n → m.hash ≡ n.hash → m ≡ n) where
  -- an ancestor of one change is that change, or an ancestor of its dependencies
  pub from_one : (n : Member) → Contains C n → (m : Member) → Contains (ancestors C (n.hash ∷ [])) m → (m ≡ n) ⊎ Contains (ancestors C n.change.deps) m
  from_one n cn = by_hashes C (n.hash ∷ []) (λ m. (m ≡ n) ⊎ Contains (ancestors C n.change.deps) m)
      (λ p cp g m cm d. elim g [
        | inl e ↦ inr (ancestors_named C n.change.deps m cm (subst (λ q. among hash_cmp q.change.deps m.hash ≡ true) e d))
        | inr a ↦ inr (ancestors_closed C n.change.deps p m a d cm)
      ])
      (λ m cm d. let found = found_among (n.hash ∷ []) m.hash d in inl (one m n cm cn (at_zero n.hash m.hash found)))
    where
      at_zero : (h g : Hash) → Contains (h ∷ []) g → g ≡ h
      at_zero h g c = All-contains (λ x. x ≡ h) (h ∷ []) g (All-cons (λ x. x ≡ h) h [] refl (All-nil (λ x. x ≡ h))) c

  -- an ancestor of an ancestor is an ancestor
  pub through : (hs : List Hash) (p : Member) → Contains C p → Contains (ancestors C hs) p → (m : Member) → Contains (ancestors C (p.hash ∷ [])) m → Contains (ancestors C hs) m
  through hs p cp ap' = by_hashes C (p.hash ∷ []) (λ m. Contains (ancestors C hs) m)
      (λ n cn a m cm d. ancestors_closed C hs n m a d cm)
      (λ m cm d. subst (Contains (ancestors C hs)) (sym (one m p cm cp (at_zero p.hash m.hash (found_among (p.hash ∷ []) m.hash d)))) ap')
    where
      at_zero : (h g : Hash) → Contains (h ∷ []) g → g ≡ h
      at_zero h g c = All-contains (λ x. x ≡ h) (h ∷ []) g (All-cons (λ x. x ≡ h) h [] refl (All-nil (λ x. x ≡ h))) c
