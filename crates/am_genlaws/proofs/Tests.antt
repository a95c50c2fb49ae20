-- Tests over lists and sets.
use Rattle.std.proofs.Common.{◌≡◌, List, [], ◌∷◌, ◌++◌, Bool, true, false, None, filter, find, refl, ap, ◌∙◌, subst, inl, inr, All, Contains, arith}
use Rattle.std.specs.List.{list_any}
use Rattle.std.proofs.lemmas.Bool.{or_left}
use Rattle.std.proofs.lemmas.List.{map-append}
use Rattle.std.proofs.lemmas.List.Elements.{All-head, All-tail}
use Rattle.std.proofs.lemmas.List.Folds.{list_any-from_Any, list_any-append}
use Rattle.am_types.specs.declared.Hash.{Hash}
use Rattle.am_types.specs.Order.{hash_cmp, same}
use Rattle.am_types.specs.Members.{Member, hashes, changes, holds}
use Rattle.am_types.proofs.Lists.{Contains-head, Contains-tail}
use Rattle.am_laws.proofs.SameMembers.{Contains-cons_cases}

module _ {X : Type 0} (p : X → Bool) where
  pub any_from : (xs : List X) (x : X) → Contains xs x → p x ≡ true → list_any p xs ≡ true
  any_from xs x c e = list_any-from_Any p xs (c.0, x, c.1, c.2, e)

  pub find_false : (xs : List X) → All (λ x. p x ≡ false) xs → find p xs ≡ None
  find_false [] all = refl
  find_false (x ∷ xs) all =
      let again : find p xs ≡ None = find_false xs (All-tail (λ x. p x ≡ false) x xs all) in
      let here = All-head (λ x. p x ≡ false) x xs all in
      simp here again

  pub filter_true : (xs : List X) → All (λ x. p x ≡ true) xs → filter p xs ≡ xs
  filter_true [] all = refl
  filter_true (x ∷ xs) all =
      let again : filter p xs ≡ xs = filter_true xs (All-tail (λ x. p x ≡ true) x xs all) in
      let here = All-head (λ x. p x ≡ true) x xs all in
      simp here (ap (λ l. x ∷ l) again)

pub Contains-changes : (C : List Member) (m : Member) → Contains C m → Contains (changes C) m.change
Contains-changes [] m c = absurd (omega arith)
Contains-changes (x ∷ C) m c = elim (Contains-cons_cases x C m c) [
  | inl e ↦ subst (λ (m : Member). Contains (changes (x ∷ C)) m.change) e (Contains-head x.change (changes C))
  | inr d ↦ Contains-tail x.change (changes C) m.change (Contains-changes C m d)
]

-- a longer list holds as much
pub holds_more : (P H : List Member) (h : Hash) → holds P h ≡ true → holds (P ++ H) h ≡ true
holds_more P H h e = ap (list_any (same hash_cmp h)) (map-append (λ (m : Member). m.hash) P H) ∙ list_any-append (same hash_cmp h) (hashes P) (hashes H) ∙ or_left _ _ e
