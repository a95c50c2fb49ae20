-- The counters of a change lie above those of its ancestors.
use Rattle.std.proofs.Common.{◌≡◌, ◌<◌, ◌≤◌, List, [], ◌∷◌, Bool, true, false, ◌&&◌, Option, Some, None, option_map, nat_le, refl, inl, inr, All, Contains, arith}
use Rattle.std.specs.List.{list_any, find}
use Rattle.std.proofs.lemmas.Bool.{cases_Bool, both_ways, and_from, leb-false, false_from_ne_true}
use Rattle.std.proofs.lemmas.List.Elements.{All-contains, All-cons, All-nil}
use Rattle.std.proofs.lemmas.List.Folds.{list_any-from_Any}
use Rattle.am_laws.specs.Records.{Hash, Change, StartLow}
use Rattle.am_types.specs.Order.{hash_cmp, same, among}
use Rattle.am_types.specs.Operations.{max}
use Rattle.am_types.specs.Members.{Member}
use Rattle.am_types.specs.Ancestors.{is_named, ancestor_hashes, ancestors}
use Rattle.am_types.specs.Verdicts.{start_low}
use Rattle.am_types.proofs.Orders.{same_hash_itself}
use Rattle.am_laws.proofs.Ancestry.{ancestors_least, ancestors_named, Contains-from_filter}
use Rattle.am_laws.proofs.Growth.{among_at, found_among}

-- each dependency of c ends before c starts
abbrev pub StartsAfter : List Member → Change → Type 0
StartsAfter C c = (n : Member) → Contains C n → among hash_cmp c.deps n.hash ≡ true → max n.change < c.start

module _ (C : List Member) (c : Change)
    (ordered : (m : Member) → Contains C m → StartsAfter C m.change)
    (positive : (m : Member) → Contains C m → 1 ≤ m.change.start)
    (first : StartsAfter C c) where
  abbrev Below : Hash → Type 0
  Below h = (n : Member) → Contains C n → n.hash ≡ h → max n.change < c.start

  all_below : All Below (ancestor_hashes C c.deps)
  all_below = ancestors_least C Below
      (λ m cm q k d l n cn e.
      let below : max m.change < c.start = q m cm refl in
      let low : max n.change < m.change.start = ordered m cm n cn (among_at m.change.deps n.hash d k l e) in
      let some : 1 ≤ m.change.start = positive m cm in
      omega arith)
      c.deps (λ k d l n cn e. first n cn (among_at c.deps n.hash d k l e))

  pub starts_after_ancestors : (n : Member) → Contains (ancestors C c.deps) n → max n.change < c.start
  unfolding ancestors
  starts_after_ancestors n cn =
      let is = Contains-from_filter (is_named (ancestor_hashes C c.deps)) C n cn in
      All-contains Below (ancestor_hashes C c.deps) n.hash all_below (found_among _ n.hash is.1) n is.0 refl

-- ---- what the verdict gives

pub find_none : {X : Type 0} (p : X → Bool) (xs : List X) → find p xs ≡ None → All (λ x. p x ≡ false) xs
find_none p [] e = All-nil (λ x. p x ≡ false)
find_none p (x ∷ xs) e =
    let again : find p xs ≡ None → All (λ x. p x ≡ false) xs = find_none p xs in
    elim (cases_Bool (p x)) [
      | inl t ↦ let f : Some x ≡ None = simp t at e in absurd (some_none x f)
      | inr t ↦ All-cons (λ x. p x ≡ false) x xs t (again (simp t at e))
    ]
  where
    some_none : {X : Type 0} (x : X) → Some x ≡ None → ⊥
    some_none x f = cc

pub mapped_none : {X Y : Type 0} (f : X → Y) (o : Option X) → option_map f o ≡ None → o ≡ None
mapped_none f None e = refl
mapped_none f (Some x) e = cc

pub starts_after_from : (C : List Member) (c : Change) → start_low (ancestors C c.deps) c ≡ None → StartsAfter C c
starts_after_from C c e n cn d =
    let there : Contains (ancestors C c.deps) n = ancestors_named C c.deps n cn d in
    let none = All-contains (λ h. list_any (λ m. same hash_cmp m.hash h && nat_le c.start (max m.change)) (ancestors C c.deps) ≡ false) c.deps n.hash (find_none _ c.deps (mapped_none StartLow _ e)) (found_among c.deps n.hash d) in
    leb-false c.start (max n.change) (false_from_ne_true _ (λ t. both_ways _ none
    (list_any-from_Any (λ m. same hash_cmp m.hash n.hash && nat_le c.start (max m.change)) (ancestors C c.deps)
    (there.0, n, there.1, there.2, and_from _ _ (same_hash_itself n.hash) t))))
