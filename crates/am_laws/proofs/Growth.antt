-- The ancestors of members of a closed set stay the same when other members come.
use Rattle.std.proofs.Common.{ℕ, ◌≡◌, List, [], ◌∷◌, ◌++◌, length, filter, Bool, true, false, cond, refl, sym, ◌∙◌, inl, inr, All, Contains, get_or, subst, ◌<◌}
use Rattle.std.proofs.lemmas.Bool.{both_ways, false_from_ne_true}
use Rattle.std.proofs.lemmas.List.Elements.{filter-append, All-contains, All-head, All-tail, Contains-append_cases, Contains-append_left, Contains-get_or}
use Rattle.std.proofs.lemmas.List.{append-nil}
use Rattle.std.proofs.lemmas.Map.Views.{Contains-from_any, list_any-from_Contains}
use Rattle.std.proofs.lemmas.Cmp.{eq_by_cmp_equiv}
use Rattle.am_laws.specs.Records.{Hash}
use Rattle.am_types.specs.Order.{hash_cmp, among}
use Rattle.am_types.specs.Members.{Member, holds}
use Rattle.am_types.specs.Ancestors.{is_named, ancestor_hashes, ancestors}
use Rattle.am_types.proofs.Orders.{same_hash-true, hash_total}
use Rattle.am_laws.proofs.Ancestry.{ancestors_closed, ancestors_named, ancestors_least, Contains-from_filter}

pub filter_agree_on : {X : Type 0} (p q : X → Bool) (xs : List X) → All (λ x. p x ≡ q x) xs → filter p xs ≡ filter q xs
filter_agree_on p q [] all = refl
filter_agree_on p q (x ∷ xs) all =
    let here : p x ≡ q x = All-head (λ x. p x ≡ q x) x xs all in
    let again : filter p xs ≡ filter q xs = filter_agree_on p q xs (All-tail (λ x. p x ≡ q x) x xs all) in
    λ i. cond (here i) (x ∷ again i) (again i)

filter_none : {X : Type 0} (p : X → Bool) (xs : List X) → All (λ x. p x ≡ false) xs → filter p xs ≡ []
filter_none p [] all = refl
filter_none p (x ∷ xs) all = let here = All-head (λ x. p x ≡ false) x xs all in simp here (filter_none p xs (All-tail (λ x. p x ≡ false) x xs all))

pub same_answers : (p q : Bool) → (p ≡ true → q ≡ true) → (q ≡ true → p ≡ true) → p ≡ q
same_answers true q f g = sym (f refl)
same_answers false true f g = g refl
same_answers false false f g = refl

-- what is at a place of a list is among the list
pub among_at : (hs : List Hash) (h d : Hash) (k : ℕ) → k < length hs → h ≡ get_or hs k d → among hash_cmp hs h ≡ true
among_at hs h d k l e = list_any-from_Contains (eq_by_cmp_equiv hash_total) h hs (subst (Contains hs) (sym e) (Contains-get_or hs k d l))

pub found_among : (hs : List Hash) (h : Hash) → among hash_cmp hs h ≡ true → Contains hs h
found_among hs h t = Contains-from_any same_hash-true h hs t

module _ (C E : List Member) (hs : List Hash)
    (closed : (m : Member) → Contains C m → All (λ h. holds C h ≡ true) m.change.deps)
    (held : All (λ h. holds C h ≡ true) hs)
    (apart : All (λ m. holds C m.hash ≡ false) E) where
  -- the members of C with this hash are ancestors within C
  abbrev Known : Hash → Type 0
  Known h = (holds C h ≡ true) × ((n : Member) → Contains C n → n.hash ≡ h → Contains (ancestors C hs) n)

  known_named : All Known hs
  known_named k d l = (held k d l, λ n cn e. ancestors_named C hs n cn (among_at hs n.hash d k l e))

  known_passes : (m : Member) → Contains (C ++ E) m → Known m.hash → All Known m.change.deps
  known_passes m c known = elim (Contains-append_cases C E m c) [
    | inl cm ↦ λ k d l. (closed m cm k d l, λ n cn e. ancestors_closed C hs m n (known.1 m cm refl) (among_at m.change.deps n.hash d k l e) cn)
    | inr ce ↦ absurd (both_ways (holds C m.hash) (All-contains (λ m. holds C m.hash ≡ false) E m apart ce) known.0)
  ]

  all_known : All Known (ancestor_hashes (C ++ E) hs)
  all_known = ancestors_least (C ++ E) Known known_passes hs known_named

  known_at : (m : Member) → among hash_cmp (ancestor_hashes (C ++ E) hs) m.hash ≡ true → Known m.hash
  known_at m t = All-contains Known (ancestor_hashes (C ++ E) hs) m.hash all_known (found_among _ m.hash t)

  -- and the members of C with this hash are ancestors within the whole
  abbrev Reached : Hash → Type 0
  Reached h = (n : Member) → Contains C n → n.hash ≡ h → Contains (ancestors (C ++ E) hs) n

  all_reached : All Reached (ancestor_hashes C hs)
  all_reached =
      ancestors_least C Reached
      (λ m cm r k d l n cn e. ancestors_closed (C ++ E) hs m n (r m cm refl) (among_at m.change.deps n.hash d k l e) (Contains-append_left C E n cn))
      hs (λ k d l n cn e. ancestors_named (C ++ E) hs n (Contains-append_left C E n cn) (among_at hs n.hash d k l e))

  inside : All (λ m. among hash_cmp (ancestor_hashes (C ++ E) hs) m.hash ≡ among hash_cmp (ancestor_hashes C hs) m.hash) C
  unfolding ancestors
  inside k d l =
      let m = get_or C k d in
      let cm : Contains C m = Contains-get_or C k d l in
      same_answers _ _
      (λ t. (Contains-from_filter (is_named (ancestor_hashes C hs)) C m ((known_at m t).1 m cm refl)).1)
      (λ t. (Contains-from_filter (is_named (ancestor_hashes (C ++ E) hs)) (C ++ E) m
      (All-contains Reached (ancestor_hashes C hs) m.hash all_reached (found_among _ m.hash t) m cm refl)).1)

  outside : All (λ m. among hash_cmp (ancestor_hashes (C ++ E) hs) m.hash ≡ false) E
  outside k d l =
      let m = get_or E k d in
      false_from_ne_true _ (λ t. both_ways (holds C m.hash) (apart k d l) (known_at m t).0)

  pub ancestors_stay : ancestors (C ++ E) hs ≡ ancestors C hs
  unfolding ancestors
  ancestors_stay =
      filter-append (is_named (ancestor_hashes (C ++ E) hs)) C E
      ∙ (λ i. filter_agree_on (is_named (ancestor_hashes (C ++ E) hs)) (is_named (ancestor_hashes C hs)) C inside i ++ filter_none (is_named (ancestor_hashes (C ++ E) hs)) E outside i)
      ∙ append-nil (ancestors C hs)
