-- The ancestors are the least part of a set that holds the named members and the dependencies of its own.
use Rattle.std.proofs.Common.{ℕ, get_or, zero, suc, ◌≡◌, ◌-◌, ◌<◌, ◌≤◌, List, [], ◌∷◌, ◌++◌, length, filter, Bool, true, false, ◌||◌, refl, sym, ap, ◌∙◌, inl, inr, ◌⊎◌, All, Contains, subst, arith}
use Rattle.std.specs.List.{list_any, flat_map}
use Rattle.std.specs.Fn.{iterate}
use Rattle.std.proofs.lemmas.Bool.{cases_Bool, both_ways, or_left, or_right}
use Rattle.std.proofs.lemmas.List.Elements.{Contains-get_or, All-contains, All-contains_itself, All-filter, All-append, All-weaker, All-cons, All-head, All-tail, All-nil, filter_passes, filter_agree}
use Rattle.std.proofs.lemmas.List.Folds.{list_any-append}
use Rattle.std.proofs.lemmas.Map.Views.{Contains-from_any}
use Rattle.am_laws.specs.Records.{Hash}
use Rattle.am_types.specs.Order.{hash_cmp, same, among}
use Rattle.am_types.specs.Members.{Member}
use Rattle.am_types.specs.Ancestors.{members, with_deps, ancestor_hashes, ancestors}
use Rattle.am_types.proofs.Orders.{same_hash-true}
use Rattle.am_laws.proofs.Iterated.{iterate-rests}

-- ---- filters

module _ {X : Type 0} (p : X → Bool) where
  Contains-cons : (x : X) (xs : List X) (y : X) → Contains xs y → Contains (x ∷ xs) y
  Contains-cons x xs y c = (suc c.0, omega arith, c.2)

  kept : (xs : List X) → All (λ y. p y ≡ true → Contains (filter p xs) y) xs
  kept [] = All-nil (λ y. p y ≡ true → Contains (filter p []) y)
  kept (x ∷ xs) =
      let again : All (λ y. p y ≡ true → Contains (filter p xs) y) xs = kept xs in
      elim (cases_Bool (p x)) [
        | inl e ↦ simp e (All-cons (λ y. p y ≡ true → Contains (x ∷ filter p xs) y) x xs (λ _. (0, omega arith, refl))
            (All-weaker (λ y. p y ≡ true → Contains (filter p xs) y) (λ y. p y ≡ true → Contains (x ∷ filter p xs) y) (λ y c py. Contains-cons x (filter p xs) y (c py)) xs again))
        | inr e ↦ simp e (All-cons (λ y. p y ≡ true → Contains (filter p xs) y) x xs (λ py. absurd (both_ways (p x) e py)) again)
      ]

  pub Contains-filter : (xs : List X) (x : X) → Contains xs x → p x ≡ true → Contains (filter p xs) x
  Contains-filter xs x c = All-contains (λ y. p y ≡ true → Contains (filter p xs) y) xs x (kept xs) c

  pub Contains-from_filter : (xs : List X) (x : X) → Contains (filter p xs) x → Contains xs x × (p x ≡ true)
  Contains-from_filter xs x c = (
    All-contains (Contains xs) (filter p xs) x (All-filter p (Contains xs) xs (All-contains_itself xs)) c,
    All-contains (λ y. p y ≡ true) (filter p xs) x (filter_passes p xs) c,
  )

  -- a stronger test keeps as much or less
  keeps_more : (q : X → Bool) → ((x : X) → p x ≡ true → q x ≡ true) → (xs : List X) → (filter q xs ≡ filter p xs) ⊎ (length (filter p xs) < length (filter q xs))
  keeps_more q h [] = inl refl
  keeps_more q h (x ∷ xs) =
      let again : (filter q xs ≡ filter p xs) ⊎ (length (filter p xs) < length (filter q xs)) = keeps_more q h xs in
      elim (cases_Bool (p x)) [
        | inl e ↦ let f = h x e in elim again [ inl s ↦ simp (e, f) (inl (ap (λ l. x ∷ l) s)) | inr l ↦ simp (e, f) (inr (omega arith)) ]
        | inr e ↦ elim (cases_Bool (q x)) [
          | inl f ↦ elim again [ inl s ↦ let n = ap length s in simp (e, f) (inr (omega arith)) | inr l ↦ simp (e, f) (inr (omega arith)) ]
          | inr f ↦ simp (e, f) again
        ]
      ]

  pub length_kept : (xs : List X) → length (filter p xs) ≤ length xs
  length_kept [] = omega arith
  length_kept (x ∷ xs) =
      let again = length_kept xs in
      elim (cases_Bool (p x)) [ inl e ↦ simp e (omega arith) | inr e ↦ simp e (omega arith) ]

-- ---- the steps

-- the members are the same one step on
abbrev AtRest : List Member → List Hash → Type 0
AtRest C hs = members C (with_deps C hs) ≡ members C hs

abbrev size : List Member → List Hash → ℕ
size C hs = length C - length (members C hs)

more_wanted : (C : List Member) (hs : List Hash) (m : Member) → among hash_cmp hs m.hash ≡ true → among hash_cmp (with_deps C hs) m.hash ≡ true
more_wanted C hs m h = list_any-append (same hash_cmp m.hash) hs _ ∙ or_left _ _ h

falls : (C : List Member) (hs : List Hash) → AtRest C hs ⊎ (size C (with_deps C hs) < size C hs)
falls C hs =
    elim (keeps_more (λ m. among hash_cmp hs m.hash) (λ m. among hash_cmp (with_deps C hs) m.hash) (more_wanted C hs) C) [
      | inl e ↦ inl e
      | inr l ↦ inr (let some = length_kept (λ m. among hash_cmp (with_deps C hs) m.hash) C in omega arith)
    ]

or_again : (a b : Bool) → ((a || b) || b) ≡ (a || b)
or_again true b = refl
or_again false true = refl
or_again false false = refl

-- what a hash is among
among_more : (h : Hash) (xs ys zs : List Hash) → ys ≡ zs → among hash_cmp ((xs ++ zs) ++ ys) h ≡ among hash_cmp (xs ++ zs) h
among_more h xs ys zs e =
    let p = same hash_cmp h in
    list_any-append p (xs ++ zs) ys ∙ ap (λ l. list_any p (xs ++ zs) || list_any p l) e ∙ ap (λ b. b || list_any p zs) (list_any-append p xs zs)
    ∙ or_again (list_any p xs) (list_any p zs) ∙ sym (list_any-append p xs zs)

-- a dependency of one of these is among the dependencies of all
dependency_found : (h : Hash) (ms : List Member) → All (λ m. among hash_cmp m.change.deps h ≡ true → among hash_cmp (flat_map (λ m. m.change.deps) ms) h ≡ true) ms
dependency_found h [] = All-nil (λ m. among hash_cmp m.change.deps h ≡ true → among hash_cmp [] h ≡ true)
dependency_found h (m ∷ ms) =
    let p = same hash_cmp h in
    let rest : List Hash = flat_map (λ m. m.change.deps) ms in
    let again : All (λ m. among hash_cmp m.change.deps h ≡ true → among hash_cmp rest h ≡ true) ms = dependency_found h ms in
    All-cons (λ n. among hash_cmp n.change.deps h ≡ true → among hash_cmp (m.change.deps ++ rest) h ≡ true) m ms
    (λ e. list_any-append p m.change.deps rest ∙ or_left _ _ e)
    (λ k d l e. list_any-append p m.change.deps rest ∙ or_right (list_any p m.change.deps) (list_any p rest) (again k d l e))

stays : (C : List Member) (hs : List Hash) → AtRest C hs → AtRest C (with_deps C hs)
stays C hs e = filter_agree (λ m. among hash_cmp (with_deps C (with_deps C hs)) m.hash) (λ m. among hash_cmp (with_deps C hs) m.hash) (λ m. among_more m.hash hs _ _ (ap (flat_map (λ m. m.change.deps)) e)) C

rests : (C : List Member) (hs : List Hash) → AtRest C (ancestor_hashes C hs)
rests C hs = iterate-rests (with_deps C) (size C) (AtRest C) (falls C) (stays C) (length C) hs (omega arith)

-- a dependency of an ancestor is an ancestor, where it is a member
pub ancestors_closed : (C : List Member) (hs : List Hash) (m e : Member) → Contains (ancestors C hs) m → among hash_cmp m.change.deps e.hash ≡ true → Contains C e → Contains (ancestors C hs) e
unfolding ancestors
ancestors_closed C hs m e cm d ce =
    let found : among hash_cmp (with_deps C (ancestor_hashes C hs)) e.hash ≡ true = list_any-append (same hash_cmp e.hash) (ancestor_hashes C hs) _ ∙ or_right (list_any (same hash_cmp e.hash) (ancestor_hashes C hs)) _ (All-contains (λ m. among hash_cmp m.change.deps e.hash ≡ true → among hash_cmp (flat_map (λ m. m.change.deps) (ancestors C hs)) e.hash ≡ true) (ancestors C hs) m (dependency_found e.hash (ancestors C hs)) cm d) in
    let there = Contains-filter (λ m. among hash_cmp (with_deps C (ancestor_hashes C hs)) m.hash) C e ce found in
    subst (λ l. Contains l e) (rests C hs) there

pub ancestors_named : (C : List Member) (hs : List Hash) (m : Member) → Contains C m → among hash_cmp hs m.hash ≡ true → Contains (ancestors C hs) m
unfolding ancestors
ancestors_named C hs m c h = Contains-filter (λ m. among hash_cmp (ancestor_hashes C hs) m.hash) C m c (still (length C) hs h)
  where
    still : (n : ℕ) (hs : List Hash) → among hash_cmp hs m.hash ≡ true → among hash_cmp (iterate (with_deps C) n hs) m.hash ≡ true
    still zero hs h = h
    still (suc n) hs h = still n (with_deps C hs) (more_wanted C hs m h)

-- what holds of the named, and passes from a member to its dependencies, holds of each ancestor
pub ancestors_least : (C : List Member) (Q : Hash → Type 0) → ((m : Member) → Contains C m → Q m.hash → All Q m.change.deps) → (hs : List Hash) → All Q hs → All Q (ancestor_hashes C hs)
ancestors_least C Q passes hs all = go (length C) hs all
  where
    deps_of : (ms : List Member) → All (λ m. Contains C m × Q m.hash) ms → All Q (flat_map (λ m. m.change.deps) ms)
    deps_of [] a = All-nil Q
    deps_of (m ∷ ms) a =
        let here = All-head (λ m. Contains C m × Q m.hash) m ms a in
        All-append Q m.change.deps _ (passes m here.0 here.1) (deps_of ms (All-tail (λ m. Contains C m × Q m.hash) m ms a))

    held : (hs : List Hash) → All Q hs → All (λ m. Contains C m × Q m.hash) (members C hs)
    held hs a k d l =
        let m = get_or (members C hs) k d in
        let found = Contains-from_filter (λ m. among hash_cmp hs m.hash) C m (Contains-get_or (members C hs) k d l) in
        (found.0, All-contains Q hs m.hash a (Contains-from_any same_hash-true m.hash hs found.1))

    go : (n : ℕ) (hs : List Hash) → All Q hs → All Q (iterate (with_deps C) n hs)
    go zero hs a = a
    go (suc n) hs a = go n (with_deps C hs) (All-append Q hs _ a (deps_of (members C hs) (held hs a)))
