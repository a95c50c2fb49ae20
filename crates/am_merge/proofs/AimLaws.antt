-- Aims that are told one after another.
use Rattle.std.proofs.Common.{ℕ, zero, suc, ◌≡◌, ◌≢◌, ◌+◌, ◌<◌, All, List, [], ◌∷◌, ◌++◌, ◌&&◌, length, get_or, take, drop, map, filter, reverse, flat_map, Bool, true, false, refl, sym, ap, ◌∙◌, subst, eqb, inl, inr, arith, append_assoc}
use Rattle.std.proofs.Math.ListN.{get_or-map}
use Rattle.std.proofs.lemmas.Bool.{cases_eq, cases_lt, eq-eqb, ne_eqb, both_ways, false_from_ne_true, and_parts, and_from}
use Rattle.std.proofs.lemmas.Cmp.{tied_itself}
use Rattle.std.proofs.lemmas.List.{append-nil, map-append, take_more, reverse-append}
use Rattle.std.proofs.lemmas.List.Concat.{flat_map-append}
use Rattle.std.proofs.lemmas.List.Elements.{filter-append, All-append, All-cons, All-nil}
use Rattle.std.proofs.lemmas.List.Sorted.{All-permutation, IsPermutation-reverse}
use Rattle.std.specs.declared.cmp.Ordering.TheVariants.{Less, Equal}
use Rattle.am_types.specs.declared.OpId.{OpId}
use Rattle.am_types.specs.declared.Key.{Key}
use Rattle.am_types.specs.declared.Key.TheVariants.{Name, Head, Elem}
use Rattle.am_types.specs.declared.ObjId.{ObjId}
use Rattle.am_types.specs.declared.ObjId.TheVariants.{Root}
use Rattle.am_types.specs.Order.{id_cmp}
use Rattle.am_types.specs.Operations.{Operation}
use Rattle.am_types.specs.Same.{same_id, same_object}
use Rattle.am_types.proofs.Orders.{id_total, same_id-true, same_id_itself}
use Rattle.am_places.specs.Numbered.{operation_of}
use Rattle.am_places.specs.declared.numbered.Numbered.{Numbered}
use Rattle.am_places.specs.Rising.{Rise, HasAt, HasNone}
use Rattle.am_places.proofs.Ascent.{rise_at}
use Rattle.am_merge.specs.Aims.{AreAims, means_element, means_id, namers, one_at, picked, places_to}
use Rattle.am_merge.specs.Naming.{Named, is_named, reference, reference_of, references}
use Rattle.am_merge.specs.Walk.{gives_value}
use Rattle.am_merge.specs.declared.aims.Aim.{Aim}
use Rattle.am_merge.proofs.Hanging.{filter-reverse}

-- ---- the operation at a place

pub one_within : (A : List Operation) (k : ℕ) (x : Operation) → one_at A k ≡ x ∷ [] → k < length A
one_within [] zero x e = let never : ⊥ = cc in absurd never
one_within [] (suc k) x e = let never : ⊥ = cc in absurd never
one_within (y ∷ A) zero x e = omega arith
one_within (y ∷ A) (suc k) x e = let again : k < length A = one_within A k x e in omega arith

pub one_read : (A : List Operation) (k : ℕ) (x d : Operation) → one_at A k ≡ x ∷ [] → get_or A k d ≡ x
one_read [] zero x d e = let never : ⊥ = cc in absurd never
one_read [] (suc k) x d e = let never : ⊥ = cc in absurd never
one_read (y ∷ A) zero x d e = cc
one_read (y ∷ A) (suc k) x d e = one_read A k x d e

pub one_there : (A : List Operation) (k : ℕ) (d : Operation) → k < length A → one_at A k ≡ get_or A k d ∷ []
one_there [] k d l = absurd (omega arith)
one_there (y ∷ A) zero d l = refl
one_there (y ∷ A) (suc k) d l = one_there A k d (omega arith)

pub some_there : (A : List Operation) (k : ℕ) → k < length A → (x : Operation) × (one_at A k ≡ x ∷ [])
some_there [] k l = absurd (omega arith)
some_there (y ∷ A) zero l = (y, refl)
some_there (y ∷ A) (suc k) l = some_there A k (omega arith)

same_one : (x y : Operation) (xs : List Operation) → xs ≡ x ∷ [] → xs ≡ y ∷ [] → x ≡ y
same_one x y xs e f = cc

pub one_is : (A : List Operation) (k : ℕ) (x y : Operation) → one_at A k ≡ x ∷ [] → one_at A k ≡ y ∷ [] → x ≡ y
one_is A k x y e f = same_one x y (one_at A k) e f

-- the operation that was read
pub read_one : (ns : List Numbered) (k : ℕ) (d : Numbered) (x : Operation) → one_at (map operation_of ns) k ≡ x ∷ [] → operation_of (get_or ns k d) ≡ x
read_one ns k d x e = sym (get_or-map operation_of ns k d) ∙ one_read (map operation_of ns) k x (operation_of d) e

pub read_there : (ns : List Numbered) (k : ℕ) (d : Numbered) → k < length (map operation_of ns) → one_at (map operation_of ns) k ≡ operation_of (get_or ns k d) ∷ []
read_there ns k d within = one_there (map operation_of ns) k (operation_of d) within ∙ ap (λ y. y ∷ []) (get_or-map operation_of ns k d)

pub one_taken : (A : List Operation) (k : ℕ) (x : Operation) → one_at A k ≡ x ∷ [] → take (k + 1) A ≡ take k A ++ x ∷ []
one_taken A k x e = take_more A k x (one_within A k x e) ∙ ap (λ y. take k A ++ y ∷ []) (one_read A k x x e)

pub one_dropped : (A : List Operation) (k : ℕ) (x : Operation) → one_at A k ≡ x ∷ [] → drop k A ≡ x ∷ drop (k + 1) A
one_dropped [] zero x e = let never : ⊥ = cc in absurd never
one_dropped [] (suc k) x e = let never : ⊥ = cc in absurd never
one_dropped (y ∷ A) zero x e = let same : y ≡ x = cc in λ i. same i ∷ A
one_dropped (y ∷ A) (suc k) x e = let next : suc k + 1 ≡ suc (k + 1) = omega arith in one_dropped A k x e ∙ ap (λ n. x ∷ drop n (y ∷ A)) (sym next)

-- ---- ids

not_before : (A : List Operation) → Rise A → (j k : ℕ) (x y : Operation) → one_at A j ≡ x ∷ [] → one_at A k ≡ y ∷ [] → x.id ≡ y.id → j < k → ⊥
not_before A rise j k x y ex ey e l =
    let less : id_cmp (get_or A j x).id (get_or A k x).id ≡ Less = rise_at A rise j k x l (one_within A k y ey) in
    let a : (get_or A j x).id ≡ x.id = ap (λ (z : Operation). z.id) (one_read A j x x ex) in
    let b : (get_or A k x).id ≡ y.id = ap (λ (z : Operation). z.id) (one_read A k y x ey) in
    let tied : id_cmp x.id x.id ≡ Equal = tied_itself id_total x.id in
    cc

pub same_place : (A : List Operation) → Rise A → (j k : ℕ) (x y : Operation) → one_at A j ≡ x ∷ [] → one_at A k ≡ y ∷ [] → x.id ≡ y.id → j ≡ k
same_place A rise j k x y ex ey e = elim (cases_lt j k) [
  | inl l ↦ absurd (not_before A rise j k x y ex ey e l)
  | inr m ↦ elim (cases_lt k j) [
    | inl l ↦ absurd (not_before A rise k j y x ey ex (sym e) l)
    | inr n ↦ omega arith
  ]
]

found_id : (A : List Operation) (i : OpId) (k : ℕ) (y : Operation) → HasAt A i k → one_at A k ≡ y ∷ [] → y.id ≡ i
found_id A i k y has e = ap (λ (z : Operation). z.id) (sym (one_read A k y y e)) ∙ has.1 y

none_at : (A : List Operation) (i : OpId) (k : ℕ) (y : Operation) → HasNone A i → one_at A k ≡ y ∷ [] → y.id ≡ i → ⊥
none_at [] i zero y none e f = cc
none_at [] i (suc k) y none e f = cc
none_at (z ∷ A) i zero y none e f = let same : z ≡ y = cc in none.0 (ap (λ (z : Operation). z.id) same ∙ f)
none_at (z ∷ A) i (suc k) y none e f = none_at A i k y none.1 e f

-- ---- aims one after another

module _ (p : Operation → Named → Bool) (A : List Operation) where
  namers-append : (us vs : List Aim) (k : ℕ) → namers A (us ++ vs) k ≡ namers A us k ++ namers A vs k
  namers-append us vs k =
      ap (λ (l : List Aim). picked A (map (λ a. a.place) l)) (filter-append (λ (a : Aim). eqb a.target k) us vs)
      ∙ ap (picked A) (map-append (λ (a : Aim). a.place) (filter (λ a. eqb a.target k) us) (filter (λ a. eqb a.target k) vs))
      ∙ flat_map-append (one_at A) (places_to us k) (places_to vs k)

  abbrev told : Operation → List Named → List Operation
  told x ns = map (λ n. n.operation) (filter (p x) ns)

  told-append : (x : Operation) (ns ms : List Named) → told x (ns ++ ms) ≡ told x ns ++ told x ms
  told-append x ns ms =
      ap (map (λ (n : Named). n.operation)) (filter-append (p x) ns ms)
      ∙ map-append (λ (n : Named). n.operation) (filter (p x) ns) (filter (p x) ms)

  pub join : (ns ms : List Named) (us vs : List Aim) → AreAims p A ns us → AreAims p A ms vs → AreAims p A (ns ++ ms) (us ++ vs)
  join ns ms us vs h g = record {
    targets = All-append (λ (a : Aim). a.target < length A) us vs h.targets g.targets;
    places = All-append (λ (a : Aim). a.place < length A) us vs h.places g.places;
    tell = λ k x e. namers-append us vs k ∙ ap (λ l. l ++ namers A vs k) (h.tell k x e) ∙ ap (λ l. told x ns ++ l) (g.tell k x e) ∙ sym (told-append x ns ms);
  }

  named_one : (a : Aim) (k : ℕ) → eqb a.target k ≡ true → namers A (a ∷ []) k ≡ one_at A a.place
  named_one a k e = simp e (append-nil (one_at A a.place))

  named_none : (a : Aim) (k : ℕ) → eqb a.target k ≡ false → namers A (a ∷ []) k ≡ []
  named_none a k e = simp e refl

  told_one : (x : Operation) (n : Named) → p x n ≡ true → told x (n ∷ []) ≡ n.operation ∷ []
  told_one x n e = simp e refl

  told_none : (x : Operation) (n : Named) → p x n ≡ false → told x (n ∷ []) ≡ []
  told_none x n e = simp e refl

  pub there : (n : Named) (a : Aim) (y : Operation) → one_at A a.place ≡ n.operation ∷ [] → one_at A a.target ≡ y ∷ [] → p y n ≡ true
      → ((j : ℕ) (z : Operation) → one_at A j ≡ z ∷ [] → p z n ≡ true → j ≡ a.target) → AreAims p A (n ∷ []) (a ∷ [])
  there n a y here at says alone = record {
    targets = All-cons (λ (a : Aim). a.target < length A) a [] (one_within A a.target y at) (All-nil (λ (a : Aim). a.target < length A));
    places = All-cons (λ (a : Aim). a.place < length A) a [] (one_within A a.place n.operation here) (All-nil (λ (a : Aim). a.place < length A));
    tell = λ k z e. elim (cases_eq a.target k) [
      | inl same ↦ let is : z ≡ y = one_is A k z y e (ap (one_at A) (sym same) ∙ at) in
          named_one a k (eq-eqb a.target k same) ∙ here ∙ sym (told_one z n (ap (λ x. p x n) is ∙ says))
      | inr other ↦ named_none a k (ne_eqb a.target k other) ∙ sym (told_none z n (false_from_ne_true (p z n) (λ t. other (sym (alone k z e t)))))
    ];
  }

  pub nowhere : (n : Named) → ((j : ℕ) (z : Operation) → one_at A j ≡ z ∷ [] → p z n ≡ true → ⊥) → AreAims p A (n ∷ []) []
  nowhere n never = record {
    targets = All-nil (λ (a : Aim). a.target < length A);
    places = All-nil (λ (a : Aim). a.place < length A);
    tell = λ k z e. sym (told_none z n (false_from_ne_true (p z n) (never k z e)));
  }

  pub push_there : (ns : List Named) (us : List Aim) (n : Named) (a : Aim) (y : Operation) → AreAims p A ns us → one_at A a.place ≡ n.operation ∷ [] → one_at A a.target ≡ y ∷ [] → p y n ≡ true
      → ((j : ℕ) (z : Operation) → one_at A j ≡ z ∷ [] → p z n ≡ true → j ≡ a.target) → AreAims p A (ns ++ n ∷ []) (us ++ a ∷ [])
  push_there ns us n a y h here at says alone = join ns (n ∷ []) us (a ∷ []) h (there n a y here at says alone)

  pub push_none : (ns : List Named) (us : List Aim) (n : Named) → AreAims p A ns us → ((j : ℕ) (z : Operation) → one_at A j ≡ z ∷ [] → p z n ≡ true → ⊥) → AreAims p A (ns ++ n ∷ []) us
  push_none ns us n h never = subst (AreAims p A (ns ++ n ∷ [])) (append-nil us) (join ns (n ∷ []) us [] h (nowhere n never))

-- ---- those that name an id

id_named : (o : ObjId) (x : Operation) (n : Named) → is_named o x.id n ≡ true → x.id ≡ n.id
id_named o x n e = sym (same_id-true n.id x.id (and_parts (same_object n.obj o) (same_id n.id x.id) e).1)

abbrev pub by_id : OpId → Operation → Named
by_id i x = record { obj = Root; id = i; operation = x }

abbrev pub by_element : OpId → Operation → Named
by_element i x = record { obj = x.op.obj; id = i; operation = x }

abbrev pub aim : ℕ → ℕ → Aim
aim k j = record { target = k; place = j }

module _ (A : List Operation) (rise : Rise A) (i : OpId) where
  pub id_found : (k j : ℕ) (x : Operation) (ns : List Named) (us : List Aim) → HasAt A i k → one_at A j ≡ x ∷ [] → AreAims means_id A ns us → AreAims means_id A (ns ++ by_id i x ∷ []) (us ++ aim k j ∷ [])
  id_found k j x ns us has here h =
      let y = (some_there A k has.0).0 in
      let at : one_at A k ≡ y ∷ [] = (some_there A k has.0).1 in
      let is : y.id ≡ i = found_id A i k y has at in
      push_there means_id A ns us (by_id i x) (aim k j) y h here at
      (and_from (same_object Root Root) (same_id i y.id) refl (ap (same_id i) is ∙ same_id_itself i))
      (λ m z e t. same_place A rise m k z y e at (id_named Root z (by_id i x) t ∙ sym is))

  pub id_missing : (x : Operation) (ns : List Named) (us : List Aim) → HasNone A i → AreAims means_id A ns us → AreAims means_id A (ns ++ by_id i x ∷ []) us
  id_missing x ns us none h = push_none means_id A ns us (by_id i x) h (λ m z e t. none_at A i m z none e (id_named Root z (by_id i x) t))

  -- an element that x names: it is one of the object
  abbrev fits : Operation → Operation → Bool
  fits x y = y.op.insert && same_object x.op.obj y.op.obj

  element_named : (x z : Operation) → means_element z (by_element i x) ≡ true → z.id ≡ i
  element_named x z t = sym (same_id-true i z.id (and_parts (fits x z) (same_id i z.id) t).1)

  pub element_found : (k j : ℕ) (x y : Operation) (ns : List Named) (us : List Aim) → HasAt A i k → one_at A j ≡ x ∷ [] → one_at A k ≡ y ∷ [] → fits x y ≡ true
      → AreAims means_element A ns us → AreAims means_element A (ns ++ by_element i x ∷ []) (us ++ aim k j ∷ [])
  element_found k j x y ns us has here at same h =
      let is : y.id ≡ i = found_id A i k y has at in
      push_there means_element A ns us (by_element i x) (aim k j) y h here at
      (and_from (fits x y) (same_id i y.id) same (ap (same_id i) is ∙ same_id_itself i))
      (λ m z e t. same_place A rise m k z y e at (element_named x z t ∙ sym is))

  pub element_elsewhere : (k : ℕ) (x y : Operation) (ns : List Named) (us : List Aim) → HasAt A i k → one_at A k ≡ y ∷ [] → fits x y ≡ false
      → AreAims means_element A ns us → AreAims means_element A (ns ++ by_element i x ∷ []) us
  element_elsewhere k x y ns us has at other h =
      let is : y.id ≡ i = found_id A i k y has at in
      push_none means_element A ns us (by_element i x) h
      (λ m z e t.
      let here : m ≡ k = same_place A rise m k z y e at (element_named x z t ∙ sym is) in
      let zy : z ≡ y = one_is A k z y (ap (one_at A) (sym here) ∙ e) at in
      both_ways (fits x y) other (ap (fits x) (sym zy) ∙ (and_parts (fits x z) (same_id i z.id) t).0))

  pub element_missing : (x : Operation) (ns : List Named) (us : List Aim) → HasNone A i → AreAims means_element A ns us → AreAims means_element A (ns ++ by_element i x ∷ []) us
  element_missing x ns us none h = push_none means_element A ns us (by_element i x) h (λ m z e t. none_at A i m z none e (element_named x z t))

-- ---- one operation more

pub more_names : (p : Operation → Named → Bool) (A : List Operation) (ns ms ls : List Named) (us : List Aim) → ms ≡ ls → AreAims p A (ns ++ ms) us → AreAims p A (ns ++ ls) us
more_names p A ns ms ls us e h = subst (λ (l : List Named). AreAims p A (ns ++ l) us) e h

pub no_names : (p : Operation → Named → Bool) (A : List Operation) (ns ls : List Named) (us : List Aim) → ls ≡ [] → AreAims p A ns us → AreAims p A (ns ++ ls) us
no_names p A ns ls us e h = more_names p A ns [] ls us (sym e) (subst (λ (l : List Named). AreAims p A l us) (sym (append-nil ns)) h)

-- what one names goes behind the others
pub one_more : (p : Operation → Named → Bool) (A : List Operation) (ns ms ls ks : List Named) (us : List Aim) → ms ++ ls ≡ ks → AreAims p A ((ns ++ ms) ++ ls) us → AreAims p A (ns ++ ks) us
one_more p A ns ms ls ks us e h = subst (λ (l : List Named). AreAims p A l us) (append_assoc ns ms ls ∙ ap (λ l. ns ++ l) e) h

pub one_reference : (p : Operation → Bool) (x : Operation) → p x ≡ true → references (filter p (x ∷ [])) ≡ reference x
one_reference p x e = simp e (append-nil (reference x))

pub none_reference : (p : Operation → Bool) (x : Operation) → p x ≡ false → references (filter p (x ∷ [])) ≡ []
none_reference p x e = simp e refl

pub is_value : (x : Operation) → x.op.insert ≡ false → x.op.action ≢ 3 → gives_value x ≡ true
is_value x e n = let f : eqb x.op.action 3 ≡ false = ne_eqb x.op.action 3 n in rw (e, f)

pub no_value_inserts : (x : Operation) → x.op.insert ≡ true → gives_value x ≡ false
no_value_inserts x e = rw e

pub no_value_deletes : (x : Operation) → x.op.insert ≡ false → x.op.action ≡ 3 → gives_value x ≡ false
no_value_deletes x e d = let f : eqb x.op.action 3 ≡ true = eq-eqb x.op.action 3 d in rw (e, f)

pub reference_by : (x : Operation) (k : Key) → x.op.key ≡ k → reference x ≡ reference_of x k
reference_by x k e = ap (reference_of x) e

pub one_further : (f : Operation → List Named) (A : List Operation) (k : ℕ) (x : Operation) → one_at A k ≡ x ∷ [] → flat_map f (take k A) ++ f x ≡ flat_map f (take (k + 1) A)
one_further f A k x e =
    ap (λ l. flat_map f (take k A) ++ l) (sym (append-nil (f x)))
    ∙ sym (flat_map-append f (take k A) (x ∷ []))
    ∙ ap (flat_map f) (sym (one_taken A k x e))

pub one_chosen : (p : Operation → Bool) (A : List Operation) (k : ℕ) (x : Operation) → one_at A k ≡ x ∷ []
    → references (filter p (take k A)) ++ references (filter p (x ∷ [])) ≡ references (filter p (take (k + 1) A))
one_chosen p A k x e =
    sym (flat_map-append _ (filter p (take k A)) (filter p (x ∷ [])))
    ∙ ap references (sym (filter-append p (take k A) (x ∷ [])))
    ∙ ap (λ l. references (filter p l)) (sym (one_taken A k x e))

-- an id more
pub one_named : (x : Operation) (ps : List OpId) (k : ℕ) (i : OpId) → k < length ps → i ≡ get_or ps k i → map (λ p. by_id p x) (take k ps) ++ by_id i x ∷ [] ≡ map (λ p. by_id p x) (take (k + 1) ps)
one_named x ps k i l is =
    sym (map-append (λ p. by_id p x) (take k ps) (i ∷ []))
    ∙ ap (λ j. map (λ p. by_id p x) (take k ps ++ j ∷ [])) is
    ∙ ap (map (λ p. by_id p x)) (sym (take_more ps k i l))

-- ---- the other way round

-- what falls into parts of at most one each
turned : {X Y : Type 0} (f : X → List Y) (xs : List X) → ((x : X) → reverse (f x) ≡ f x) → flat_map f (reverse xs) ≡ reverse (flat_map f xs)
turned f [] short = refl
turned f (x ∷ xs) short =
    ap (flat_map f) (reverse-append (x ∷ []) xs)
    ∙ flat_map-append f (reverse xs) (x ∷ [])
    ∙ ap (λ l. flat_map f (reverse xs) ++ l) (append-nil (f x))
    ∙ (λ i. turned f xs short i ++ sym (short x) i)
    ∙ sym (reverse-append (f x) (flat_map f xs))

one_turned : (l : List Operation) → reverse (take 1 l) ≡ take 1 l
one_turned [] = refl
one_turned (x ∷ l) = refl

reference_turned : (x : Operation) (k : Key) → reverse (reference_of x k) ≡ reference_of x k
reference_turned x (Name n) = refl
reference_turned x Head = refl
reference_turned x (Elem i) = refl

pub chosen_turned : (p : Operation → Bool) (A : List Operation) → references (filter p (reverse A)) ≡ reverse (references (filter p A))
chosen_turned p A = ap references (filter-reverse p A) ∙ turned reference (filter p A) (λ x. reference_turned x x.op.key)

pub aims_turned : (p : Operation → Named → Bool) (A : List Operation) (ns : List Named) (us : List Aim) → AreAims p A ns us → AreAims p A (reverse ns) (reverse us)
aims_turned p A ns us h = record {
  targets = All-reversed (λ (a : Aim). a.target < length A) us h.targets;
  places = All-reversed (λ (a : Aim). a.place < length A) us h.places;
  tell = λ k x e.
      ap (λ l. picked A (map (λ (a : Aim). a.place) l)) (filter-reverse (λ (a : Aim). eqb a.target k) us)
      ∙ ap (picked A) (map-reversed (λ (a : Aim). a.place) (filter (λ (a : Aim). eqb a.target k) us))
      ∙ turned (one_at A) (places_to us k) (λ j. one_turned (drop j A))
      ∙ ap reverse (h.tell k x e)
      ∙ sym (map-reversed (λ (n : Named). n.operation) (filter (p x) ns))
      ∙ ap (map (λ (n : Named). n.operation)) (sym (filter-reverse (p x) ns));
}
  where
    map-reversed : {X Y : Type 0} (f : X → Y) (xs : List X) → map f (reverse xs) ≡ reverse (map f xs)
    map-reversed f [] = refl
    map-reversed f (x ∷ xs) = ap (map f) (reverse-append (x ∷ []) xs) ∙ map-append f (reverse xs) (x ∷ []) ∙ ap (λ l. l ++ f x ∷ []) (map-reversed f xs) ∙ sym (reverse-append (f x ∷ []) (map f xs))

    All-reversed : {X : Type 0} (P : X → Type 0) (xs : List X) → All P xs → All P (reverse xs)
    All-reversed P xs all = All-permutation P xs (reverse xs) (IsPermutation-reverse xs) all
