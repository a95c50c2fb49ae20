-- The numbers of authors, and what stays when an actor becomes an author.
use Rattle.std.proofs.Common.{ℕ, suc, ◌≡◌, ◌+◌, ◌<◌, ◌==◌, ◌&&◌, List, [], ◌∷◌, ◌++◌, length, get_or, map, nat_lt, Bool, true, cond, Option, Some, None, option_map, refl, sym, ap, ◌∙◌, subst, inl, inr, ◌⊎◌, Contains, arith}
use Rattle.std.specs.List.{position, position_or_len}
use Rattle.std.proofs.lemmas.Bool.{cases_Bool, cases_lt, lt-ltb, le-ltb, and_parts}
use Rattle.am_types.specs.declared.Hash.{Hash}
use Rattle.am_types.specs.Same.{same_bytes}
use Rattle.am_types.specs.Members.{Member}
use Rattle.am_types.proofs.Orders.{same_bytes-true}
use Rattle.am_graph.specs.declared.node.Node.{Node}
use Rattle.am_graph.specs.declared.reach.Reach.{Reach}
use Rattle.am_graph.specs.Graphs.{having}
use Rattle.am_graph.specs.Reaches.{number, Attained, IsTableOf}

-- the place, by recursion
unfoldable pub place : {X : Type 0} → (X → Bool) → List X → Option ℕ
place p [] = None
place p (x ∷ xs) = cond (p x) (Some 0) (option_map suc (place p xs))

pub place_is : {X : Type 0} (p : X → Bool) (xs : List X) → position p xs ≡ place p xs
unfolding place
place_is p [] = refl
place_is p (x ∷ xs) =
    let again : position p xs ≡ place p xs = place_is p xs in
    elim (cases_Bool (p x)) [ inl e ↦ simp e (ap (λ t. cond t (Some 0) None) (lt-ltb 0 (length (x ∷ xs)) (omega arith))) | inr e ↦ simp e (split (position_or_len p xs) (length xs) ∙ ap (option_map suc) again) ]
  where
    split : (a b : ℕ) → cond (nat_lt (1 + a) (suc b)) (Some (1 + a)) None ≡ option_map suc (cond (nat_lt a b) (Some a) None)
    split a b = elim (cases_lt a b) [
      | inl l ↦ (let e : 1 + a ≡ suc a = omega arith in ap (λ t. cond t (Some (1 + a)) None) (lt-ltb (1 + a) (suc b) (omega arith)) ∙ ap Some e) ∙ sym (ap (λ t. option_map suc (cond t (Some a) None)) (lt-ltb a b l))
      | inr l ↦ ap (λ t. cond t (Some (1 + a)) None) (le-ltb (1 + a) (suc b) (omega arith)) ∙ sym (ap (λ t. option_map suc (cond t (Some a) None)) (le-ltb a b l))
    ]

pub some_or : {X : Type 0} (o : Option X) → ((x : X) × (o ≡ Some x)) ⊎ (o ≡ None)
some_or None = inr refl
some_or (Some x) = inl (x, refl)

-- what is found stays found
place_more : {X : Type 0} (p : X → Bool) (xs : List X) (y : X) (i : ℕ) → place p xs ≡ Some i → place p (xs ++ y ∷ []) ≡ Some i
unfolding place
place_more p [] y i e = absurd (none e)
  where
    none : None ≡ Some i → ⊥
    none e = cc
place_more p (x ∷ xs) y i e =
    let again : (j : ℕ) → place p xs ≡ Some j → place p (xs ++ y ∷ []) ≡ Some j = place_more p xs y in
    elim (cases_Bool (p x)) [
      | inl t ↦ simp t (simp t at e)
      | inr t ↦ elim (some_or (place p xs)) [
        | inl f ↦ let g : option_map suc (place p xs) ≡ Some i = simp t at e in simp t (ap (option_map suc) (again f.0 f.1) ∙ sym (ap (option_map suc) f.1) ∙ g)
        | inr f ↦ let g : option_map suc (place p xs) ≡ Some i = simp t at e in absurd (none (sym (ap (option_map suc) f) ∙ g))
      ]
    ]
  where
    none : None ≡ Some i → ⊥
    none e = cc

-- what is found was found before, or is the last
place_back : {X : Type 0} (p : X → Bool) (xs : List X) (y : X) (i : ℕ) → place p (xs ++ y ∷ []) ≡ Some i → (place p xs ≡ Some i) ⊎ ((i ≡ length xs) × (p y ≡ true) × (place p xs ≡ None))
unfolding place
place_back p [] y i e = elim (cases_Bool (p y)) [
  | inl t ↦ let f : Some 0 ≡ Some i = simp t at e in inr (same f, t, refl)
  | inr t ↦ let f : None ≡ Some i = simp t at e in absurd (none f)
]
  where
    same : Some 0 ≡ Some i → i ≡ 0
    same e = cc

    none : None ≡ Some i → ⊥
    none e = cc
place_back p (x ∷ xs) y i e =
    let again : (j : ℕ) → place p (xs ++ y ∷ []) ≡ Some j → (place p xs ≡ Some j) ⊎ ((j ≡ length xs) × (p y ≡ true) × (place p xs ≡ None)) = place_back p xs y in
    elim (cases_Bool (p x)) [
      | inl t ↦ inl (let f : Some 0 ≡ Some i = simp t at e in simp t f)
      | inr t ↦ let f : option_map suc (place p (xs ++ y ∷ [])) ≡ Some i = simp t at e in elim (some_or (place p (xs ++ y ∷ []))) [
        | inl g ↦ let h : suc g.0 ≡ i = inner g.0 (sym (ap (option_map suc) g.1) ∙ f) in elim (again g.0 g.1) [
          | inl a ↦ inl (simp t (ap (option_map suc) a ∙ ap Some h))
          | inr a ↦ let b : g.0 ≡ length xs = a.0 in inr (omega arith, a.1, simp t (ap (option_map suc) a.2))
        ]
        | inr g ↦ absurd (none (sym (ap (option_map suc) g) ∙ f))
      ]
    ]
  where
    none : None ≡ Some i → ⊥
    none e = cc

    inner : (j : ℕ) → Some (suc j) ≡ Some i → suc j ≡ i
    inner j e = cc

pub number_more : (authors : List (List ℕ)) (y x : List ℕ) (a : ℕ) → number authors x ≡ Some a → number (authors ++ y ∷ []) x ≡ Some a
number_more authors y x a e = place_is (same_bytes x) (authors ++ y ∷ []) ∙ place_more (same_bytes x) authors y a (sym (place_is (same_bytes x) authors) ∙ e)

pub number_back : (authors : List (List ℕ)) (y x : List ℕ) (a : ℕ) → number (authors ++ y ∷ []) x ≡ Some a → (number authors x ≡ Some a) ⊎ ((a ≡ length authors) × (same_bytes x y ≡ true) × (number authors x ≡ None))
number_back authors y x a e = elim (place_back (same_bytes x) authors y a (sym (place_is (same_bytes x) (authors ++ y ∷ [])) ∙ e)) [
  | inl f ↦ inl (place_is (same_bytes x) authors ∙ f)
  | inr f ↦ inr (f.0, f.1, place_is (same_bytes x) authors ∙ f.2)
]

-- the new author has the last number
pub number_last : (authors : List (List ℕ)) (y : List ℕ) → number authors y ≡ None → same_bytes y y ≡ true → number (authors ++ y ∷ []) y ≡ Some (length authors)
unfolding place
number_last authors y e t = place_is (same_bytes y) (authors ++ y ∷ []) ∙ go (same_bytes y) authors (sym (place_is (same_bytes y) authors) ∙ e) t
  where
    go : (p : List ℕ → Bool) (xs : List (List ℕ)) → place p xs ≡ None → p y ≡ true → place p (xs ++ y ∷ []) ≡ Some (length xs)
    go p [] e t = simp t refl
    go p (x ∷ xs) e t =
        let again : place p xs ≡ None → place p (xs ++ y ∷ []) ≡ Some (length xs) = λ f. go p xs f t in
        elim (cases_Bool (p x)) [
          | inl f ↦ let g : ◌≡◌ {A = Option ℕ} (Some 0) None = simp f at e in absurd (some g)
          | inr f ↦ elim (some_or (place p xs)) [
            | inl h ↦ let g : option_map suc (place p xs) ≡ None = simp f at e in absurd (later h.0 (sym (ap (option_map suc) h.1) ∙ g))
            | inr h ↦ simp f (ap (option_map suc) (again h))
          ]
        ]
      where
        some : ◌≡◌ {A = Option ℕ} (Some 0) None → ⊥
        some e = cc

        later : (j : ℕ) → Some (suc j) ≡ None → ⊥
        later j e = cc

some_same : (a b : ℕ) → Some a ≡ Some b → a ≡ b
some_same a b e = cc

module _ (authors : List (List ℕ)) (y : List ℕ) where
  -- a table stays right, where each of its changes has an author
  pub table_more : (A : List Member) (T : List Reach) → ((m : Member) → Contains A m → (a : ℕ) × (number authors m.change.actor ≡ Some a)) → IsTableOf authors A T → IsTableOf (authors ++ y ∷ []) A T
  table_more A T known t = record {
    reached = λ m c a e. let k = known m c in
        let same : k.0 ≡ a = some_same k.0 a (sym (number_more authors y m.change.actor k.0 k.1) ∙ e) in
        t.reached m c a (subst (λ b. number authors m.change.actor ≡ Some b) same k.1);
    seqs = λ a. more (λ m. m.change.seq) a _ (t.seqs a);
    ends = λ a. more _ a _ (t.ends a);
  }
    where
      more : (f : Member → ℕ) (a n : ℕ) → Attained authors A f a n → Attained (authors ++ y ∷ []) A f a n
      more f a n t = elim t [ inl z ↦ inl z | inr g ↦ inr (g.0, g.1, number_more authors y g.0.change.actor a g.2, g.3) ]

  -- an actor without a number has no changes
  pub having_none : (g : List (Hash × Node)) → ((k : ℕ) (e : Hash × Node) → k < length g → (a : ℕ) × (number authors (get_or g k e).1.actor ≡ Some a)) → (x : List ℕ) (q : ℕ) → number authors x ≡ None → having g x q ≡ []
  having_none [] known x q e = refl
  having_none (e' ∷ g) known x q e =
      let again : having g x q ≡ [] = having_none g (λ k e l. known (suc k) e (omega arith)) x q e in
      elim (cases_Bool (same_bytes x e'.1.actor && e'.1.seq == q)) [
        | inl t ↦ let k = known 0 e' (omega arith) in absurd (none k.0 (sym e ∙ ap (number authors) (same_bytes-true x e'.1.actor (and_parts _ _ t).0) ∙ k.1))
        | inr t ↦ simp t again
      ]
    where
      none : (a : ℕ) → None ≡ Some a → ⊥
      none a e = cc

place-map : {V X : Type 0} (items : V → X) (t : V → Bool) (p : X → Bool) → ((v : V) → t v ≡ p (items v)) → (vs : List V) → place t vs ≡ place p (map items vs)
unfolding place
place-map items t p e [] = refl
place-map items t p e (v ∷ vs) = λ i. cond (e v i) (Some 0) (option_map suc (place-map items t p e vs i))

-- a look-up among what has names
pub number_map : {V : Type 0} (items : V → List ℕ) (t : V → Bool) (x : List ℕ) → ((v : V) → t v ≡ same_bytes x (items v)) → (vs : List V) → position t vs ≡ number (map items vs) x
number_map items t x e vs = place_is t vs ∙ place-map items t (same_bytes x) e vs ∙ sym (place_is (same_bytes x) (map items vs))

pub length-names : {V : Type 0} (items : V → List ℕ) (vs : List V) → length (map items vs) ≡ length vs
length-names items [] = refl
length-names items (v ∷ vs) = ap suc (length-names items vs)
