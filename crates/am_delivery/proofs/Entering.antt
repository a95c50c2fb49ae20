-- What a change that begins to wait adds to a tracker.
use Rattle.std.proofs.Common.{◌≡◌, ◌↔◌, ◌⊎◌, ◌+◌, ◌≤◌, List, [], ◌∷◌, ◌++◌, length, map, filter, Bool, true, false, cond, not, refl, sym, ap, ◌∙◌, subst, inl, inr, Contains, arith}
use Rattle.std.proofs.lemmas.Bool.{cases_Bool, both_ways, false_from_ne_true}
use Rattle.std.proofs.lemmas.List.{length-map}
use Rattle.std.proofs.lemmas.List.Sums.{length-filter, sum_by-append, count_by-le-length}
use Rattle.std.proofs.lemmas.List.Elements.{Contains-append_left, Contains-append_right, Contains-append_cases}
use Rattle.am_types.specs.declared.Hash.{Hash}
use Rattle.am_types.specs.declared.Change.{Change}
use Rattle.am_types.specs.Order.{hash_cmp, same}
use Rattle.am_types.specs.Members.{Member, holds}
use Rattle.am_types.proofs.Orders.{same_hash-true, same_hash_itself}
use Rattle.am_laws.proofs.Ancestry.{Contains-filter, Contains-from_filter}
use Rattle.am_delivery.specs.Tracking.{missing, Tracker, Tracks, Enters}
use Rattle.am_delivery.proofs.Lists.{NoRepeat, Contains-here, Contains-later, Contains-map, Contains-from_map}
use Rattle.am_delivery.proofs.Tracking.{named_in, named_none}

-- in a list without repeats a hash stands once at most
none_same : (h : Hash) (hs : List Hash) → (Contains hs h → ⊥) → filter (same hash_cmp h) hs ≡ []
none_same h [] ne = refl
none_same h (k ∷ hs) ne =
    let other : same hash_cmp h k ≡ false = false_from_ne_true _ (λ t. ne (subst (Contains (k ∷ hs)) (sym (same_hash-true h k t)) (Contains-here k hs))) in
    let again : filter (same hash_cmp h) hs ≡ [] = none_same h hs (λ c. ne (Contains-later k hs h c)) in
    simp other again

one_same : (h : Hash) (hs : List Hash) → NoRepeat hs → length (filter (same hash_cmp h) hs) ≤ 1
one_same h [] nr = omega arith
one_same h (k ∷ hs) nr =
    let again : length (filter (same hash_cmp h) hs) ≤ 1 = one_same h hs nr.1 in
    elim (cases_Bool (same hash_cmp h k)) [
      | inl t ↦
          let none : filter (same hash_cmp h) hs ≡ [] = none_same h hs (λ c. nr.0 (subst (Contains hs) (same_hash-true h k t) c)) in
          let zero' = ap length none in
          simp t (omega arith)
      | inr f ↦ simp f again
    ]

-- the dependencies that aren't held
abbrev pub absent : List Member → Change → List Hash
absent C c = filter (λ h. not (holds C h)) c.deps

no_repeat_filter : (p : Hash → Bool) (hs : List Hash) → NoRepeat hs → NoRepeat (filter p hs)
no_repeat_filter p [] nr = tt
no_repeat_filter p (h ∷ hs) nr =
    let again : NoRepeat (filter p hs) = no_repeat_filter p hs nr.1 in
    let fresh : Contains (filter p hs) h → ⊥ = λ c. nr.0 (Contains-from_filter p hs h c).0 in
    elim (cases_Bool (p h)) [ inl e ↦ simp e (fresh, again) | inr e ↦ simp e again ]

module _ (C W : List Member) (t u : Tracker) (tracks : Tracks C W t) (m : Member) (fresh : holds W m.hash ≡ false) (apart : NoRepeat m.change.deps) where
  abbrev p : Hash → Bool
  p h = not (holds C h)

  abbrev hs : List Hash
  hs = absent C m.change

  abbrev added : Hash → List Hash
  added h = map (λ g. m.hash) (filter (same hash_cmp h) hs)

  total : length hs ≡ missing C m.change
  total = length-filter p m.change.deps

  pub enters : u.missing m.hash ≡ length (absent C m.change)
      → ((g : Hash) → same hash_cmp m.hash g ≡ false → u.missing g ≡ t.missing g)
      → ((d : Hash) → u.waiting_for d ≡ t.waiting_for d ++ map (λ g. m.hash) (filter (same hash_cmp d) (absent C m.change)))
      → ((g : Hash) → Contains u.ready g ↔ (Contains t.ready g ⊎ ((g ≡ m.hash) × (length (absent C m.change) ≡ 0))))
      → Enters C m t u
  enters count others names ready' = record {
    count = count ∙ total;
    others = λ g ne. others g (false_from_ne_true _ (λ s. ne (sym (same_hash-true m.hash g s))));
    names = λ h f g. subst (λ l. Contains l g ↔ (Contains (t.waiting_for h) g ⊎ ((g ≡ m.hash) × Contains m.change.deps h))) (sym (names h)) (
      λ c. elim (Contains-append_cases (t.waiting_for h) (added h) g c) [
        | inl a ↦ inl a
        | inr a ↦
            let k = Contains-from_map (λ (g : Hash). m.hash) (filter (same hash_cmp h) hs) g a in
            let s = Contains-from_filter (same hash_cmp h) hs k.0 k.1 in
            let d = (Contains-from_filter p m.change.deps k.0 s.0).0 in
            inr (sym k.2, subst (Contains m.change.deps) (sym (same_hash-true h k.0 s.1)) d)
      ],
      λ c. elim c [
        | inl a ↦ Contains-append_left (t.waiting_for h) (added h) g a
        | inr a ↦
            let there = Contains-filter (same hash_cmp h) hs h (Contains-filter p m.change.deps h a.1 (ap not f)) (same_hash_itself h) in
            Contains-append_right (t.waiting_for h) (added h) g (subst (Contains (added h)) (sym a.0) (Contains-map (λ (g : Hash). m.hash) (filter (same hash_cmp h) hs) h there))
      ],
    );
    ready = λ g. (
      λ c. elim ((ready' g).0 c) [ inl a ↦ inl a | inr a ↦ inr (a.0, sym total ∙ a.1) ],
      λ c. (ready' g).1 (elim c [ inl a ↦ inl a | inr a ↦ inr (a.0, total ∙ a.1) ]),
    );
    once = λ h f g.
        let sum : named_in g (u.waiting_for h) ≡ named_in g (t.waiting_for h) + named_in g (added h) =
        ap (named_in g) (names h) ∙ sum_by-append (λ (k : Hash). cond (same hash_cmp g k) 1 0) (t.waiting_for h) (added h) in
        let had = tracks.once h f g in
        elim (cases_Bool (same hash_cmp g m.hash)) [
          | inl s ↦
              let before : named_in g (t.waiting_for h) ≡ 0 = named_none g (t.waiting_for h) (λ c. both_ways (holds W m.hash) fresh (subst (λ k. holds W k ≡ true) (same_hash-true g m.hash s) (tracks.named h g f c))) in
              let few = count_by-le-length (same hash_cmp g) (added h) in
              let long = length-map (filter (same hash_cmp h) hs) (λ (g : Hash). m.hash) in
              let one = one_same h hs (no_repeat_filter p m.change.deps apart) in
              omega arith
          | inr s ↦
              let none : named_in g (added h) ≡ 0 = named_none g (added h) (λ c.
              let k = Contains-from_map (λ (g : Hash). m.hash) (filter (same hash_cmp h) hs) g c in
              both_ways (same hash_cmp g m.hash) s (subst (λ k. same hash_cmp g k ≡ true) (sym k.2) (same_hash_itself g))) in
              omega arith
        ];
  }
