-- A graph stays sound where a new change joins at the end.
use Rattle.std.proofs.Common.{ℕ, zero, suc, ◌≡◌, ◌+◌, ◌-◌, ◌<◌, ◌≤◌, ◌^◌, List, [], ◌∷◌, ◌++◌, length, get_or, map, true, false, Some, None, refl, ap, ◌∙◌, subst, inl, inr, All, arith}
use Rattle.std.specs.List.{list_any}
use Rattle.std.proofs.lemmas.Bool.{cases_Bool, both_ways, or_left, or_right, cases_eq}
use Rattle.std.proofs.lemmas.List.{map-append, get_or_append_left, get_or-append_right}
use Rattle.std.proofs.lemmas.List.Elements.{All-contains, All-cons, All-nil, All-append, All-weaker}
use Rattle.std.proofs.lemmas.List.Folds.{list_any-append}
use Rattle.am_types.specs.declared.Hash.{Hash}
use Rattle.am_types.specs.Order.{hash_cmp, same, among}
use Rattle.am_types.specs.Same.{same_hash}
use Rattle.am_laws.proofs.Growth.{found_among}
use Rattle.am_types.proofs.Orders.{same_hash-true, same_hash_itself}
use Rattle.am_graph.specs.declared.node.Node.{Node}
use Rattle.am_graph.specs.Graphs.{names, is_held, missing, IsSound}

held_more : (g : List (Hash × Node)) (e : Hash × Node) (h : Hash) → is_held g h ≡ true → is_held (g ++ e ∷ []) h ≡ true
held_more g e h t = ap (list_any (same hash_cmp h)) (map-append (λ (e : Hash × Node). e.0) g (e ∷ [])) ∙ list_any-append (same hash_cmp h) (map (λ (e : Hash × Node). e.0) g) (e.0 ∷ []) ∙ or_left _ _ t

held_at : (g : List (Hash × Node)) (k : ℕ) (d : Hash × Node) → k < length g → is_held g (get_or g k d).0 ≡ true
held_at [] k d l = absurd (omega arith)
held_at (e ∷ g) zero d l = or_left _ _ (same_hash_itself e.0)
held_at (e ∷ g) (suc k) d l = or_right (same hash_cmp (get_or g k d).0 e.0) _ (held_at g k d (omega arith))

-- none is missing
pub all_held : (g : List (Hash × Node)) (hs : List Hash) → missing g hs ≡ None → All (λ h. is_held g h ≡ true) hs
all_held g [] e = All-nil (λ h. is_held g h ≡ true)
all_held g (h ∷ hs) e =
    let again : missing g hs ≡ None → All (λ h. is_held g h ≡ true) hs = all_held g hs in
    elim (cases_Bool (is_held g h)) [
      | inl t ↦ let f : missing g hs ≡ None = simp t at e in All-cons (λ h. is_held g h ≡ true) h hs t (again f)
      | inr t ↦ absurd (clash (simp t at e))
    ]
  where
    clash : Some h ≡ None → ⊥
    clash e = cc

module _ (g : List (Hash × Node)) (sound : IsSound g) (h : Hash) (n : Node) (fresh : is_held g h ≡ false) (held : All (λ d. is_held g d ≡ true) n.deps)
    (start : 1 ≤ n.start) (end : n.start + n.count ≤ 2 ^ 53) where
  abbrev pub last : Hash × Node
  last = (h, n)

  -- what is held isn't the new hash
  not_new : (hs : List Hash) → All (λ d. is_held g d ≡ true) hs → among hash_cmp hs h ≡ false
  not_new hs all = elim (cases_Bool (among hash_cmp hs h)) [
    | inl t ↦ absurd (both_ways (is_held g h) fresh (All-contains (λ d. is_held g d ≡ true) hs h all (found_among hs h t)))
    | inr f ↦ f
  ]

  at_last : (d : Hash × Node) → get_or (g ++ last ∷ []) (length g) d ≡ last
  at_last d = get_or-append_right g (last ∷ []) (length g) (length g) d refl (omega arith) ∙ (let z : length g - length g ≡ 0 = omega arith in ap (λ k. get_or (last ∷ []) k d) z)

  -- no entry names the new hash
  names_not : (i : ℕ) (d : Hash × Node) → i ≤ length g → names (get_or (g ++ last ∷ []) i d) h ≡ false
  names_not i d l = elim (cases_eq i (length g)) [
    | inl e ↦ ap (λ q. names q h) (ap (λ k. get_or (g ++ last ∷ []) k d) e ∙ at_last d) ∙ not_new n.deps held
    | inr m ↦ let b : i < length g = omega arith in ap (λ q. names q h) (get_or_append_left g (last ∷ []) d i b) ∙ not_new (get_or g i d).1.deps (sound.closed i d b)
  ]

  -- what is held has another hash
  apart : (x : Hash) → is_held g x ≡ true → same_hash x h ≡ false
  apart x t = elim (cases_Bool (same_hash x h)) [
    | inl e ↦ absurd (both_ways (is_held g h) fresh (subst (λ y. is_held g y ≡ true) (same_hash-true x h e) t))
    | inr e ↦ e
  ]

  length_longer : (g : List (Hash × Node)) → length (g ++ last ∷ []) ≡ suc (length g)
  length_longer [] = refl
  length_longer (x ∷ g) = ap suc (length_longer g)

  pub sound_push : IsSound (g ++ last ∷ [])
  sound_push = record {
    closed = All-append (λ (e : Hash × Node). All (λ d. is_held (g ++ last ∷ []) d ≡ true) e.1.deps) g (last ∷ [])
        (All-weaker (λ (e : Hash × Node). All (λ d. is_held g d ≡ true) e.1.deps) (λ (e : Hash × Node). All (λ d. is_held (g ++ last ∷ []) d ≡ true) e.1.deps) (λ e all k d l. held_more g last _ (all k d l)) g sound.closed)
        (All-cons (λ (e : Hash × Node). All (λ d. is_held (g ++ last ∷ []) d ≡ true) e.1.deps) last [] (λ k d l. held_more g last _ (held k d l)) (All-nil (λ (e : Hash × Node). All (λ d. is_held (g ++ last ∷ []) d ≡ true) e.1.deps)));
    backward = λ i j d z l. let m = length_longer g in elim (cases_eq j (length g)) [
      | inl e ↦ ap (λ q. names (get_or (g ++ last ∷ []) i d) q.0) (ap (λ k. get_or (g ++ last ∷ []) k d) e ∙ at_last d) ∙ names_not i d (omega arith)
      | inr o ↦ let b : j < length g = omega arith in let a : i < length g = omega arith in
          (λ t. names (get_or_append_left g (last ∷ []) d i a t) (get_or_append_left g (last ∷ []) d j b t).0) ∙ sound.backward i j d z b
    ];
    distinct = λ i j d z l. let m = length_longer g in elim (cases_eq j (length g)) [
      | inl e ↦ let b : i < length g = omega arith in
          ap (λ q. same_hash (get_or (g ++ last ∷ []) i d).0 q.0) (ap (λ k. get_or (g ++ last ∷ []) k d) e ∙ at_last d)
          ∙ ap (λ q. same_hash q.0 h) (get_or_append_left g (last ∷ []) d i b)
          ∙ apart (get_or g i d).0 (held_at g i d b)
      | inr o ↦ let b : j < length g = omega arith in let a : i < length g = omega arith in
          (λ t. same_hash (get_or_append_left g (last ∷ []) d i a t).0 (get_or_append_left g (last ∷ []) d j b t).0) ∙ sound.distinct i j d z b
    ];
    starts = All-append (λ (e : Hash × Node). 1 ≤ e.1.start) g (last ∷ []) sound.starts (All-cons (λ (e : Hash × Node). 1 ≤ e.1.start) last [] start (All-nil (λ (e : Hash × Node). 1 ≤ e.1.start)));
    ends = All-append (λ (e : Hash × Node). e.1.start + e.1.count ≤ 2 ^ 53) g (last ∷ []) sound.ends (All-cons (λ (e : Hash × Node). e.1.start + e.1.count ≤ 2 ^ 53) last [] end (All-nil (λ (e : Hash × Node). e.1.start + e.1.count ≤ 2 ^ 53)));
  }
