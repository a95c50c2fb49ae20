-- One more change waits, by the place at which its hash is found.
use Rattle.std.proofs.Common.{ℕ, zero, suc, ◌≡◌, ◌+◌, ◌<◌, ◌≤◌, ◌||◌, List, [], ◌∷◌, ◌++◌, length, get_or, take, Bool, true, false, cond, Some, refl, sym, ap, ◌∙◌, subst, inl, inr, ◌⊎◌, arith}
use Rattle.std.specs.List.{position}
use Rattle.std.specs.Map.{keys_of}
use Rattle.std.specs.Ordering.{is_eq, nat_cmp}
use Rattle.std.proofs.lemmas.Bool.{cases_Bool, cases_lt, cases_order, both_ways}
use Rattle.std.proofs.lemmas.Cmp.{nat_cmp_total, tied_itself}
use Rattle.std.proofs.lemmas.List.Folds.{list_any-append}
use Rattle.std.proofs.lemmas.List.Quantifiers.{position-Some}
use Rattle.std.proofs.lemmas.Map.Lookups.{exact_unsigned}
use Rattle.std.proofs.lemmas.Map.Text.{is_eq-slice_cmp}
use Rattle.std.proofs.lemmas.Map.Views.{tells_apart}
use Rattle.am_types.specs.contracts.hash.HashPartialEq.TheImpl as equality
use Rattle.am_types.specs.declared.Hash.{Hash}
use Rattle.am_types.specs.Order.{hash_cmp, same, among}
use Rattle.am_types.specs.Same.{same_hash}
use Rattle.am_types.proofs.Orders.{same_hash-true, same_hash_itself}
use Rattle.am_graph.specs.declared.node.Node.{Node}
use Rattle.am_graph.specs.Graphs.{IsSound}
use Rattle.am_graph.specs.Walks.{is_place_of}
use Rattle.am_graph.proofs.Named.{take_one}

-- ---- what a look-up finds

key_at : (g : List (Hash × Node)) (i : ℕ) (d : Hash) (e : Hash × Node) → i < length g → get_or (keys_of g) i d ≡ (get_or g i e).0
key_at [] i d e l = absurd (omega arith)
key_at (x ∷ g) zero d e l = refl
key_at (x ∷ g) (suc i) d e l = key_at g i d e (omega arith)

length-keys : (g : List (Hash × Node)) → length (keys_of g) ≡ length g
length-keys [] = refl
length-keys (x ∷ g) = ap suc (length-keys g)

pub found_at : (g : List (Hash × Node)) (h : Hash) (i : ℕ) → position (equality.eq-value.it h) (keys_of g) ≡ Some i → (i < length g) × ((e : Hash × Node) → h ≡ (get_or g i e).0)
found_at g h i at =
    let p = position-Some (equality.eq-value.it h) (keys_of g) i h at in
    let n = length-keys g in
    let b : i < length (keys_of g) = p.0 in
    let l : i < length g = omega arith in
    (l, λ e. same_hash-true h (get_or g i e).0 (is_eq-slice_cmp h.0 (get_or g i e).0.0 ∙ ap (equality.eq-value.it h) (sym (key_at g i h e l)) ∙ p.1))

-- ---- places

pub place_at : (g : List (Hash × Node)) (hs : List Hash) (k : ℕ) (e : Hash × Node) → k < length g → is_place_of g hs k ≡ among hash_cmp hs (get_or g k e).0
place_at [] hs k e l = absurd (omega arith)
place_at (x ∷ g) hs zero e l = refl
place_at (x ∷ g) hs (suc k) e l = place_at g hs k e (omega arith)

place_past : (g : List (Hash × Node)) (hs : List Hash) (k : ℕ) → length g ≤ k → is_place_of g hs k ≡ false
place_past [] hs k l = refl
place_past (x ∷ g) hs zero l = absurd (omega arith)
place_past (x ∷ g) hs (suc k) l = place_past g hs k (omega arith)

place_push : (g : List (Hash × Node)) (hs : List Hash) (h : Hash) (k : ℕ) → is_place_of g (hs ++ h ∷ []) k ≡ (is_place_of g hs k || is_place_of g (h ∷ []) k)
place_push [] hs h k = refl
place_push (x ∷ g) hs h zero = list_any-append (same hash_cmp x.0) hs (h ∷ [])
place_push (x ∷ g) hs h (suc k) = place_push g hs h k

pub or_off : (a : Bool) → (a || false) ≡ a
or_off true = refl
or_off false = refl

pub not_same : (a b : ℕ) → (a ≡ b → ⊥) → is_eq (nat_cmp a b) ≡ false
not_same a b f = elim (cases_Bool (is_eq (nat_cmp a b))) [ inl t ↦ absurd (f (tells_apart exact_unsigned a b t)) | inr t ↦ t ]

module _ (g : List (Hash × Node)) (sound : IsSound g) (h : Hash) (i : ℕ) (l : i < length g) (is : (e : Hash × Node) → h ≡ (get_or g i e).0) where
  abbrev some : Hash × Node
  some = (h, record { actor = []; seq = 0; start = 0; count = 0; deps = [] })

  pub only_place : (k : ℕ) → is_place_of g (h ∷ []) k ≡ is_eq (nat_cmp i k)
  only_place k = elim (cases_order i k) [
    | inl e ↦ place_at g (h ∷ []) k some (subst (λ j. j < length g) e l)
        ∙ or_off (same_hash (get_or g k some).0 h)
        ∙ ap (λ q. same_hash q h) (ap (λ j. (get_or g j some).0) (sym e) ∙ sym (is some)) ∙ same_hash_itself h
        ∙ sym (ap (λ j. is_eq (nat_cmp i j)) (sym e) ∙ ap is_eq (tied_itself nat_cmp_total i))
    | inr o ↦ apart o
  ]
    where
      apart : (i < k) ⊎ (k < i) → is_place_of g (h ∷ []) k ≡ is_eq (nat_cmp i k)
      apart o = elim (cases_lt k (length g)) [
        | inl b ↦ place_at g (h ∷ []) k some b ∙ or_off (same_hash (get_or g k some).0 h) ∙ differ o b ∙ sym (not_same i k (λ e. elim o [ inl x ↦ absurd (omega arith) | inr x ↦ absurd (omega arith) ]))
        | inr b ↦ place_past g (h ∷ []) k b ∙ sym (not_same i k (λ e. absurd (omega arith)))
      ]
        where
          differ : (i < k) ⊎ (k < i) → k < length g → same_hash (get_or g k some).0 h ≡ false
          differ o b = elim (cases_Bool (same_hash (get_or g k some).0 h)) [
            | inl t ↦ let s : (get_or g k some).0 ≡ (get_or g i some).0 = same_hash-true _ _ t ∙ is some in elim o [
              | inl x ↦ absurd (both_ways _ (sound.distinct i k some x b) (ap (λ q. same_hash q (get_or g k some).0) (sym s) ∙ same_hash_itself (get_or g k some).0))
              | inr x ↦ absurd (both_ways _ (sound.distinct k i some x l) (ap (λ q. same_hash q (get_or g i some).0) s ∙ same_hash_itself (get_or g i some).0))
            ]
            | inr t ↦ t
          ]

to_or : (p a b : Bool) → cond p true (a || b) ≡ (a || (b || p))
to_or true true b = refl
to_or true false true = refl
to_or true false false = refl
to_or false true b = refl
to_or false false true = refl
to_or false false false = refl

-- one more hash
pub wait_more : (g : List (Hash × Node)) (sound : IsSound g) (old V W : ℕ → Bool) (hs : List Hash) (j : ℕ) (d : Hash) → j < length hs → (i : ℕ) → position (equality.eq-value.it (get_or hs j d)) (keys_of g) ≡ Some i
    → ((k : ℕ) → W k ≡ cond (is_eq (nat_cmp i k)) true (V k)) → ((k : ℕ) → V k ≡ (old k || is_place_of g (take j hs) k)) → (k : ℕ) → W k ≡ (old k || is_place_of g (take (j + 1) hs) k)
wait_more g sound old V W hs j d l i at joins v k =
    let f = found_at g (get_or hs j d) i at in
    joins k ∙ ap (cond (is_eq (nat_cmp i k)) true) (v k) ∙ to_or (is_eq (nat_cmp i k)) (old k) (is_place_of g (take j hs) k)
    ∙ ap (λ b. old k || (is_place_of g (take j hs) k || b)) (sym (only_place g sound (get_or hs j d) i f.0 f.1 k))
    ∙ ap (λ b. old k || b) (sym (place_push g (take j hs) (get_or hs j d) k) ∙ ap (λ q. is_place_of g q k) (sym (take_one hs j d l)))
