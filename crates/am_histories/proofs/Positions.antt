-- Places in a list of ids without repeats.
use Rattle.std.proofs.Common.{ℕ, suc, get_or, ◌≡◌, ◌+◌, ◌<◌, List, [], ◌∷◌, ◌++◌, true, false, refl, sym, ap, ◌∙◌, subst, inl, inr, Contains, IsPermutation, arith}
use Rattle.std.specs.Cmp.{IsTotalOrder}
use Rattle.std.specs.List.{position_or_len}
use Rattle.std.specs.Ordering.{is_gt, nat_cmp, on}
use Rattle.std.specs.declared.cmp.Ordering.{Ordering}
use Rattle.std.specs.declared.cmp.Ordering.TheVariants.{Less, Equal}
use Rattle.std.proofs.lemmas.Bool.{cases_Bool, both_ways, false_from_ne_true, lt-ltb}
use Rattle.std.proofs.lemmas.Cmp.{nat_cmp_total, on_total}
use Rattle.std.proofs.lemmas.List.{append_assoc}
use Rattle.std.proofs.lemmas.List.Elements.{recursion_from_All, Contains-append_right}
use Rattle.std.proofs.lemmas.List.Sorted.{Contains-permutation}
use Rattle.std.proofs.lemmas.Map.Lookups.{exact_unsigned}
use Rattle.am_types.specs.declared.OpId.{OpId}
use Rattle.am_types.specs.Same.{same_id}
use Rattle.am_types.proofs.Lists.{all_of}
use Rattle.am_types.proofs.Orders.{same_id-true, same_id_itself}
use Rattle.am_types.proofs.Rising.{Rises, sorted_by-rising}
use Rattle.am_laws.proofs.SameMembers.{NoRepeat}
use Rattle.am_types.proofs.Sorting.{sorted_by-permutation}
use Rattle.am_histories.proofs.Sorted.{Contains-cases, Contains-here, Contains-there, Contains-none}

abbrev pub place_of : List OpId → OpId → ℕ
place_of fs e = position_or_len (same_id e) fs

at_first : (i f : OpId) (fs : List OpId) → same_id i f ≡ true → place_of (f ∷ fs) i ≡ 0
at_first i f fs t = simp t refl

past_first : (i f : OpId) (fs : List OpId) → same_id i f ≡ false → place_of (f ∷ fs) i ≡ 1 + place_of fs i
past_first i f fs t = simp t refl

same_false : (a b : OpId) → (a ≡ b → ⊥) → same_id a b ≡ false
same_false a b n = false_from_ne_true _ (λ t. n (same_id-true a b t))

-- what stands before b has a lesser place
pub ahead : (xs ys : List OpId) (a b : OpId) → Contains xs a → (Contains xs b → ⊥) → place_of (xs ++ b ∷ ys) a < place_of (xs ++ b ∷ ys) b
ahead [] ys a b c n = absurd (Contains-none a c)
ahead (x ∷ xs) ys a b c n =
    let again : Contains xs a → place_of (xs ++ b ∷ ys) a < place_of (xs ++ b ∷ ys) b = λ d. ahead xs ys a b d (λ e. n (Contains-there x b xs e)) in
    let q = past_first b x (xs ++ b ∷ ys) (same_false b x (λ e. n (subst (Contains (x ∷ xs)) (sym e) (Contains-here x xs)))) in
    elim (cases_Bool (same_id a x)) [
      | inl s ↦ let p = at_first a x (xs ++ b ∷ ys) s in omega arith
      | inr s ↦
          let p = past_first a x (xs ++ b ∷ ys) s in
          let r = again (elim (Contains-cases x a xs c) [
            | inl e ↦ absurd (both_ways (same_id a x) s (subst (λ i. same_id a i ≡ true) (sym e) (same_id_itself a)))
            | inr d ↦ d
          ]) in
          omega arith
    ]

pub none_before : (xs ys : List OpId) (b : OpId) → NoRepeat (xs ++ b ∷ ys) → Contains xs b → ⊥
none_before [] ys b n c = Contains-none b c
none_before (x ∷ xs) ys b n c = elim (Contains-cases x b xs c) [
  | inl e ↦ n.0 (subst (Contains (xs ++ b ∷ ys)) (sym e) (Contains-append_right xs (b ∷ ys) b (Contains-here b ys)))
  | inr d ↦ none_before xs ys b n.1 d
]

found_at : (fs : List OpId) (a d : OpId) → Contains fs a → get_or fs (place_of fs a) d ≡ a
found_at [] a d c = absurd (Contains-none a c)
found_at (f ∷ fs) a d c =
    let again : Contains fs a → get_or fs (place_of fs a) d ≡ a = found_at fs a d in
    let more : 1 + place_of fs a ≡ suc (place_of fs a) = omega arith in
    elim (cases_Bool (same_id a f)) [
      | inl s ↦ ap (λ k. get_or (f ∷ fs) k d) (at_first a f fs s) ∙ sym (same_id-true a f s)
      | inr s ↦ ap (λ k. get_or (f ∷ fs) k d) (past_first a f fs s ∙ more) ∙ again (elim (Contains-cases f a fs c) [
        | inl e ↦ absurd (both_ways (same_id a f) s (subst (λ i. same_id a i ≡ true) (sym e) (same_id_itself a)))
        | inr e ↦ e
      ])
    ]

-- one place, one id
pub place_exact : (fs : List OpId) (a b : OpId) → Contains fs a → Contains fs b → place_of fs a ≡ place_of fs b → a ≡ b
place_exact fs a b c d e = sym (found_at fs a a c) ∙ ap (λ k. get_or fs k a) e ∙ found_at fs b a d

-- ---- the order of places

abbrev pub by_place : List OpId → OpId → OpId → Ordering
by_place fs = on (place_of fs) nat_cmp

pub by_place-total : (fs : List OpId) → IsTotalOrder (by_place fs)
by_place-total fs = on_total (place_of fs) nat_cmp_total

pub less_is : (a b : ℕ) → a < b → nat_cmp a b ≡ Less
less_is a b l = let t = lt-ltb a b l in simp t refl

split_ids : (E : List OpId) (x : OpId) → Contains E x → (P : List OpId) × (S : List OpId) × (E ≡ P ++ x ∷ S)
split_ids [] x c = absurd (Contains-none x c)
split_ids (y ∷ E) x c =
    let again : Contains E x → (P : List OpId) × (S : List OpId) × (E ≡ P ++ x ∷ S) = split_ids E x in
    elim (Contains-cases y x E c) [
      | inl e ↦ ([], E, ap (λ z. z ∷ E) e)
      | inr d ↦ let r = again d in (y ∷ r.0, r.1, ap (λ l. y ∷ l) r.2)
    ]

later : (fs : List OpId) → NoRepeat fs → (xs ys : List OpId) (a b : OpId) → fs ≡ xs ++ a ∷ ys → Contains ys b → is_gt (by_place fs a b) ≡ false
later fs n xs ys a b w c =
    let s = split_ids ys b c in
    let front : List OpId = xs ++ a ∷ s.0 in
    let whole : fs ≡ front ++ b ∷ s.1 = w ∙ ap (λ l. xs ++ a ∷ l) s.2 ∙ sym (append_assoc xs (a ∷ s.0) (b ∷ s.1)) in
    let l : place_of fs a < place_of fs b = subst (λ l. place_of l a < place_of l b) (sym whole)
    (ahead front s.1 a b (Contains-append_right xs (a ∷ s.0) a (Contains-here a s.0)) (none_before front s.1 b (subst NoRepeat whole n))) in
    ap is_gt (less_is (place_of fs a) (place_of fs b) l)

rises_from : (fs : List OpId) → NoRepeat fs → (xs rest : List OpId) → fs ≡ xs ++ rest → Rises (by_place-total fs) rest
rises_from fs n xs [] w = tt
rises_from fs n xs (a ∷ rest) w = (
  recursion_from_All (λ b. is_gt (by_place fs a b) ≡ false) rest (all_of (λ b. is_gt (by_place fs a b) ≡ false) rest (λ b c. later fs n xs rest a b w c)),
  rises_from fs n (xs ++ a ∷ []) rest (w ∙ sym (append_assoc xs (a ∷ []) rest)),
)

tied_is : (a b : ℕ) → nat_cmp a b ≡ Equal → a ≡ b
tied_is a b e = exact_unsigned a b e

-- ids of fs, each once, that rise by their places in fs are fs
pub rising_is : (fs is : List OpId) → NoRepeat fs → IsPermutation is fs → Rises (by_place-total fs) is → is ≡ fs
rising_is fs is n p r =
    let within : (i : OpId) → Contains is i → Contains fs i = λ i c. Contains-permutation is fs i p c in
    sym (sorted_by-rising (by_place-total fs) is r)
    ∙ sym (sorted_by-permutation (by_place-total fs) (Contains fs) (λ a b c d e. place_exact fs a b c d (tied_is _ _ e)) is fs (all_of (Contains fs) is within) p)
    ∙ sorted_by-rising (by_place-total fs) fs (rises_from fs n [] fs refl)
