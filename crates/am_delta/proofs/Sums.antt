-- Sums of differences: along equal ones, between bounds, and where a cursor skips.
use Rattle.std.proofs.Common.{◌≡◌, ℕ, suc, zero, ◌≤◌, ◌-◌, ◌+◌, List, [], ◌∷◌, ◌++◌, length, take, drop, Bool, ◌↔◌, ◌⊎◌, inl, inr, ⊎_elim, Option, Some, None, ℤ, pos, negsuc, ◌+ℤ◌, ◌*ℤ◌, ◌≤ℤ◌, refl, sym, ap, ◌∙◌, subst, arith, rules, FitsSigned, w64}
use mir.Val.{to_z, of_z}
use Rattle.std.specs.Prelude.{replicate}
use Rattle.std.specs.Bool.{IsTrue}
use Rattle.std.proofs.Math.IntN.{suc_ℤ-*ℤ, *ℤ_comm, *ℤ-zero}
use Rattle.std.proofs.lemmas.List.{take-append-drop, length-replicate, drop_at, drop-drop}
use Rattle.std.specs.List.{AllByRecursion}
use Rattle.std.proofs.lemmas.Int.{ints, to_z-of_z}
use Rattle.am_delta.specs.Deltas.{sums_from, sum_after, AllBetween, AllFit}

pub length-sums : (sum : ℤ) (list : List (Option ℤ)) → length (sums_from sum list) ≡ length list
length-sums sum [] = refl
length-sums sum (None ∷ list) = ap suc (length-sums sum list)
length-sums sum (Some d ∷ list) = ap suc (length-sums (sum +ℤ d) list)

pub fits_between : (low high z : ℤ) → FitsSigned w64 low → FitsSigned w64 high → low ≤ℤ z → z ≤ℤ high → FitsSigned w64 z
fits_between low high z f g p q = search (arith, ints, rules)

pub AllFit-from_between : (low high : ℤ) (values : List (Option ℤ)) → FitsSigned w64 low → FitsSigned w64 high → AllBetween low high values → AllFit values
AllFit-from_between low high [] f g h = tt
AllFit-from_between low high (None ∷ values) f g h = (tt, AllFit-from_between low high values f g h.1)
AllFit-from_between low high (Some z ∷ values) f g h = (fits_between low high z f g h.0.0 h.0.1, AllFit-from_between low high values f g h.1)

pub fits_first : (value d : ℤ) (list rest : List (Option ℤ)) → list ≡ Some d ∷ rest → AllFit (sums_from value list) → FitsSigned w64 (value +ℤ d)
fits_first value d list rest e h =
    let w : AllFit (sums_from value (Some d ∷ rest)) = subst (λ l. AllFit (sums_from value l)) e h in w.0

-- the call's numbers as they were passed
pub as_passed : (r : Bool) (low high : ℤ) (a b : List (Option ℤ)) → FitsSigned w64 low → FitsSigned w64 high → a ≡ b
    → (IsTrue r ↔ AllBetween (to_z w64 (of_z w64 low)) (to_z w64 (of_z w64 high)) (sums_from (pos 0) a))
    → (IsTrue r ↔ AllBetween low high (sums_from (pos 0) b))
as_passed r low high a b f g e h =
    subst (λ l. IsTrue r ↔ AllBetween low high (sums_from (pos 0) l)) e
    (subst (λ y. IsTrue r ↔ AllBetween low y (sums_from (pos 0) a)) (to_z-of_z w64 high g)
    (subst (λ y. IsTrue r ↔ AllBetween y (to_z w64 (of_z w64 high)) (sums_from (pos 0) a)) (to_z-of_z w64 low f) h))

-- ---- along equal differences

pub way-suc : (k : ℕ) (d : ℤ) → pos (suc k) *ℤ d ≡ d +ℤ pos k *ℤ d
way-suc k d = let e : pos (suc k) *ℤ d ≡ pos k *ℤ d +ℤ d = suc_ℤ-*ℤ (pos k) d in omega (arith, ints, e)

pub way-none : (d : ℤ) → pos 0 *ℤ d ≡ pos 0
way-none d = *ℤ_comm (pos 0) d ∙ *ℤ-zero d

sign : (k : ℕ) (d : ℤ) → ((pos 0 ≤ℤ d) × (pos 0 ≤ℤ (pos k *ℤ d))) ⊎ ((d ≤ℤ pos 0) × ((pos k *ℤ d) ≤ℤ pos 0))
sign k (pos n) = inl (omega (arith, ints), up k)
  where
    up : (k : ℕ) → pos 0 ≤ℤ (pos k *ℤ pos n)
    up zero = omega (arith, ints, way-none (pos n))
    up (suc k) = omega (arith, ints, way-suc k (pos n), up k)
sign k (negsuc n) = inr (omega (arith, ints), down k)
  where
    down : (k : ℕ) → (pos k *ℤ negsuc n) ≤ℤ pos 0
    down zero = omega (arith, ints, way-none (negsuc n))
    down (suc k) = omega (arith, ints, way-suc k (negsuc n), down k)

-- the value after n of the differences
pub sums-append : (value d : ℤ) (k : ℕ) (rest : List (Option ℤ)) → sums_from value (replicate k (Some d) ++ rest) ≡ sums_from value (replicate k (Some d)) ++ sums_from (value +ℤ pos k *ℤ d) rest
sums-append value d zero rest = ap (λ v. sums_from v rest) (let e : value ≡ value +ℤ pos 0 *ℤ d = omega (arith, ints, way-none d) in e)
sums-append value d (suc k) rest = ap (λ l. Some (value +ℤ d) ∷ l) (sums-append (value +ℤ d) d k rest
    ∙ ap (λ v. sums_from (value +ℤ d) (replicate k (Some d)) ++ sums_from v rest) (let e : value +ℤ d +ℤ pos k *ℤ d ≡ value +ℤ pos (suc k) *ℤ d = omega (arith, ints, way-suc k d) in e))

pub sums-nulls : (value : ℤ) (k : ℕ) (rest : List (Option ℤ)) → sums_from value (replicate k None ++ rest) ≡ replicate k None ++ sums_from value rest
sums-nulls value zero rest = refl
sums-nulls value (suc k) rest = ap (λ l. None ∷ l) (sums-nulls value k rest)

-- the two ends decide
pub ends_between : (low high value d : ℤ) (k : ℕ) → 1 ≤ k → (low ≤ℤ (value +ℤ d)) × ((value +ℤ d) ≤ℤ high) → (low ≤ℤ (value +ℤ pos k *ℤ d)) × ((value +ℤ pos k *ℤ d) ≤ℤ high) → AllBetween low high (sums_from value (replicate k (Some d)))
ends_between low high value d zero h p q = absurd (omega arith)
ends_between low high value d (suc zero) h p q = (p, tt)
ends_between low high value d (suc (suc k)) h p q =
    (p, ends_between low high (value +ℤ d) d (suc k) (omega arith) second last)
  where
    last : (low ≤ℤ (value +ℤ d +ℤ pos (suc k) *ℤ d)) × ((value +ℤ d +ℤ pos (suc k) *ℤ d) ≤ℤ high)
    last = (omega (arith, ints, q.0, way-suc (suc k) d), omega (arith, ints, q.1, way-suc (suc k) d))

    second : (low ≤ℤ (value +ℤ d +ℤ d)) × ((value +ℤ d +ℤ d) ≤ℤ high)
    second = ⊎_elim
        (λ s. (omega (arith, ints, p.0, s.0), omega (arith, ints, q.1, s.1, way-suc (suc k) d, way-suc k d)))
        (λ s. (omega (arith, ints, q.0, s.1, way-suc (suc k) d, way-suc k d), omega (arith, ints, p.1, s.0)))
        (sign k d)

pub between_ends : (low high value d : ℤ) (k : ℕ) → 1 ≤ k → AllBetween low high (sums_from value (replicate k (Some d))) → ((low ≤ℤ (value +ℤ d)) × ((value +ℤ d) ≤ℤ high)) × ((low ≤ℤ (value +ℤ pos k *ℤ d)) × ((value +ℤ pos k *ℤ d) ≤ℤ high))
between_ends low high value d zero h b = absurd (omega arith)
between_ends low high value d (suc zero) h b = (b.0, (omega (arith, ints, b.0.0, way-suc zero d, way-none d), omega (arith, ints, b.0.1, way-suc zero d, way-none d)))
between_ends low high value d (suc (suc k)) h b =
    let w = between_ends low high (value +ℤ d) d (suc k) (omega arith) b.1 in
    (b.0, (omega (arith, ints, w.1.0, way-suc (suc k) d), omega (arith, ints, w.1.1, way-suc (suc k) d)))

pub ends-equal : (value : ℤ) (x : Option ℤ) (k : ℕ) (rest : List (Option ℤ)) → sums_from value (replicate k x ++ rest) ≡ sums_from value (replicate k x) ++ sums_from (sum_after value x k) rest
ends-equal value (Some d) k rest = sums-append value d k rest
ends-equal value None zero rest = refl
ends-equal value None (suc k) rest = ap (λ l. None ∷ l) (ends-equal value None k rest)

pub all_left : (P : Option ℤ → Type 0) (xs ys : List (Option ℤ)) → AllByRecursion P (xs ++ ys) → AllByRecursion P xs × AllByRecursion P ys
all_left P [] ys h = (tt, h)
all_left P (x ∷ xs) ys h = let w = all_left P xs ys h.1 in ((h.0, w.0), w.1)

all_both : (P : Option ℤ → Type 0) (xs ys : List (Option ℤ)) → AllByRecursion P xs → AllByRecursion P ys → AllByRecursion P (xs ++ ys)
all_both P [] ys p q = q
all_both P (x ∷ xs) ys p q = (p.0, all_both P xs ys p.1 q)

pub nulls_between : (low high value : ℤ) (k : ℕ) → AllBetween low high (sums_from value (replicate k None))
nulls_between low high value zero = tt
nulls_between low high value (suc k) = (tt, nulls_between low high value k)

-- a list that begins with equal differences
pub past : (value : ℤ) (x : Option ℤ) (k : ℕ) (list : List (Option ℤ)) → take k list ≡ replicate k x → sums_from value list ≡ sums_from value (replicate k x) ++ sums_from (sum_after value x k) (drop k list)
past value x k list e = ap (sums_from value) (sym (take-append-drop k list) ∙ ap (λ l. l ++ drop k list) e) ∙ ends-equal value x k (drop k list)

pub past_equal : (low high value end : ℤ) (x : Option ℤ) (k : ℕ) (list : List (Option ℤ)) → end ≡ sum_after value x k → take k list ≡ replicate k x → AllBetween low high (sums_from value (replicate k x)) → AllBetween low high (sums_from end (drop k list)) ↔ AllBetween low high (sums_from value list)
past_equal low high value end x k list v e b =
    let s : sums_from value list ≡ sums_from value (replicate k x) ++ sums_from end (drop k list) = past value x k list e ∙ ap (λ y. sums_from value (replicate k x) ++ sums_from y (drop k list)) (sym v) in (
      λ h. subst (AllBetween low high) (sym s) (all_both _ (sums_from value (replicate k x)) _ b h),
      λ h. (all_left _ (sums_from value (replicate k x)) _ (subst (AllBetween low high) s h)).1,
    )

pub front_between : (low high value : ℤ) (x : Option ℤ) (k : ℕ) (list : List (Option ℤ)) → take k list ≡ replicate k x → AllBetween low high (sums_from value list) → AllBetween low high (sums_from value (replicate k x))
front_between low high value x k list e h = (all_left _ (sums_from value (replicate k x)) _ (subst (AllBetween low high) (past value x k list e) h)).0

pub alike_taken : (k : ℕ) (x : Option ℤ) (list rest : List (Option ℤ)) → list ≡ replicate k x ++ rest → (take k list ≡ replicate k x) × (drop k list ≡ rest)
alike_taken zero x list rest e = (refl, e)
alike_taken (suc k) x [] rest e = absurd (cc)
alike_taken (suc k) x (y ∷ list) rest e =
    let q : y ≡ x = cc in
    let t : list ≡ replicate k x ++ rest = cc in
    let w = alike_taken k x list rest t in
    (ap (λ l. y ∷ l) w.0 ∙ ap (λ z. z ∷ replicate k x) q, w.1)

-- ---- for `skip`

pub take_fewer : (j k : ℕ) (x : Option ℤ) (list : List (Option ℤ)) → j ≤ k → take k list ≡ replicate k x → take j list ≡ replicate j x
take_fewer zero k x list h e = refl
take_fewer (suc j) zero x list h e = absurd (omega arith)
take_fewer (suc j) (suc k) x [] h e = absurd (cc)
take_fewer (suc j) (suc k) x (y ∷ list) h e =
    let q : y ≡ x = cc in
    let t : take k list ≡ replicate k x = cc in
    ap (λ l. y ∷ l) (take_fewer j k x list (omega arith) t) ∙ ap (λ z. z ∷ replicate j x) q

pub fits_last : (value d : ℤ) (j : ℕ) → AllFit (sums_from value (replicate (suc j) (Some d))) → FitsSigned w64 (value +ℤ pos (suc j) *ℤ d)
fits_last value d zero h = subst (FitsSigned w64) (let e : value +ℤ d ≡ value +ℤ pos 1 *ℤ d = omega (arith, ints, way-suc zero d, way-none d) in e) h.0
fits_last value d (suc j) h = subst (FitsSigned w64) (let e : value +ℤ d +ℤ pos (suc j) *ℤ d ≡ value +ℤ pos (suc (suc j)) *ℤ d = omega (arith, ints, way-suc (suc j) d) in e) (fits_last (value +ℤ d) d j h.1)

pub fits_after : (value : ℤ) (x : Option ℤ) (j k : ℕ) (list : List (Option ℤ)) → 1 ≤ j → j ≤ k → FitsSigned w64 value → take k list ≡ replicate k x → AllFit (sums_from value list) → FitsSigned w64 (sum_after value x j)
fits_after value None j k list g h f e a = f
fits_after value (Some d) zero k list g h f e a = absurd (omega arith)
fits_after value (Some d) (suc j) k list g h f e a = fits_last value d j (all_left _ (sums_from value (replicate (suc j) (Some d))) _ (subst AllFit (past value (Some d) (suc j) list (take_fewer (suc j) k (Some d) list h e)) a)).0

pub skips : (value end start : ℤ) (x : Option ℤ) (j k n all : ℕ) (list first : List (Option ℤ)) → end ≡ sum_after value x j → j ≤ k → j ≤ n → take k list ≡ replicate k x → AllFit (sums_from value list) → drop n (sums_from value list) ≡ drop all (sums_from start first)
    → AllFit (sums_from end (drop j list)) × (drop (n - j) (sums_from end (drop j list)) ≡ drop all (sums_from start first))
skips value end start x j k n all list first v h g e a d =
    let t = take_fewer j k x list h e in
    let s : sums_from value list ≡ sums_from value (replicate j x) ++ sums_from end (drop j list) = past value x j list t ∙ ap (λ y. sums_from value (replicate j x) ++ sums_from y (drop j list)) (sym v) in
    let size : length (sums_from value (replicate j x)) ≡ j = length-sums value (replicate j x) ∙ length-replicate {A = Option ℤ} j x in
    let rest : drop j (sums_from value list) ≡ sums_from end (drop j list) = ap (drop j) s ∙ drop_at (sums_from value (replicate j x)) (sums_from end (drop j list)) j size in (
      (all_left _ (sums_from value (replicate j x)) _ (subst AllFit s a)).1,
      ap (drop (n - j)) (sym rest) ∙ drop-drop (n - j) j (sums_from value list) ∙ ap (λ m. drop m (sums_from value list)) (let q : j + (n - j) ≡ n = omega arith in q) ∙ d,
    )

-- ---- for the code

pub first_none : (low high value d : ℤ) (k : ℕ) → 1 ≤ k → (low ≤ℤ (value +ℤ pos 1 *ℤ d) → (value +ℤ pos 1 *ℤ d) ≤ℤ high → ⊥) → AllBetween low high (sums_from value (replicate k (Some d))) → ⊥
first_none low high value d k h f b = let w = between_ends low high value d k h b in f (omega (arith, ints, w.0.0, way-suc zero d, way-none d)) (omega (arith, ints, w.0.1, way-suc zero d, way-none d))

pub last_none : (low high value d : ℤ) (k : ℕ) → 1 ≤ k → (low ≤ℤ (value +ℤ pos k *ℤ d) → (value +ℤ pos k *ℤ d) ≤ℤ high → ⊥) → AllBetween low high (sums_from value (replicate k (Some d))) → ⊥
last_none low high value d k h f b = let w = between_ends low high value d k h b in f w.1.0 w.1.1

pub both_ends : (low high value d one end : ℤ) (k : ℕ) → 1 ≤ k → one ≡ value +ℤ pos 1 *ℤ d → low ≤ℤ one → one ≤ℤ high → end ≡ value +ℤ pos k *ℤ d → low ≤ℤ end → end ≤ℤ high → AllBetween low high (sums_from value (replicate k (Some d)))
both_ends low high value d one end k h v p q w r s = ends_between low high value d k h
    (omega (arith, ints, v, p, way-suc zero d, way-none d), omega (arith, ints, v, q, way-suc zero d, way-none d))
    (omega (arith, ints, w, r), omega (arith, ints, w, s))

abbrev pub passed : ℤ → ℤ
passed z = to_z w64 (of_z w64 z)

-- what holds of numbers as they were passed holds of them
pub as_given : (P : ℤ → ℤ → ℤ → ℤ → Type 0) (value d low high : ℤ) → FitsSigned w64 value → FitsSigned w64 d → FitsSigned w64 low → FitsSigned w64 high → P (passed value) (passed d) (passed low) (passed high) → P value d low high
as_given P value d low high f g h i p =
    subst (λ x. P x d low high) (to_z-of_z w64 value f)
    (subst (λ x. P (passed value) x low high) (to_z-of_z w64 d g)
    (subst (λ x. P (passed value) (passed d) x high) (to_z-of_z w64 low h)
    (subst (λ x. P (passed value) (passed d) (passed low) x) (to_z-of_z w64 high i) p)))

pub all_null : (low high : ℤ) (k : ℕ) → AllBetween low high (replicate k None)
all_null low high zero = tt
all_null low high (suc k) = (tt, all_null low high k)

pub no_sums : (low high value : ℤ) (d : Option ℤ) (k : ℕ) → k ≤ 0 → AllBetween low high (sums_from value (replicate k d))
no_sums low high value d zero h = tt
no_sums low high value d (suc k) h = absurd (omega arith)
