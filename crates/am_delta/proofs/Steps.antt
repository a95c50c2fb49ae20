-- Values that rise alike: what a cursor hands out of them, and what a writer holds behind them.
use Rattle.std.proofs.Common.{◌≡◌, ℕ, suc, zero, ◌-◌, ◌+◌, ◌≤◌, ◌^◌, List, [], ◌∷◌, ◌++◌, length, map, Bool, false, Option, Some, None, ℤ, pos, ◌+ℤ◌, ◌*ℤ◌, refl, sym, ap, ◌∙◌, subst, arith, append_assoc, FitsSigned, w64}
use Rattle.std.specs.Prelude.{replicate, Result, Ok, Err, OnOk}
use Rattle.std.specs.Option.{IfSome, IfNone, option_map}
use Rattle.std.proofs.lemmas.Int.{ints}
use Rattle.std.proofs.lemmas.List.{length-map, length-replicate}
use Rattle.am_leb.specs.Leb.{leb, signed_value}
use Rattle.am_runs.specs.Typed.{signed_numbers}
use Rattle.am_runs.proofs.Spelled.{map_replicate}
use Rattle.am_delta.specs.Deltas.{sums_from, sum_after, last_from, AllBetween, AllFit, IsMiddling, AreMiddling, stretch, steps, values_of, values_written, IfHeld, IsSumming}
use Rattle.am_delta.proofs.Sums.{way-suc, way-none, ends-equal, sums-nulls, all_left, fits_last, length-sums}
use Rattle.am_delta.proofs.Writing.{value_back, last_push, written_is, open_summing}

-- ---- what a cursor hands out

one_less : (value d first : ℤ) (j : ℕ) → first ≡ value +ℤ d → value +ℤ pos (suc j) *ℤ d ≡ first +ℤ pos j *ℤ d
one_less value d first j f = omega (arith, ints, f, way-suc j d)

-- the sums behind equal differences
behind_equal : (value : ℤ) (x : Option ℤ) (k : ℕ) (list new : List (Option ℤ)) → list ≡ replicate k x ++ new → sums_from value list ≡ sums_from value (replicate k x) ++ sums_from (sum_after value x k) new
behind_equal value x k list new e = ap (sums_from value) e ∙ ends-equal value x k new

fit_both : (value : ℤ) (x : Option ℤ) (k : ℕ) (list new : List (Option ℤ)) → list ≡ replicate k x ++ new → AllFit (sums_from value list) → AllFit (sums_from value (replicate k x)) × AllFit (sums_from (sum_after value x k) new)
fit_both value x k list new e h = all_left _ (sums_from value (replicate k x)) _ (subst AllFit (behind_equal value x k list new e) h)

pub fit_behind_nulls : (value : ℤ) (x : Option ℤ) (k : ℕ) (list new : List (Option ℤ)) → x ≡ None → list ≡ replicate k x ++ new → AllFit (sums_from value list) → AllFit (sums_from value new)
fit_behind_nulls value None k list new i e h = (fit_both value None k list new e h).1
fit_behind_nulls value (Some d) k list new i e h = absurd (cc)

pub nulls_shown : (value : ℤ) (x : Option ℤ) (k : ℕ) (list new : List (Option ℤ)) → x ≡ None → list ≡ replicate k x ++ new → sums_from value list ≡ replicate k None ++ sums_from value new
nulls_shown value None k list new i e = ap (sums_from value) e ∙ sums-nulls value k new
nulls_shown value (Some d) k list new i e = absurd (cc)

pub fits_at_end : (value d first : ℤ) (x : Option ℤ) (k : ℕ) (list new : List (Option ℤ)) → x ≡ Some d → 1 ≤ k → first ≡ value +ℤ d → list ≡ replicate k x ++ new → AllFit (sums_from value list) → FitsSigned w64 (first +ℤ pos (k - 1) *ℤ d)
fits_at_end value d first x zero list new i l f e h = absurd (omega arith)
fits_at_end value d first x (suc j) list new i l f e h =
    let both = fit_both value (Some d) (suc j) list new (e ∙ ap (λ y. replicate (suc j) y ++ new) i) h in
    let less : suc j - 1 ≡ j = omega arith in
    subst (λ m. FitsSigned w64 (first +ℤ pos m *ℤ d)) (sym less) (subst (FitsSigned w64) (one_less value d first j f) (fits_last value d j both.0))

pub fit_behind_steps : (value d first end : ℤ) (x : Option ℤ) (k : ℕ) (list new : List (Option ℤ)) → x ≡ Some d → 1 ≤ k → first ≡ value +ℤ d → end ≡ first +ℤ pos (k - 1) *ℤ d → list ≡ replicate k x ++ new → AllFit (sums_from value list) → AllFit (sums_from end new)
fit_behind_steps value d first end x zero list new i l f n e h = absurd (omega arith)
fit_behind_steps value d first end x (suc j) list new i l f n e h =
    let both = fit_both value (Some d) (suc j) list new (e ∙ ap (λ y. replicate (suc j) y ++ new) i) h in
    let less : suc j - 1 ≡ j = omega arith in
    subst (λ v. AllFit (sums_from v new)) (one_less value d first j f ∙ sym (n ∙ ap (λ m. first +ℤ pos m *ℤ d) less)) both.1

pub steps_shown : (value d first end : ℤ) (x : Option ℤ) (k : ℕ) (list new : List (Option ℤ)) → x ≡ Some d → 1 ≤ k → first ≡ value +ℤ d → end ≡ first +ℤ pos (k - 1) *ℤ d → list ≡ replicate k x ++ new → sums_from value list ≡ Some first ∷ (sums_from first (replicate (k - 1) (Some d)) ++ sums_from end new)
steps_shown value d first end x zero list new i l f n e = absurd (omega arith)
steps_shown value d first end x (suc j) list new i l f n e =
    let less : suc j - 1 ≡ j = omega arith in
    let last : first +ℤ pos j *ℤ d ≡ end = sym (n ∙ ap (λ m. first +ℤ pos m *ℤ d) less) in
    ap (sums_from value) (e ∙ ap (λ y. replicate (suc j) y ++ new) i)
    ∙ ap (λ v. Some v ∷ sums_from v (replicate j (Some d) ++ new)) (sym f)
    ∙ ap (λ l. Some first ∷ l) (ends-equal first (Some d) j new ∙ ap (λ v. sums_from first (replicate j (Some d)) ++ sums_from v new) last)
    ∙ ap (λ m. Some first ∷ (sums_from first (replicate m (Some d)) ++ sums_from end new)) (sym less)

-- ---- what a writer holds

pub numbers_both : (xs ys : List (Option (List ℕ))) → signed_numbers (xs ++ ys) ≡ signed_numbers xs ++ signed_numbers ys
numbers_both [] ys = refl
numbers_both (x ∷ xs) ys = ap (λ l. option_map signed_value x ∷ l) (numbers_both xs ys)

pub spellings_both : (xs ys : List (Option ℤ)) → map (option_map leb) (xs ++ ys) ≡ map (option_map leb) xs ++ map (option_map leb) ys
spellings_both [] ys = refl
spellings_both (x ∷ xs) ys = ap (λ l. option_map leb x ∷ l) (spellings_both xs ys)

numbers_more : (list : List (Option (List ℕ))) (d : Option ℤ) (k : ℕ) → signed_numbers (list ++ replicate k (option_map leb d)) ≡ signed_numbers list ++ replicate k d
numbers_more list d k =
    numbers_both list (replicate k (option_map leb d))
    ∙ ap (λ l. signed_numbers list ++ l) (map_replicate (option_map signed_value) k (option_map leb d) ∙ ap (replicate k) (value_back d))

pub sums_more : (sum : ℤ) (ds es : List (Option ℤ)) → sums_from sum (ds ++ es) ≡ sums_from sum ds ++ sums_from (last_from sum (sums_from sum ds)) es
sums_more sum [] es = refl
sums_more sum (None ∷ ds) es = ap (λ l. None ∷ l) (sums_more sum ds es)
sums_more sum (Some d ∷ ds) es = ap (λ l. Some (sum +ℤ d) ∷ l) (sums_more (sum +ℤ d) ds es)

pub last_more : (last : ℤ) (xs ys : List (Option ℤ)) → last_from last (xs ++ ys) ≡ last_from (last_from last xs) ys
last_more last [] ys = refl
last_more last (None ∷ xs) ys = last_more last xs ys
last_more last (Some v ∷ xs) ys = last_more v xs ys

pub last_steps : (last : ℤ) (d : Option ℤ) (k : ℕ) → last_from last (sums_from last (replicate k d)) ≡ sum_after last d k
last_steps last None zero = refl
last_steps last None (suc k) = last_steps last None k
last_steps last (Some d) zero = let e : last ≡ last +ℤ pos 0 *ℤ d = omega (arith, ints, way-none d) in e
last_steps last (Some d) (suc k) = last_steps (last +ℤ d) (Some d) k ∙ sym (one_less last d (last +ℤ d) k refl)

pub last_middling : (last : ℤ) (values : List (Option ℤ)) → IsMiddling last → AreMiddling values → IsMiddling (last_from last values)
last_middling last [] h a = h
last_middling last (None ∷ values) h a = last_middling last values h a.1
last_middling last (Some v ∷ values) h a = last_middling v values a.0 a.1

after_middling : (last : ℤ) (d : Option ℤ) (k : ℕ) → IsMiddling last → AreMiddling (sums_from last (replicate k d)) → IsMiddling (sum_after last d k)
after_middling last d k h a = subst IsMiddling (last_steps last d k) (last_middling last _ h a)

pub room_more : (failed : Bool) (list : Option (List (Option (List ℕ)))) (value : Option (List (Option ℤ))) (k : ℕ) → failed ≡ false → values_written failed list ≡ value → IfSome value (λ l. length l + k ≤ 2 ^ 32) → IfSome list (λ l. length l + k ≤ 2 ^ 32)
room_more failed None value k f e r = tt
room_more failed (Some l) value k f e r =
    let s : length (values_of l) + k ≤ 2 ^ 32 = subst (λ v. IfSome v (λ l. length l + k ≤ 2 ^ 32)) (sym (written_is failed (Some l) value f e)) r in
    omega (arith, s, length-sums (pos 0) (signed_numbers l), length-map l (option_map signed_value))

pub after_last : (failed : Bool) (list : Option (List (Option (List ℕ)))) (last : ℤ) (shown : Option (List (Option ℤ))) (d : Option ℤ) (k : ℕ) → failed ≡ false → IsSumming failed list last → values_written failed list ≡ shown → IfSome shown (λ l. AreMiddling (steps l d k)) → IsMiddling (sum_after last d k)
after_last failed None last shown d k f w e m = absurd (open_summing failed None last f w).1
after_last failed (Some l) last shown d k f w e m =
    let o = open_summing failed (Some l) last f w in
    let s : AreMiddling (steps (values_of l) d k) = subst (λ v. IfSome v (λ l. AreMiddling (steps l d k))) (sym (written_is failed (Some l) shown f e)) m in
    after_middling last d k o.0 (subst (λ z. AreMiddling (sums_from z (replicate k d))) (sym o.1.1) s)

spelled_more : (l : List (Option (List ℕ))) (d : Option ℤ) (k : ℕ) → l ≡ map (option_map leb) (signed_numbers l) → l ++ replicate k (option_map leb d) ≡ map (option_map leb) (signed_numbers (l ++ replicate k (option_map leb d)))
spelled_more l d k e =
    ap (λ x. x ++ replicate k (option_map leb d)) e
    ∙ ap (λ x. map (option_map leb) (signed_numbers l) ++ x) (sym (map_replicate (option_map leb) k d))
    ∙ sym (spellings_both (signed_numbers l) (replicate k d))
    ∙ ap (map (option_map leb)) (sym (numbers_more l d k))

pub stepped : (failed : Bool) (list new : Option (List (Option (List ℕ)))) (last next : ℤ) (shown : Option (List (Option ℤ))) (d : Option ℤ) (k : ℕ) → failed ≡ false → IsSumming failed list last → values_written failed list ≡ shown → IfSome shown (λ l. AreMiddling (steps l d k)) → next ≡ sum_after last d k
    → IfSome list (λ l. new ≡ Some (l ++ replicate k (option_map leb d))) → IsSumming false new next × IfSome shown (λ l. values_written false new ≡ Some (l ++ steps l d k))
stepped failed None new last next shown d k f w e m n p = absurd (open_summing failed None last f w).1
stepped failed (Some l) new last next shown d k f w e m n p =
    let o = open_summing failed (Some l) last f w in
    let values : values_of (l ++ replicate k (option_map leb d)) ≡ values_of l ++ steps (values_of l) d k = ap (sums_from (pos 0)) (numbers_more l d k) ∙ sums_more (pos 0) (signed_numbers l) (replicate k d) in
    let last_is : next ≡ last_from (pos 0) (values_of (l ++ replicate k (option_map leb d))) =
    n ∙ ap (λ z. sum_after z d k) o.1.1 ∙ sym (last_steps (last_from (pos 0) (values_of l)) d k) ∙ sym (last_more (pos 0) (values_of l) (steps (values_of l) d k)) ∙ ap (last_from (pos 0)) (sym values) in (
      (subst IsMiddling (sym n) (after_last failed (Some l) last shown d k f w e m), subst (λ x. IfHeld x (λ l. (l ≡ map (option_map leb) (signed_numbers l)) × (next ≡ last_from (pos 0) (values_of l)))) (sym p) (spelled_more l d k o.1.0, last_is)),
      subst (λ v. IfSome v (λ l. values_written false new ≡ Some (l ++ steps l d k))) (written_is failed (Some l) shown f e) (ap (option_map values_of) p ∙ ap Some values),
    )

-- ---- a stretch is a value, and steps behind it

sum_nulls : (value : ℤ) (k : ℕ) → sums_from value (replicate k None) ≡ replicate k None
sum_nulls value zero = refl
sum_nulls value (suc k) = ap (λ l. None ∷ l) (sum_nulls value k)

all_null : (k : ℕ) → AreMiddling (replicate k None)
all_null zero = tt
all_null (suc k) = (tt, all_null k)

pub nulls_middling : (self : Option (List (Option ℤ))) (k : ℕ) → IfSome self (λ list. AreMiddling (steps list None k))
nulls_middling None k = tt
nulls_middling (Some list) k = subst AreMiddling (sym (sum_nulls (last_from (pos 0) list) k)) (all_null k)

pub nulls_are_steps : {A E : Type 0} (r : Result A E) (new self : Option (List (Option ℤ))) (k : ℕ) → OnOk r (IfSome self (λ list. new ≡ Some (list ++ steps list None k))) → OnOk r (IfSome self (λ list. new ≡ Some (list ++ replicate k None)))
nulls_are_steps (Err e) new self k h = tt
nulls_are_steps (Ok x) new None k h = tt
nulls_are_steps (Ok x) new (Some list) k h = h ∙ ap (λ l. Some (list ++ l)) (sum_nulls (last_from (pos 0) list) k)

stretch_is : (list : List (Option ℤ)) (first d : Option ℤ) (k : ℕ) → 1 ≤ k → (first ≡ None → d ≡ None) → stretch first d k ≡ first ∷ steps (list ++ first ∷ []) d (k - 1)
stretch_is list None d zero l i = absurd (omega arith)
stretch_is list None d (suc k) l i =
    let less : suc k - 1 ≡ k = omega arith in
    ap (λ x. None ∷ x) (sym (sum_nulls (last_from (pos 0) (list ++ None ∷ [])) k) ∙ ap (λ x. steps (list ++ None ∷ []) x k) (sym (i refl)) ∙ ap (steps (list ++ None ∷ []) d) (sym less))
stretch_is list (Some v) d k l i = ap (λ z. Some v ∷ sums_from z (replicate (k - 1) d)) (sym (last_push (pos 0) list (Some v)))

pub length-stretch : (first d : Option ℤ) (k : ℕ) → 1 ≤ k → length (stretch first d k) ≡ k
length-stretch None d k l = length-replicate {A = Option ℤ} k None
length-stretch (Some v) d k l = omega (arith, length-sums v (replicate (k - 1) d), length-replicate {A = Option ℤ} (k - 1) d)

-- the first value is middling, and so are those behind it
pub first_middling : (first d : Option ℤ) (k : ℕ) → AreMiddling (stretch first d k) → IfSome first IsMiddling
first_middling None d k h = tt
first_middling (Some v) d k h = h.0

pub steps_middling : (self next : Option (List (Option ℤ))) (first d : Option ℤ) (k : ℕ) → 1 ≤ k → (first ≡ None → d ≡ None) → AreMiddling (stretch first d k) → IfNone self (next ≡ None) → IfSome self (λ list. next ≡ Some (list ++ first ∷ [])) → IfSome next (λ list. AreMiddling (steps list d (k - 1)))
steps_middling None next first d k l i h n p = subst (λ v. IfSome v (λ list. AreMiddling (steps list d (k - 1)))) (sym n) tt
steps_middling (Some list) next first d k l i h n p =
    let whole : AreMiddling (first ∷ steps (list ++ first ∷ []) d (k - 1)) = subst AreMiddling (stretch_is list first d k l i) h in
    subst (λ v. IfSome v (λ list. AreMiddling (steps list d (k - 1)))) (sym p) whole.1

pub stretched : (self next last : Option (List (Option ℤ))) (first d : Option ℤ) (k : ℕ) → 1 ≤ k → (first ≡ None → d ≡ None) → IfSome self (λ list. next ≡ Some (list ++ first ∷ [])) → IfSome next (λ list. last ≡ Some (list ++ steps list d (k - 1))) → IfSome self (λ list. last ≡ Some (list ++ stretch first d k))
stretched None next last first d k l i p q = tt
stretched (Some list) next last first d k l i p q =
    let all : last ≡ Some ((list ++ first ∷ []) ++ steps (list ++ first ∷ []) d (k - 1)) = subst (λ v. IfSome v (λ list. last ≡ Some (list ++ steps list d (k - 1)))) p q in
    all ∙ ap Some (append_assoc list (first ∷ []) (steps (list ++ first ∷ []) d (k - 1)) ∙ ap (λ x. list ++ x) (sym (stretch_is list first d k l i)))

-- ---- memory that was wanted

pub none_both : (self new : Option (List (Option ℤ))) (P : Type 0) → IfNone self ((new ≡ None) × P) → IfNone self (new ≡ None)
none_both None new P h = h.0
none_both (Some list) new P h = tt

-- ---- bounds of a cursor

pub between_middling : (low high : ℤ) (values : List (Option ℤ)) → IsMiddling low → IsMiddling high → AllBetween low high values → AreMiddling values
between_middling low high [] l h b = tt
between_middling low high (None ∷ values) l h b = (tt, between_middling low high values l h b.1)
between_middling low high (Some z ∷ values) l h b = ((omega (arith, ints, l.0, b.0.0), omega (arith, ints, h.1, b.0.1)), between_middling low high values l h b.1)
