-- Differences that are copied: the value behind them, and what a writer holds.
use Rattle.std.proofs.Common.{◌≡◌, ℕ, suc, zero, ◌-◌, ◌+◌, ◌<◌, ◌≤◌, ◌^◌, List, [], ◌∷◌, ◌++◌, length, take, drop, map, Bool, false, Option, Some, None, ℤ, pos, ◌+ℤ◌, refl, sym, ap, ◌∙◌, subst, arith, length-append}
use Rattle.std.specs.Prelude.{replicate}
use Rattle.std.specs.Option.{IfSome, IfNone, option_map}
use Rattle.std.proofs.lemmas.List.{length-replicate, length-take-le, take-append-drop}
use Rattle.std.proofs.Math.Seq.{take-append-add}
use Rattle.am_leb.specs.Leb.{leb}
use Rattle.am_runs.specs.Typed.{signed_numbers}
use Rattle.am_runs.specs.Apart.{Took}
use Rattle.am_runs.proofs.Parts.{all_behind}
use Rattle.am_delta.specs.Deltas.{sums_from, sum_after, last_from, IsMiddling, AreMiddling, values_of, values_written, IfHeld, IsSumming}
use Rattle.am_delta.proofs.Sums.{ends-equal, length-sums}
use Rattle.am_delta.proofs.Writing.{value_back, written_is, open_summing}
use Rattle.am_delta.proofs.Steps.{numbers_both, spellings_both, sums_more, last_more, last_steps, last_middling}

-- ---- the value behind differences

pub last_skips : (value end : ℤ) (x : Option ℤ) (k n : ℕ) (list rest : List (Option ℤ)) → end ≡ sum_after value x k → k ≤ n → list ≡ replicate k x ++ rest → last_from end (sums_from end (take (n - k) rest)) ≡ last_from value (sums_from value (take n list))
last_skips value end x k n list rest v l e =
    let part = take (n - k) rest in
    let size : n ≡ length (replicate k x) + (n - k) = omega (arith, length-replicate {A = Option ℤ} k x) in
    let taken : take n list ≡ replicate k x ++ part = ap (take n) e ∙ ap (λ m. take m (replicate k x ++ rest)) size ∙ take-append-add (replicate k x) rest (n - k) in
    sym (ap (λ l. last_from value (sums_from value l)) taken
    ∙ ap (last_from value) (ends-equal value x k part)
    ∙ last_more value (sums_from value (replicate k x)) (sums_from (sum_after value x k) part)
    ∙ ap (λ z. last_from z (sums_from (sum_after value x k) part)) (last_steps value x k)
    ∙ ap (λ z. last_from z (sums_from z part)) (sym v))

pub last_none : (value : ℤ) (n : ℕ) (list : List (Option ℤ)) → n ≡ 0 → last_from value (sums_from value (take n list)) ≡ value
last_none value zero list e = refl
last_none value (suc n) list e = absurd (omega arith)

-- ---- what a writer holds

numbers_back : (ds : List (Option ℤ)) → signed_numbers (map (option_map leb) ds) ≡ ds
numbers_back [] = refl
numbers_back (d ∷ ds) = ap (λ x. x ∷ signed_numbers (map (option_map leb) ds)) (value_back d) ∙ ap (λ l. d ∷ l) (numbers_back ds)

pub copied : (failed : Bool) (list new : Option (List (Option (List ℕ)))) (last next : ℤ) (shown : Option (List (Option ℤ))) (ds : List (Option ℤ)) → failed ≡ false → IsSumming failed list last → values_written failed list ≡ shown → AreMiddling (sums_from last ds) → next ≡ last_from last (sums_from last ds)
    → IfSome list (λ l. new ≡ Some (l ++ map (option_map leb) ds)) → IsSumming false new next × IfSome shown (λ l. values_written false new ≡ Some (l ++ sums_from last ds))
copied failed None new last next shown ds f w e m n p = absurd (open_summing failed None last f w).1
copied failed (Some l) new last next shown ds f w e m n p =
    let o = open_summing failed (Some l) last f w in
    let more = map (option_map leb) ds in
    let numbers : signed_numbers (l ++ more) ≡ signed_numbers l ++ ds = numbers_both l more ∙ ap (λ x. signed_numbers l ++ x) (numbers_back ds) in
    let values : values_of (l ++ more) ≡ values_of l ++ sums_from last ds =
    ap (sums_from (pos 0)) numbers ∙ sums_more (pos 0) (signed_numbers l) ds ∙ ap (λ z. values_of l ++ sums_from z ds) (sym o.1.1) in
    let last_is : next ≡ last_from (pos 0) (values_of (l ++ more)) =
    n ∙ ap (λ z. last_from z (sums_from last ds)) o.1.1 ∙ sym (last_more (pos 0) (values_of l) (sums_from last ds)) ∙ ap (last_from (pos 0)) (sym values) in
    let spelled : l ++ more ≡ map (option_map leb) (signed_numbers (l ++ more)) =
    ap (λ x. x ++ more) o.1.0 ∙ sym (spellings_both (signed_numbers l) ds) ∙ ap (map (option_map leb)) (sym numbers) in (
      (subst IsMiddling (sym n) (last_middling last (sums_from last ds) o.0 m), subst (λ x. IfHeld x (λ l. (l ≡ map (option_map leb) (signed_numbers l)) × (next ≡ last_from (pos 0) (values_of l)))) (sym p) (spelled, last_is)),
      subst (λ v. IfSome v (λ l. values_written false new ≡ Some (l ++ sums_from last ds))) (written_is failed (Some l) shown f e) (ap (option_map values_of) p ∙ ap Some values),
    )

-- ---- what was taken

sums_take : (sum : ℤ) (k : ℕ) (ds : List (Option ℤ)) → sums_from sum (take k ds) ≡ take k (sums_from sum ds)
sums_take sum zero ds = refl
sums_take sum (suc k) [] = refl
sums_take sum (suc k) (None ∷ ds) = ap (λ l. None ∷ l) (sums_take sum k ds)
sums_take sum (suc k) (Some d ∷ ds) = ap (λ l. Some (sum +ℤ d) ∷ l) (sums_take (sum +ℤ d) k ds)

pub front_middling : (sum : ℤ) (k : ℕ) (ds values : List (Option ℤ)) → values ≡ sums_from sum ds → AreMiddling values → AreMiddling (sums_from sum (take k ds))
front_middling sum k ds values e m =
    subst AreMiddling (sym (sums_take sum k ds))
    (all_behind _ (take k (sums_from sum ds)) _ (subst AreMiddling (e ∙ sym (take-append-drop k (sums_from sum ds))) m)).0

pub took_values : (sum : ℤ) (k : ℕ) (ds values behind : List (Option ℤ)) (self next : Option (List (Option ℤ))) → values ≡ sums_from sum ds → behind ≡ drop k (sums_from sum ds) → k ≤ length ds → IfSome self (λ l. next ≡ Some (l ++ sums_from sum (take k ds))) → Took k values behind self next
took_values sum k ds values behind self next e b l w = (
  sums_from sum (take k ds),
  length-sums sum (take k ds) ∙ length-take-le k ds l,
  e ∙ sym (take-append-drop k (sums_from sum ds)) ∙ ap (λ x. x ++ drop k (sums_from sum ds)) (sym (sums_take sum k ds)) ∙ ap (λ x. sums_from sum (take k ds) ++ x) (sym b),
  w,
)

-- ---- room

pub room_one : (self : Option (List (Option ℤ))) → IfSome self (λ list. length list + 1 ≤ 2 ^ 32) → IfSome self (λ list. length list < 2 ^ 32)
room_one None r = tt
room_one (Some list) r = omega (arith, r)

pub room_then : (self next : Option (List (Option ℤ))) (first : Option ℤ) (count : ℕ) → 1 ≤ count → IfSome self (λ list. length list + count ≤ 2 ^ 32) → IfNone self (next ≡ None) → IfSome self (λ list. next ≡ Some (list ++ first ∷ [])) → IfSome next (λ list. length list + (count - 1) ≤ 2 ^ 32)
room_then None next first count l r n p = subst (λ v. IfSome v (λ list. length list + (count - 1) ≤ 2 ^ 32)) (sym n) tt
room_then (Some list) next first count l r n p = subst (λ v. IfSome v (λ list. length list + (count - 1) ≤ 2 ^ 32)) (sym p) (omega (arith, r, length-append list (first ∷ [])))
