-- What a writer of deltas holds after each push.
use Rattle.std.proofs.Common.{◌≡◌, ℕ, ◌^◌, ◌<◌, List, [], ◌∷◌, ◌++◌, length, map, Bool, true, false, Option, Some, None, Result, Ok, Err, ℤ, pos, ◌+ℤ◌, ◌-ℤ◌, refl, sym, ap, ◌∙◌, subst, arith, rules, FitsSigned, w64}
use Rattle.std.specs.Option.{IfSome, option_map}
use Rattle.std.specs.Result.{IfOk}
use Rattle.std.proofs.lemmas.Int.{ints}
use Rattle.std.proofs.lemmas.List.{length-map}
use Rattle.am_leb.specs.Leb.{leb, signed_value}
use Rattle.am_runs.specs.Items.{signed_end}
use Rattle.am_runs.specs.Typed.{signed_numbers}
use Rattle.am_runs.specs.Canonical.{Canon}
use Rattle.am_runs.proofs.ItemIs.{signed_value-leb}
use Rattle.am_delta.specs.Deltas.{sums_from, last_from, less, or_last, IsMiddling, values_of, values_written, IfHeld, IsSumming, CanonDeltas}
use Rattle.am_delta.proofs.Sums.{length-sums}

map_push : {A B : Type 0} (f : A → B) (xs : List A) (x : A) → map f (xs ++ x ∷ []) ≡ map f xs ++ f x ∷ []
map_push f [] x = refl
map_push f (y ∷ xs) x = ap (λ l. f y ∷ l) (map_push f xs x)

pub value_back : (d : Option ℤ) → option_map signed_value (option_map leb d) ≡ d
value_back None = refl
value_back (Some z) = ap Some (signed_value-leb z)

numbers_push : (list : List (Option (List ℕ))) (d : Option ℤ) → signed_numbers (list ++ option_map leb d ∷ []) ≡ signed_numbers list ++ d ∷ []
numbers_push list d = map_push (option_map signed_value) list (option_map leb d) ∙ ap (λ x. signed_numbers list ++ x ∷ []) (value_back d)

one_sum : (sum : ℤ) (value : Option ℤ) → sums_from sum (less value sum ∷ []) ≡ value ∷ []
one_sum sum None = refl
one_sum sum (Some v) = ap (λ z. Some z ∷ []) (let e : sum +ℤ (v -ℤ sum) ≡ v = omega (arith, ints) in e)

pub sums_push : (sum : ℤ) (ds : List (Option ℤ)) (value : Option ℤ) → sums_from sum (ds ++ less value (last_from sum (sums_from sum ds)) ∷ []) ≡ sums_from sum ds ++ value ∷ []
sums_push sum [] value = one_sum sum value
sums_push sum (None ∷ ds) value = ap (λ l. None ∷ l) (sums_push sum ds value)
sums_push sum (Some d ∷ ds) value = ap (λ l. Some (sum +ℤ d) ∷ l) (sums_push (sum +ℤ d) ds value)

pub last_push : (last : ℤ) (values : List (Option ℤ)) (value : Option ℤ) → last_from last (values ++ value ∷ []) ≡ or_last value (last_from last values)
last_push last [] None = refl
last_push last [] (Some v) = refl
last_push last (None ∷ values) value = last_push last values value
last_push last (Some v ∷ values) value = last_push v values value

pub middling : (value : Option ℤ) (last : ℤ) → IfSome value IsMiddling → IsMiddling last → IsMiddling (or_last value last)
middling None last h g = g
middling (Some v) last h g = h

held : (list : Option (List (Option (List ℕ)))) (P : List (Option (List ℕ)) → Type 0) → IfHeld list P → (l : List (Option (List ℕ))) × (list ≡ Some l) × P l
held None P h = absurd h
held (Some l) P h = (l, refl, h)

pub open_summing : (failed : Bool) (list : Option (List (Option (List ℕ)))) (last : ℤ) → failed ≡ false → IsSumming failed list last → IsSumming false list last
open_summing true list last e h = absurd (cc)
open_summing false list last e h = h

pub last_middling : (failed : Bool) (list : Option (List (Option (List ℕ)))) (last : ℤ) → failed ≡ false → IsSumming failed list last → IsMiddling last
last_middling failed list last e h = (open_summing failed list last e h).0

pub written_is : (failed : Bool) (list : Option (List (Option (List ℕ)))) (value : Option (List (Option ℤ))) → failed ≡ false → values_written failed list ≡ value → option_map values_of list ≡ value
written_is true list value f e = absurd (cc)
written_is false list value f e = e

pub room : (failed : Bool) (list : Option (List (Option (List ℕ)))) (value : Option (List (Option ℤ))) → failed ≡ false → values_written failed list ≡ value → IfSome value (λ l. length l < 2 ^ 32) → IfSome list (λ l. length l < 2 ^ 32)
room failed None value f e r = tt
room failed (Some l) value f e r =
    let s : length (values_of l) < 2 ^ 32 = subst (λ v. IfSome v (λ l. length l < 2 ^ 32)) (sym (written_is failed (Some l) value f e)) r in
    omega (arith, s, length-sums (pos 0) (signed_numbers l), length-map l (option_map signed_value))

spelled_push : (l : List (Option (List ℕ))) (d : Option ℤ) → l ≡ map (option_map leb) (signed_numbers l) → l ++ option_map leb d ∷ [] ≡ map (option_map leb) (signed_numbers (l ++ option_map leb d ∷ []))
spelled_push l d e = ap (λ k. k ++ option_map leb d ∷ []) e ∙ sym (map_push (option_map leb) (signed_numbers l) d) ∙ ap (map (option_map leb)) (sym (numbers_push l d))

pub pushed : (failed : Bool) (list new : Option (List (Option (List ℕ)))) (last next : ℤ) (shown : Option (List (Option ℤ))) (value d : Option ℤ) → failed ≡ false → IsSumming failed list last → values_written failed list ≡ shown → IfSome value IsMiddling → d ≡ less value last → next ≡ or_last value last
    → IfSome list (λ l. new ≡ Some (l ++ option_map leb d ∷ [])) → IsSumming false new next × IfSome shown (λ l. values_written false new ≡ Some (l ++ value ∷ []))
pushed failed None new last next shown value d f w e m k n p = absurd (open_summing failed None last f w).1
pushed failed (Some l) new last next shown value d f w e m k n p =
    let o = open_summing failed (Some l) last f w in
    let less_is : d ≡ less value (last_from (pos 0) (values_of l)) = k ∙ ap (less value) o.1.1 in
    let values : values_of (l ++ option_map leb d ∷ []) ≡ values_of l ++ value ∷ [] = ap (sums_from (pos 0)) (numbers_push l d ∙ ap (λ x. signed_numbers l ++ x ∷ []) less_is) ∙ sums_push (pos 0) (signed_numbers l) value in
    let last_is : next ≡ last_from (pos 0) (values_of (l ++ option_map leb d ∷ [])) = n ∙ ap (or_last value) o.1.1 ∙ sym (last_push (pos 0) (values_of l) value) ∙ ap (last_from (pos 0)) (sym values) in (
      (subst IsMiddling (sym n) (middling value last m o.0), subst (λ x. IfHeld x (λ l. (l ≡ map (option_map leb) (signed_numbers l)) × (next ≡ last_from (pos 0) (values_of l)))) (sym p) (spelled_push l d o.1.0, last_is)),
      subst (λ v. IfSome v (λ l. values_written false new ≡ Some (l ++ value ∷ []))) (written_is failed (Some l) shown f e) (ap (option_map values_of) p ∙ ap Some values),
    )

pub finished : {E A : Type 0} (failed : Bool) (list : Option (List (Option (List ℕ)))) (last : ℤ) (shown : Option (List (Option ℤ))) → failed ≡ false → IsSumming failed list last → values_written failed list ≡ shown
    → (r : Result A E) (bytes : A → List ℕ) → IfOk r (λ x. IfSome list (Canon signed_end (bytes x))) → IfOk r (λ x. IfSome shown (CanonDeltas (bytes x)))
finished failed list last shown f w e (Err d) bytes h = tt
finished failed None last shown f w e (Ok x) bytes h = absurd (open_summing failed None last f w).1
finished failed (Some l) last shown f w e (Ok x) bytes h =
    let o = open_summing failed (Some l) last f w in
    subst (λ v. IfSome v (CanonDeltas (bytes x))) (written_is failed (Some l) shown f e) (signed_numbers l, subst (Canon signed_end (bytes x)) o.1.0 h, refl)

pub middling_fits : (z : ℤ) → IsMiddling z → FitsSigned w64 z
middling_fits z h = let a = h.0 in let b = h.1 in search (arith, ints, rules)
