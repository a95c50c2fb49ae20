-- Lists of actors that take as many bytes each are cut at any place.
--     even_from        actors as long as the first, behind it, are even
--     even_behind      where so many are left out, the others stand there
--     got              the first of those that are left is the one at that place
use Rattle.std.proofs.Common.{◌≡◌, Bor, ℕ, suc, zero, ◌+◌, ◌-◌, ◌*◌, ◌<◌, ◌≤◌, List, [], ◌∷◌, ◌++◌, length, drop, Option, Some, None, IsSome, refl, sym, ap, ◌∙◌, subst, arith, append_assoc, length-append}
use Rattle.std.specs.Prelude.{slice_get, IfNone, IfSome}
use Rattle.std.specs.Option.{option_copied}
use Rattle.std.specs.List.{flat_map, AllByRecursion}
use Rattle.std.proofs.lemmas.List.{length-drop}
use Rattle.am_leb.specs.Leb.{uleb}
use Rattle.am_leb.proofs.Answering.{IsBytes}
use Rattle.am_colmeta.specs.Actors.{prefixed, IsPrefixed}
use Rattle.am_colmeta.specs.Even.{AreEven}
use Rattle.am_colmeta.specs.Reading.{parts, behind, first_prefixed}
use Rattle.am_colmeta.proofs.Counted.{parts_found, parts_again, length-parts}
use Rattle.am_colmeta.proofs.ReadBack.{prefixed_back}

as_long : (first : List ℕ) (others : List (List ℕ)) → AllByRecursion (λ a. length a ≡ length first) others → AllByRecursion (λ a. length (prefixed a) ≡ length (prefixed first)) others
as_long first [] all = tt
as_long first (a ∷ others) all = (same a all.0, as_long first others all.1)
  where
    same : (a : List ℕ) → length a ≡ length first → length (prefixed a) ≡ length (prefixed first)
    same a e =
        length-append (uleb (length a)) a ∙ ap (λ n. length (uleb n) + length a) e ∙ ap (λ n. length (uleb (length first)) + n) e
        ∙ sym (length-append (uleb (length first)) first)

pub even_from : (size : ℕ) (first : List ℕ) (others : List (List ℕ)) → size ≡ length (prefixed first) → AllByRecursion (λ a. length a ≡ length first) others → AreEven size (first ∷ others)
even_from size first others e all = λ some. subst (λ n. AllByRecursion (λ a. length (prefixed a) ≡ n) (first ∷ others)) (sym e) (refl, as_long first others all)

all_behind : {A : Type 0} (P : A → Type 0) (n : ℕ) (xs : List A) → AllByRecursion P xs → AllByRecursion P (drop n xs)
all_behind P zero xs all = all
all_behind P (suc n) [] all = tt
all_behind P (suc n) (x ∷ xs) all = all_behind P n xs all.1

cut_at : (size n : ℕ) (actors : List (List ℕ)) (rest : List ℕ) → AllByRecursion (λ a. length (prefixed a) ≡ size) actors → n ≤ length actors
    → (n * size ≤ length (flat_map prefixed actors ++ rest)) × (drop (n * size) (flat_map prefixed actors ++ rest) ≡ flat_map prefixed (drop n actors) ++ rest)
cut_at size zero actors rest all l =
    let none : zero * size ≡ 0 = omega arith in
    (omega arith, ap (λ m. drop m (flat_map prefixed actors ++ rest)) none)
cut_at size (suc n) [] rest all l = absurd (omega arith)
cut_at size (suc n) (a ∷ actors) rest all l =
    let more = cut_at size n actors rest all.1 (omega arith) in
    let whole : flat_map prefixed (a ∷ actors) ++ rest ≡ prefixed a ++ (flat_map prefixed actors ++ rest) = append_assoc (prefixed a) (flat_map prefixed actors) rest in
    let long : length (flat_map prefixed (a ∷ actors) ++ rest) ≡ size + length (flat_map prefixed actors ++ rest) =
    ap length whole ∙ length-append (prefixed a) (flat_map prefixed actors ++ rest) ∙ ap (λ m. m + length (flat_map prefixed actors ++ rest)) all.0 in
    let times : suc n * size ≡ size + n * size = omega arith in
    let at : suc n * size ≡ length (prefixed a) + n * size = times ∙ ap (λ m. m + n * size) (sym all.0) in (
      omega (arith, long, more.0, times),
      ap (drop (suc n * size)) whole ∙ ap (λ m. drop m (prefixed a ++ (flat_map prefixed actors ++ rest))) at
          ∙ behind_front (prefixed a) (n * size) (flat_map prefixed actors ++ rest) ∙ more.1,
    )
  where
    behind_front : (front : List ℕ) (m : ℕ) (tail : List ℕ) → drop (length front + m) (front ++ tail) ≡ drop m tail
    behind_front [] m tail = let none : length {A = ℕ} [] + m ≡ m = omega arith in ap (λ k. drop k tail) none
    behind_front (b ∷ front) m tail =
        let next : length (b ∷ front) + m ≡ suc (length front + m) = omega arith in
        ap (λ k. drop k (b ∷ (front ++ tail))) next ∙ behind_front front m tail

pub record Cut (size n count : ℕ) (bytes : List ℕ) : Type 0 where
  pub room : n * size ≤ length bytes
  pub left : parts first_prefixed (count - n) (drop (n * size) bytes) ≡ drop n (parts first_prefixed count bytes)
  pub there : IsSome (behind first_prefixed (count - n) (drop (n * size) bytes))
  pub even : AreEven size (parts first_prefixed (count - n) (drop (n * size) bytes))

pub even_behind : (size n count : ℕ) (bytes : List ℕ) → 0 < size → n ≤ count → IsBytes bytes → IsSome (behind first_prefixed count bytes) → AreEven size (parts first_prefixed count bytes) → Cut size n count bytes
even_behind size n count bytes some l all there even =
    elim (behind first_prefixed count bytes) as (λ o. behind first_prefixed count bytes ≡ o → IsSome o → Cut size n count bytes) [
      | None ↦ λ e h. absurd (cc h)
      | Some rest ↦ λ e h.
          let actors = parts first_prefixed count bytes in
          let long : length actors ≡ count = length-parts first_prefixed count bytes there in
          let found = parts_found first_prefixed prefixed IsPrefixed prefixed_back count bytes rest all e in
          let at = cut_at size n actors rest (even some) (omega arith) in
          let again = parts_again first_prefixed prefixed IsPrefixed prefixed_back (drop n actors) rest (all_behind IsPrefixed n actors found.1) in
          let tail : drop (n * size) bytes ≡ flat_map prefixed (drop n actors) ++ rest = ap (drop (n * size)) found.0 ∙ at.1 in
          let few : length (drop n actors) ≡ count - n = length-drop n actors ∙ ap (λ m. m - n) long in
          let left : parts first_prefixed (count - n) (drop (n * size) bytes) ≡ drop n actors =
          ap (λ m. parts first_prefixed m (drop (n * size) bytes)) (sym few) ∙ ap (parts first_prefixed (length (drop n actors))) tail ∙ again.1 in
          let stands : behind first_prefixed (count - n) (drop (n * size) bytes) ≡ Some rest =
          ap (λ m. behind first_prefixed m (drop (n * size) bytes)) (sym few) ∙ ap (behind first_prefixed (length (drop n actors))) tail ∙ again.0 in
          record {
            room = omega (arith, at.0, ap length found.0);
            left = left;
            there = subst IsSome (sym stands) (cc);
            even = λ s. subst (AllByRecursion (λ a. length (prefixed a) ≡ size)) (sym left) (all_behind (λ a. length (prefixed a) ≡ size) n actors (even s));
          }
    ] refl there

first_got : {A : Type 0} (xs : List A) (i : ℕ) → slice_get (drop i xs) 0 ≡ slice_get xs i
first_got xs zero = refl
first_got [] (suc i) = refl
first_got (x ∷ xs) (suc i) = first_got xs i

pub got : (r : Option (Bor (List ℕ))) (left new xs : List (List ℕ)) (i : ℕ) → left ≡ drop i xs → IfNone r ((left ≡ []) × (new ≡ [])) → IfSome r (λ (a : Bor (List ℕ)). left ≡ a.now ∷ new) → option_copied r ≡ slice_get xs i
got None left new xs i e none some = ap (λ l. slice_get l 0) (sym none.0 ∙ e) ∙ first_got xs i
got (Some a) left new xs i e none some = ap (λ l. slice_get l 0) (sym some ∙ e) ∙ first_got xs i
