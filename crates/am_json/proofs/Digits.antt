-- Hexadecimal, piece by piece.
use Rattle.std.proofs.Common.{◌≡◌, ℕ, List, [], ◌∷◌, ◌++◌, ◌/◌, ◌%◌, ap, sym, ◌∙◌, append_assoc, slice_index, take, drop, refl, Bool, true, ◌&&◌, ◌<◌, arith}
use Rattle.std.specs.Prelude.{nat_lt}
use Rattle.std.proofs.lemmas.Bool.Decides.{nat_tests}
use Rattle.std.proofs.lemmas.Str.Ascii.{IsAscii-nil, IsAscii-cons}
use Rattle.am_json.proofs.SlotRuns.{and_first, and_second}
use Rattle.std.proofs.lemmas.List.{take-append-drop}
use Rattle.std.proofs.lemmas.Str.{IsUtf8-from_ascii}
use Rattle.std.specs.Str.{IsUtf8, IsAscii}
use Rattle.hex.proofs.HexLemmas.{IsAscii-encode_with}
use Rattle.hex.specs.Hex.{encode_with, encode_lower, lower_digits}

pub digits_of_both : (xs bs : List ℕ) → encode_lower (xs ++ bs) ≡ encode_lower xs ++ encode_lower bs
unfolding encode_with
digits_of_both [] bs = refl
digits_of_both (a ∷ xs) bs = ap (λ ds. slice_index lower_digits (a / 16) ∷ slice_index lower_digits (a % 16) ∷ ds) (digits_of_both xs bs)

-- text that has the digits of the first n bytes behind it
pub digits_of_front : (text : List ℕ) (n : ℕ) (bs : List ℕ) → (text ++ encode_lower (take n bs)) ++ encode_lower (drop n bs) ≡ text ++ encode_lower bs
digits_of_front text n bs =
    append_assoc text (encode_lower (take n bs)) (encode_lower (drop n bs))
    ∙ ap (λ ds. text ++ ds) (sym (digits_of_both (take n bs) (drop n bs)) ∙ ap encode_lower (take-append-drop n bs))

-- a test that computes on the sixteen digits
abbrev all_ascii : List ℕ → Bool
all_ascii [] = true
all_ascii (x ∷ xs) = nat_lt x 128 && all_ascii xs

ascii_from_test : (xs : List ℕ) → all_ascii xs ≡ true → IsAscii xs
ascii_from_test [] h = IsAscii-nil
ascii_from_test (x ∷ xs) h =
    let test : nat_lt x 128 ≡ true = and_first (nat_lt x 128) (all_ascii xs) h in
    let below : x < 128 = grind (arith, nat_tests) in
    IsAscii-cons x xs below (ascii_from_test xs (and_second (nat_lt x 128) (all_ascii xs) h))

pub digits_are_text : (bs : List ℕ) → IsUtf8 (encode_lower bs)
digits_are_text bs = IsUtf8-from_ascii _ (IsAscii-encode_with lower_digits bs (ascii_from_test lower_digits refl))
