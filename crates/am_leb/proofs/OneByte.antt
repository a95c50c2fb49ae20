-- Numbers of one byte.
use Rattle.std.proofs.Common.{◌≡◌, ℕ, ◌-◌, ◌<◌, Bool, true, false, List, [], ◌∷◌, ◌++◌, length, drop, get_or, Ok, pos, negsuc, cond, refl, sym, ap, ◌∙◌, arith}
use Rattle.am_leb.specs.Leb.{seven_bits}
use Rattle.am_leb.specs.Reading.{first_unsigned, first_signed, from_magnitude, low_value}
use Rattle.am_leb.proofs.Laws.{uleb-one, length_uleb-one}
use Rattle.am_leb.proofs.SignedLaws.{leb-one, length_leb-one}
use Rattle.am_leb.proofs.Answering.{first_unsigned-uleb, first_signed-leb, by_lt}

pub first_and_rest : (bytes : List ℕ) → 0 < length bytes → bytes ≡ get_or bytes 0 0 ∷ drop 1 bytes
first_and_rest [] h = absurd (omega arith)
first_and_rest (b ∷ bytes) h = refl

pub first_unsigned-low : (bytes rest : List ℕ) (b : ℕ) → b < 128 → bytes ≡ b ∷ rest → first_unsigned bytes ≡ Ok (b, 1)
first_unsigned-low bytes rest b h e =
    ap first_unsigned (e ∙ ap (λ s. s ++ rest) (sym (uleb-one b h))) ∙ first_unsigned-uleb b rest (omega arith) ∙ ap (λ n. Ok (b, n)) (length_uleb-one b h)

by_sign : (negative : Bool) (n : ℕ) (bytes rest : List ℕ) (b : ℕ) → n < 64 → seven_bits negative n ≡ b → bytes ≡ b ∷ rest → first_signed bytes ≡ Ok (from_magnitude negative n, 1)
by_sign negative n bytes rest b h s e =
    ap first_signed (e ∙ ap (λ c. c ∷ rest) (sym s) ∙ ap (λ l. l ++ rest) (sym (leb-one negative n h))) ∙ first_signed-leb negative n rest (omega arith) ∙ ap (λ k. Ok (from_magnitude negative n, k)) (length_leb-one negative n h)

pub first_signed-low : (bytes rest : List ℕ) (b : ℕ) → b < 128 → bytes ≡ b ∷ rest → first_signed bytes ≡ Ok (low_value b, 1)
first_signed-low bytes rest b h e = by_lt b 64
    (λ l t. by_sign false b bytes rest b l refl e ∙ ap (λ c. Ok (cond c (pos b) (negsuc (127 - b)), 1)) (sym t))
    (λ l t. by_sign true (127 - b) bytes rest b (omega arith) (omega arith) e ∙ ap (λ c. Ok (cond c (pos b) (negsuc (127 - b)), 1)) (sym t))
