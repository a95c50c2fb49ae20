-- Letters cut out of the raw bytes, as many at once as there are numbers of letters.
use Rattle.std.proofs.Common.{◌≡◌, ℕ, suc, zero, ◌+◌, ◌<◌, ◌≤◌, List, [], ◌∷◌, ◌++◌, length, length-append, take, drop, map, Option, Some, refl, sym, ap, ◌∙◌, subst, arith, inl, inr}
use Rattle.std.specs.Prelude.{replicate, IsUtf8}
use Rattle.std.proofs.lemmas.Bool.{cases_lt}
use Rattle.std.proofs.lemmas.Bool.Decides.{nat_tests}
use Rattle.std.proofs.lemmas.Str.{length-encode, byte_from_char}
use Rattle.std.specs.Char.{len_utf8}
use Rattle.am_values.specs.Cutting.{values_from, AreCut}
use Rattle.am_values.specs.Letters.{letter, AreAscii}
use Rattle.am_values.proofs.Cuts.{cut_one, first_cut}
use lib.Utf8.{encodes, encode}

-- a text of one byte is ASCII
two_bytes : (c : ℕ) → 128 ≤ c → 2 ≤ len_utf8 c
two_bytes c h = grind (arith, nat_tests)

one_char : (b : ℕ) (cs : List ℕ) → encodes cs ≡ b ∷ [] → b < 128
one_char b [] e = absurd (cc)
one_char b (c ∷ cs) e =
    let size : length (encode c) + length (encodes cs) ≡ 1 = sym (length-append (encode c) (encodes cs)) ∙ ap length e in
    elim (cases_lt c 128) [
      | inl low ↦ let same : b ≡ c = byte_from_char (b ∷ []) (encodes cs) c (sym e) low in omega (arith, same, low)
      | inr high ↦ absurd (omega (arith, size, length-encode c, two_bytes c high))
    ]

pub one_byte : (b : ℕ) → IsUtf8 (b ∷ []) → b < 128
one_byte b u = one_char b u.0 u.1.1

-- the first k values, where the first k numbers are those of letters
pub record AreCutLetters (k : ℕ) (numbers : List (Option ℕ)) (raw : List ℕ) : Type 0 where
  pub size : k ≤ length raw
  pub letters : values_from numbers raw ≡ map (λ b. Some (letter b)) (take k raw) ++ values_from (drop k numbers) (drop k raw)
  pub ascii : AreAscii (take k raw)
  pub behind : AreCut (drop k numbers) (drop k raw)

one_more : (k : ℕ) (numbers : List (Option ℕ)) (raw : List ℕ) → ((rest : List ℕ) → AreCut numbers rest → AreCutLetters k numbers rest) → AreCut (Some 22 ∷ numbers) raw → AreCutLetters (suc k) (Some 22 ∷ numbers) raw
one_more k numbers [] again c = let here = first_cut (Some 22) numbers [] c in absurd (omega (arith, here.0))
one_more k numbers (b ∷ raw) again c =
    let here = first_cut (Some 22) numbers (b ∷ raw) c in
    let w = again raw ((cut_one (Some 22) numbers (b ∷ raw) raw here refl).1 c) in
    record {
      size = omega (arith, w.size);
      letters = ap (λ l. Some (letter b) ∷ l) w.letters;
      ascii = (one_byte b (here.1.text refl), w.ascii);
      behind = w.behind;
    }

pub cut_letters : (k : ℕ) (numbers : List (Option ℕ)) (raw : List ℕ) → take k numbers ≡ replicate k (Some 22) → AreCut numbers raw → AreCutLetters k numbers raw
cut_letters zero numbers raw e c = record { size = omega arith; letters = refl; ascii = tt; behind = c }
cut_letters (suc k) [] raw e c = absurd (cc)
cut_letters (suc k) (y ∷ numbers) raw e c =
    let first : y ≡ Some 22 = cc in
    let more : take k numbers ≡ replicate k (Some 22) = cc in
    subst (λ y. AreCutLetters (suc k) (y ∷ numbers) raw) (sym first) (one_more k numbers raw (λ rest d. cut_letters k numbers rest more d) (subst (λ y. AreCut (y ∷ numbers) raw) first c))

-- of what begins with k alike, the first j are alike
pub take_fewer : {A : Type 0} (j k : ℕ) (x : A) (xs : List A) → j ≤ k → take k xs ≡ replicate k x → take j xs ≡ replicate j x
take_fewer zero k x xs few e = refl
take_fewer (suc j) zero x xs few e = absurd (omega (arith, few))
take_fewer (suc j) (suc k) x [] few e = absurd (cc)
take_fewer (suc j) (suc k) x (y ∷ xs) few e =
    let first : y ≡ x = cc in
    let more : take k xs ≡ replicate k x = cc in
    ap (λ z. z ∷ take j xs) first ∙ ap (λ l. x ∷ l) (take_fewer j k x xs (omega (arith, few)) more)
