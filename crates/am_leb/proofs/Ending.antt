-- Reading by the last byte: at most nine bytes hold a number in range, and the last one tells whether they are its shortest spelling.
use Rattle.std.proofs.Common.{◌≡◌, ℕ, suc, zero, ◌+◌, ◌*◌, ◌-◌, ◌^◌, ◌<◌, ◌≤◌, Bool, true, false, nat_le, get_or, List, [], ◌∷◌, length, take, Some, Ok, ℤ, pos, refl, sym, ap, ◌∙◌, ⊎_elim, subst, arith}
use Rattle.std.proofs.Math.Nat.{pow-succ', pow-le-pow_right}
use Rattle.std.proofs.lemmas.Bool.Decides.{nat_tests}
use Rattle.std.proofs.lemmas.Bool.{cases_lt}
use Rattle.std.proofs.lemmas.List.{length-take-le, get_or-take}
use Rattle.am_leb.specs.Leb.{unsigned_value, uleb, ends_negative, leb}
use Rattle.am_leb.specs.Reading.{end_within, first_unsigned, first_signed, digit, magnitude, from_magnitude}
use Rattle.am_leb.proofs.Laws.{not_shorter, unsigned_value-lt, uleb_spells, length_uleb-pos}
use Rattle.am_leb.proofs.SignedLaws.{magnitude-lt, not_shorter_signed, leb_spells, length_leb-pos, ends_negative-last}
use Rattle.am_leb.proofs.Ends.{AllHigh, IsEnd-from_within, end_within-found}
use Rattle.am_leb.proofs.Answering.{IsBytes, first_unsigned-found, first_signed-found}

-- where the bytes end whose last one is k
ends_at : (bytes : List ℕ) (k : ℕ) → k < 9 → k < length bytes → AllHigh bytes k → get_or bytes k 0 < 128 → end_within 10 bytes ≡ Some (suc k)
ends_at bytes k few inside high low = end_within-found 10 bytes k (omega arith) inside high low

at_least : (bytes : List ℕ) (k : ℕ) → k < length bytes → get_or bytes k 0 < 128 → 0 < get_or bytes k 0 → 128 ^ k ≤ unsigned_value (take (suc k) bytes)
at_least [] k inside low some = absurd (omega arith)
at_least (b ∷ bytes) zero inside low some = omega arith
at_least (b ∷ bytes) (suc k) inside low some = rw pow-succ' (omega (arith, at_least bytes k (omega arith) low some))

as_long : (bytes : List ℕ) (k : ℕ) → k < length bytes → get_or bytes k 0 < 128 → (0 < k → 0 < get_or bytes k 0) → suc k ≤ length (uleb (unsigned_value (take (suc k) bytes)))
as_long bytes zero inside low some = length_uleb-pos (unsigned_value (take 1 bytes))
as_long bytes (suc k) inside low some =
    let n = unsigned_value (take (suc (suc k)) bytes) in
    let other = uleb_spells n in
    not_shorter (suc (suc k)) (length (uleb n)) (suc k) n refl (at_least bytes (suc k) inside low (some (omega arith)))
    (subst (λ v. v < 128 ^ length (uleb n)) other.value (unsigned_value-lt (uleb n)))

pub first_unsigned-ends : (bytes : List ℕ) (k : ℕ) → IsBytes bytes → k < 9 → k < length bytes → AllHigh bytes k → get_or bytes k 0 < 128
    → (0 < k → 0 < get_or bytes k 0)
    → first_unsigned bytes ≡ Ok (unsigned_value (take (suc k) bytes), suc k)
first_unsigned-ends bytes k f few inside high low some =
    let s = take (suc k) bytes in
    let l : length s ≡ suc k = length-take-le (suc k) bytes (omega arith) in
    let most : 128 ^ length s ≤ 128 ^ 9 = pow-le-pow_right {n = 128} (omega arith) {i = length s} {j = 9} (omega arith) in
    sym (first_unsigned-found bytes (suc k) (unsigned_value s) (sym (ends_at bytes k few inside high low)) refl (omega (arith, unsigned_value-lt s)) (as_long bytes k inside low some))

-- the sign is bit 6 of the last byte
sign : (bytes : List ℕ) (k : ℕ) → k < length bytes → ends_negative (take (suc k) bytes) ≡ nat_le 64 (get_or bytes k 0)
sign bytes k inside =
    let s = take (suc k) bytes in
    let l : length s ≡ suc k = length-take-le (suc k) bytes (omega arith) in
    let i : length s - 1 ≡ k = omega arith in
    ends_negative-last s (omega arith) ∙ ap (λ j. nat_le 64 (get_or s j 0)) i ∙ ap (nat_le 64) (get_or-take (suc k) bytes k 0 (omega arith))

least_two : (negative : Bool) (a b : ℕ) → 128 ≤ a → a < 256 → b < 128 → nat_le 64 b ≡ negative → (b ≡ 0 → 192 ≤ a) → (b ≡ 127 → a < 192) → 64 ≤ digit negative a + 128 * digit negative b
least_two true a b high byte low e zeros ones = let x : 64 ≤ b = grind (arith, nat_tests) in
    ⊎_elim (λ lt. omega arith) (λ le. omega (arith, ones (omega arith))) (cases_lt b 127)
least_two false a b high byte low e zeros ones = let x : b < 64 = grind (arith, nat_tests) in
    ⊎_elim (λ lt. omega (arith, zeros (omega arith))) (λ le. omega arith) (cases_lt b 1)

signed_at_least : (negative : Bool) (bytes : List ℕ) (m : ℕ) → IsBytes bytes → suc m < length bytes → 128 ≤ get_or bytes m 0 → get_or bytes (suc m) 0 < 128
    → nat_le 64 (get_or bytes (suc m) 0) ≡ negative
    → (get_or bytes (suc m) 0 ≡ 0 → 192 ≤ get_or bytes m 0) → (get_or bytes (suc m) 0 ≡ 127 → get_or bytes m 0 < 192)
    → 64 * 128 ^ m ≤ magnitude negative (take (suc (suc m)) bytes)
signed_at_least negative [] m f inside high low e zeros ones = absurd (omega arith)
signed_at_least negative (a ∷ []) m f inside high low e zeros ones = absurd (omega arith)
signed_at_least negative (a ∷ b ∷ bytes) zero f inside high low e zeros ones = omega (arith, least_two negative a b high (f 0) low e zeros ones)
signed_at_least negative (a ∷ b ∷ bytes) (suc m) f inside high low e zeros ones =
    rw pow-succ' (omega (arith, signed_at_least negative (b ∷ bytes) m (λ i. f (suc i)) (omega arith) high low e zeros ones))

-- at 0 and at 127 the last byte repeats the sign alone, which the byte before it has to lack
abbrev pub IsNeeded : List ℕ → ℕ → Type 0
IsNeeded bytes k = (0 < k → get_or bytes k 0 ≡ 0 → 192 ≤ get_or bytes (k - 1) 0) × (0 < k → get_or bytes k 0 ≡ 127 → get_or bytes (k - 1) 0 < 192)

as_long_signed : (negative : Bool) (bytes : List ℕ) (k : ℕ) → IsBytes bytes → k < length bytes → AllHigh bytes k → get_or bytes k 0 < 128
    → nat_le 64 (get_or bytes k 0) ≡ negative → IsNeeded bytes k → suc k ≤ length (leb (pos (magnitude negative (take (suc k) bytes))))
as_long_signed negative bytes zero f inside high low e needed = length_leb-pos _
as_long_signed negative bytes (suc m) f inside high low e needed =
    let n = magnitude negative (take (suc (suc m)) bytes) in
    let other = leb_spells false n in
    let i : suc m - 1 ≡ m = omega arith in
    let before : get_or bytes (suc m - 1) 0 ≡ get_or bytes m 0 = ap (λ j. get_or bytes j 0) i in
    not_shorter_signed false (suc (suc m)) m n (leb (pos n)) other.spelling other.sign other.value refl
    (signed_at_least negative bytes m f inside (high m (omega arith)) low e
    (λ z. subst (λ b. 192 ≤ b) before (needed.0 (omega arith) z))
    (λ z. subst (λ b. b < 192) before (needed.1 (omega arith) z)))

-- the number that the bytes up to the last one spell
abbrev pub signed_number : List ℕ → ℤ
signed_number s = from_magnitude (ends_negative s) (magnitude (ends_negative s) s)

pub first_signed-number_ends : (bytes : List ℕ) (k : ℕ) → IsBytes bytes → k < 9 → k < length bytes → AllHigh bytes k → get_or bytes k 0 < 128 → IsNeeded bytes k
    → first_signed bytes ≡ Ok (signed_number (take (suc k) bytes), suc k)
first_signed-number_ends bytes k f few inside high low needed =
    let s = take (suc k) bytes in
    let l : length s ≡ suc k = length-take-le (suc k) bytes (omega arith) in
    let found = ends_at bytes k few inside high low in
    let ended = IsEnd-from_within 10 bytes (suc k) f found in
    let most : 128 ^ k ≤ 128 ^ 8 = pow-le-pow_right {n = 128} (omega arith) {i = k} {j = 8} (omega arith) in
    let below : magnitude (ends_negative s) s < 64 * 128 ^ k = magnitude-lt (ends_negative s) s k ended.spelling refl l in
    sym (first_signed-found bytes (suc k) (ends_negative s) (magnitude (ends_negative s) s) (signed_number s) (sym found) refl refl (omega arith)
    (as_long_signed (ends_negative s) bytes k f inside high low (sym (sign bytes k inside)) needed) refl)

pub first_signed-ends : (bytes : List ℕ) (k : ℕ) → IsBytes bytes → k < 9 → k < length bytes → AllHigh bytes k → get_or bytes k 0 < 128
    → (0 < k → get_or bytes k 0 ≡ 0 → 192 ≤ get_or bytes (k - 1) 0) → (0 < k → get_or bytes k 0 ≡ 127 → get_or bytes (k - 1) 0 < 192)
    → (z : ℤ) × (first_signed bytes ≡ Ok (z, suc k))
first_signed-ends bytes k f few inside high low zeros ones = (signed_number (take (suc k) bytes), first_signed-number_ends bytes k f few inside high low (zeros, ones))
