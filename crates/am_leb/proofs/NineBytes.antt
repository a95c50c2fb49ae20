-- Numbers of at most nine bytes, which 63 bits hold: read byte by byte, and judged by what as many bytes can hold.
use Rattle.std.proofs.Common.{◌≡◌, ℕ, suc, zero, ◌+◌, ◌*◌, ◌-◌, ◌^◌, ◌%◌, ◌/◌, ◌<◌, ◌≤◌, Bool, true, false, get_or, List, [], ◌∷◌, length, take, Some, Ok, ℤ, pos, negsuc, ◌-ℤ◌, to_z, of_z, w64, refl, sym, ap, ◌∙◌, subst, arith, length-take}
use Rattle.std.proofs.Math.Nat.{pow-succ', pow-le-pow_right}
use Rattle.std.proofs.lemmas.Int.{ints}
use Rattle.std.proofs.lemmas.List.{length-take-le}
use Rattle.am_leb.specs.Leb.{unsigned_value, uleb, ends_negative, leb}
use Rattle.am_leb.specs.Reading.{end_within, first_unsigned, first_signed, magnitude, from_magnitude}
use Rattle.am_leb.proofs.Laws.{not_shorter, unsigned_value-lt, uleb_spells}
use Rattle.am_leb.proofs.SignedLaws.{magnitude-true, magnitude-false, magnitude-bound, not_shorter_signed, leb_spells, length_leb-pos}
use Rattle.am_leb.proofs.Ends.{end_within-front}
use Rattle.am_leb.proofs.Answering.{first_unsigned-found, first_signed-found}

regroup : (a d p u v : ℕ) → v ≡ u + d * p → a + 128 * v ≡ (a + 128 * u) + d * (128 * p)
regroup a d p u v e = grind arith

-- one more byte
value-more : (bytes : List ℕ) (i : ℕ) → i < length bytes → unsigned_value (take (suc i) bytes) ≡ unsigned_value (take i bytes) + get_or bytes i 0 % 128 * 128 ^ i
value-more [] i inside = absurd (omega arith)
value-more (b ∷ bytes) zero inside = omega arith
value-more (b ∷ bytes) (suc i) inside = rw pow-succ' (regroup (b % 128) (get_or bytes i 0 % 128) (128 ^ i) (unsigned_value (take i bytes)) (unsigned_value (take (suc i) bytes)) (value-more bytes i (omega arith)))

pub sum_is : (bytes : List ℕ) (i value digit bound : ℕ) → i < length bytes → value ≡ unsigned_value (take i bytes) → digit ≡ get_or bytes i 0 % 128 → bound ≡ 128 ^ i → value + digit * bound ≡ unsigned_value (take (suc i) bytes)
sum_is bytes i value digit bound inside v d b = rw (v, d, b) (sym (value-more bytes i inside))

pub bound_is : (i bound : ℕ) → bound ≡ 128 ^ i → bound * 128 ≡ 128 ^ suc i
bound_is i bound b = rw (pow-succ', b) (omega arith)

-- nine bytes hold 63 bits
most : (len : ℕ) → len ≤ 9 → 128 ^ len ≤ 2 ^ 63
most len few = omega (arith, pow-le-pow_right {n = 128} (omega arith) {i = len} {j = 9} few)

value_below : (bytes : List ℕ) (len : ℕ) → len ≤ 9 → unsigned_value (take len bytes) < 2 ^ 63
value_below bytes len few = omega (arith, unsigned_value-lt (take len bytes), most (length (take len bytes)) (omega (arith, length-take len bytes)))

pub sum_fits : (bytes : List ℕ) (i value digit bound : ℕ) → i < 9 → i < length bytes → value ≡ unsigned_value (take i bytes) → digit ≡ get_or bytes i 0 % 128 → bound ≡ 128 ^ i → value + digit * bound < 2 ^ 64
sum_fits bytes i value digit bound few inside v d b = omega (arith, sum_is bytes i value digit bound inside v d b, value_below bytes (suc i) (omega arith))

pub bound_fits : (i bound : ℕ) → i < 9 → bound ≡ 128 ^ i → bound * 128 < 2 ^ 64
bound_fits i bound few b = omega (arith, bound_is i bound b, most (suc i) (omega arith))

as_long : (len n bound : ℕ) → bound ≡ 128 ^ len → bound / 128 ≤ n → len ≤ length (uleb n)
as_long zero n bound b h = omega arith
as_long (suc k) n bound b h =
    let other = uleb_spells n in
    let e : bound ≡ 128 * 128 ^ k = b ∙ pow-succ' 128 k in
    not_shorter (suc k) (length (uleb n)) k n refl (omega arith) (subst (λ v. v < 128 ^ length (uleb n)) other.value (unsigned_value-lt (uleb n)))

pub first_unsigned-within : (bytes : List ℕ) (len n bound : ℕ) → end_within 10 bytes ≡ Some len → n ≡ unsigned_value (take len bytes) → bound ≡ 128 ^ len → len ≤ 9 → bound / 128 ≤ n → Ok (n, len) ≡ first_unsigned bytes
first_unsigned-within bytes len n bound e v b few h = first_unsigned-found bytes len n (sym e) v (omega (arith, value_below bytes len few)) (as_long len n bound b h)

as_long_signed : (len n bound : ℕ) → bound ≡ 128 ^ len → bound / 256 ≤ n → len ≤ length (leb (pos n))
as_long_signed zero n bound b h = omega arith
as_long_signed (suc zero) n bound b h = length_leb-pos (pos n)
as_long_signed (suc (suc m)) n bound b h =
    let other = leb_spells false n in
    let e : bound ≡ 128 * (128 * 128 ^ m) = b ∙ pow-succ' 128 (suc m) ∙ ap (λ p. 128 * p) (pow-succ' 128 m) in
    not_shorter_signed false (suc (suc m)) m n (leb (pos n)) other.spelling other.sign other.value refl (omega arith)

pub magnitude_below : (bytes : List ℕ) (len : ℕ) (negative : Bool) (n : ℕ) → len ≤ 9 → n ≡ magnitude negative (take len bytes) → n < 2 ^ 63
magnitude_below bytes len negative n few v = omega (arith, v, magnitude-bound negative (take len bytes), most (length (take len bytes)) (omega (arith, length-take len bytes)))

pub first_signed-within : (bytes : List ℕ) (len : ℕ) (negative : Bool) (n bound : ℕ) (z : ℤ) → end_within 10 bytes ≡ Some len → negative ≡ ends_negative (take len bytes) → n ≡ magnitude negative (take len bytes) → bound ≡ 128 ^ len → len ≤ 9 → bound / 256 ≤ n → z ≡ from_magnitude negative n → Ok (z, len) ≡ first_signed bytes
first_signed-within bytes len negative n bound z e s v b few h q =
    first_signed-found bytes len negative n z (sym e) s v (magnitude_below bytes len negative n few v) (as_long_signed len n bound b h) q

pub nonnegative_magnitude : (bytes : List ℕ) (len value : ℕ) → value ≡ unsigned_value (take len bytes) → value ≡ magnitude false (take len bytes)
nonnegative_magnitude bytes len value v = v ∙ sym (magnitude-false (take len bytes))

pub negative_magnitude : (bytes : List ℕ) (len value bound : ℕ) → end_within 10 bytes ≡ Some len → value ≡ unsigned_value (take len bytes) → bound ≡ 128 ^ len → bound - 1 - value ≡ magnitude true (take len bytes)
negative_magnitude bytes len value bound e v b =
    let l : length (take len bytes) ≡ len = length-take-le len bytes (end_within-front 10 bytes len e).0 in
    let whole : magnitude true (take len bytes) + unsigned_value (take len bytes) + 1 ≡ 128 ^ len = magnitude-true (take len bytes) ∙ ap (λ k. 128 ^ k) l in
    omega arith

-- the numbers as the code computes them
pub below_zero : (n : ℕ) → n < 2 ^ 63 → to_z w64 (of_z w64 (negsuc 0 -ℤ to_z w64 n)) ≡ negsuc n
below_zero n h = omega (arith, ints)

pub above_zero : (n : ℕ) → n < 2 ^ 63 → to_z w64 n ≡ pos n
above_zero n h = omega (arith, ints)
