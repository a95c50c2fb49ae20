-- The shortest signed spelling of a number is the one that its digits, or their complements, make.
use Rattle.std.proofs.Common.{◌≡◌, ℕ, suc, zero, ◌+◌, ◌*◌, ◌-◌, ◌^◌, ◌%◌, ◌/◌, ◌<◌, ◌≤◌, Bool, true, false, nat_lt, nat_le, get_or, List, [], ◌∷◌, length, refl, sym, ap, ◌∙◌, inl, inr, ⊎_elim, ◌⊎◌, ◌↔◌, subst, arith, ℤ, pos, negsuc, ◌-ℤ◌, cond}
use Rattle.std.proofs.Math.Nat.{pow-succ', pow-le-pow_right}
use Rattle.std.proofs.lemmas.Bool.Decides.{nat_tests}
use Rattle.std.proofs.lemmas.Bool.{cases_lt}
use Rattle.std.proofs.lemmas.Int.{ints}
use Rattle.am_leb.specs.Leb.{IsSpelling, unsigned_value, signed_value, ends_negative, seven_bits, signed_digits, leb, uleb, IsLeb}
use Rattle.am_leb.specs.Reading.{digit, magnitude, from_magnitude}
use Rattle.am_leb.proofs.Laws.{IsSpelling-cons, length_uleb-one, length_uleb-more}

pub magnitude-false : (bytes : List ℕ) → magnitude false bytes ≡ unsigned_value bytes
magnitude-false [] = refl
magnitude-false (b ∷ bytes) = ap (λ n. b % 128 + 128 * n) (magnitude-false bytes)

pub magnitude-true : (bytes : List ℕ) → magnitude true bytes + unsigned_value bytes + 1 ≡ 128 ^ length bytes
magnitude-true [] = refl
magnitude-true (b ∷ bytes) = rw pow-succ' (omega (arith, magnitude-true bytes))

less_whole : (u c p : ℕ) → c + u + 1 ≡ p → pos u -ℤ pos p ≡ negsuc c
less_whole u c p e = omega (arith, ints)

pub signed_value-magnitude : (bytes : List ℕ) → signed_value bytes ≡ from_magnitude (ends_negative bytes) (magnitude (ends_negative bytes) bytes)
signed_value-magnitude bytes = elim (ends_negative bytes) as (λ t. cond t (pos (unsigned_value bytes) -ℤ pos (128 ^ length bytes)) (pos (unsigned_value bytes)) ≡ from_magnitude t (magnitude t bytes)) [
  | true ↦ less_whole _ _ _ (magnitude-true bytes)
  | false ↦ ap pos (sym (magnitude-false bytes))
]

digit-lt : (negative : Bool) (b : ℕ) → digit negative b < 128
digit-lt true b = omega arith
digit-lt false b = omega arith

last_digit-lt : (negative : Bool) (b : ℕ) → b < 128 → nat_le 64 b ≡ negative → digit negative b < 64
last_digit-lt true b h e = let x : 64 ≤ b = grind (arith, nat_tests) in omega arith
last_digit-lt false b h e = let x : b < 64 = grind (arith, nat_tests) in omega arith

-- what m + 1 bytes can hold
pub magnitude-lt : (negative : Bool) (bytes : List ℕ) (m : ℕ) → IsSpelling bytes → ends_negative bytes ≡ negative → length bytes ≡ suc m → magnitude negative bytes < 64 * 128 ^ m
magnitude-lt negative [] m s e l = absurd s
magnitude-lt negative (b ∷ []) m s e l = let z : m ≡ 0 = omega arith in rw z (omega (arith, last_digit-lt negative b s e))
magnitude-lt negative (b ∷ c ∷ bytes) zero s e l = absurd (omega arith)
magnitude-lt negative (b ∷ c ∷ bytes) (suc m) s e l =
    rw pow-succ' (omega (arith, digit-lt negative b, magnitude-lt negative (c ∷ bytes) m s.2 e (omega arith)))

abbrev pub IsTight : ℕ → ℕ → Type 0
IsTight len n = (len ≡ 1) ⊎ ((m : ℕ) × (len ≡ suc (suc m)) × (64 * 128 ^ m ≤ n))

pub record Spells (negative : Bool) (bytes : List ℕ) (n : ℕ) : Type 0 where
  pub spelling : IsSpelling bytes
  pub sign : ends_negative bytes ≡ negative
  pub value : magnitude negative bytes ≡ n
  pub tight : IsTight (length bytes) n

IsTight-cons : (len n : ℕ) → 64 ≤ n → IsTight len (n / 128) → IsTight (suc len) n
IsTight-cons len n h t = ⊎_elim
    (λ one. inr (0, omega arith, omega arith))
    (λ w. inr (suc w.0, omega (arith, w.1), rw pow-succ' (omega (arith, w.2))))
    t

ends_negative-cons : (b : ℕ) (bytes : List ℕ) → IsSpelling bytes → ends_negative (b ∷ bytes) ≡ ends_negative bytes
ends_negative-cons b [] s = absurd s
ends_negative-cons b (c ∷ bytes) s = refl

high_digit : (negative : Bool) (n : ℕ) → n < 128 → (128 ≤ seven_bits negative n + 128) × (seven_bits negative n + 128 < 256) × (digit negative (seven_bits negative n + 128) ≡ n)
high_digit true n h = (omega arith, omega arith, omega arith)
high_digit false n h = (omega arith, omega arith, omega arith)

last_digit : (negative : Bool) (n : ℕ) → n < 64 → (seven_bits negative n < 128) × (nat_le 64 (seven_bits negative n) ≡ negative) × (digit negative (seven_bits negative n) ≡ n)
last_digit true n h = (omega arith, grind (arith, nat_tests), omega arith)
last_digit false n h = (omega arith, grind (arith, nat_tests), omega arith)

Spells-cons : (negative : Bool) (n : ℕ) (bytes : List ℕ) → 64 ≤ n → Spells negative bytes (n / 128) → Spells negative ((seven_bits negative (n % 128) + 128) ∷ bytes) n
Spells-cons negative n bytes le rest =
    let d = high_digit negative (n % 128) (omega arith) in
    record {
      spelling = IsSpelling-cons _ _ d.0 d.1 rest.spelling;
      sign = ends_negative-cons _ _ rest.spelling ∙ rest.sign;
      value = omega (arith, rest.value, d.2);
      tight = IsTight-cons _ n le rest.tight;
    }

Spells-one : (negative : Bool) (n : ℕ) → n < 64 → Spells negative (seven_bits negative n ∷ []) n
Spells-one negative n lt = let d = last_digit negative n lt in record { spelling = d.0; sign = d.1; value = omega (arith, d.2); tight = inl refl }

digits_spell : (negative : Bool) (k n : ℕ) → n ≤ k → Spells negative (signed_digits negative k n) n
unfolding signed_digits
digits_spell negative zero n h = Spells-one negative n (omega arith)
digits_spell negative (suc k) n h =
    elim (nat_lt n 64) as (λ b. nat_lt n 64 ≡ b → Spells negative (elim b [ true ↦ seven_bits negative n ∷ [] | false ↦ (seven_bits negative (n % 128) + 128) ∷ signed_digits negative k (n / 128) ]) n) [
      | true ↦ λ e. Spells-one negative n (grind (arith, nat_tests))
      | false ↦ λ e. let le : 64 ≤ n = grind (arith, nat_tests) in
          Spells-cons negative n _ le (digits_spell negative k (n / 128) (omega arith))
    ]
    refl

pub leb_spells : (negative : Bool) (n : ℕ) → Spells negative (leb (from_magnitude negative n)) n
unfolding leb
leb_spells false n = digits_spell false n n (omega arith)
leb_spells true n = digits_spell true n n (omega arith)

same_magnitude : (s t : Bool) (m n : ℕ) → from_magnitude s m ≡ from_magnitude t n → (s ≡ t) × (m ≡ n)
same_magnitude false false m n e = (refl, cc)
same_magnitude true true m n e = (refl, cc)
same_magnitude false true m n e = absurd (cc)
same_magnitude true false m n e = absurd (cc)

pub Spells-signed_value : {negative : Bool} {bytes : List ℕ} {n : ℕ} → Spells negative bytes n → signed_value bytes ≡ from_magnitude negative n
Spells-signed_value {negative = negative} {bytes = bytes} {n = n} s =
    signed_value-magnitude bytes ∙ ap (λ t. from_magnitude t (magnitude t bytes)) s.sign ∙ ap (from_magnitude negative) s.value

-- the sign and the magnitude of whatever spells the number
of_value : (negative : Bool) (other : List ℕ) (n : ℕ) → signed_value other ≡ from_magnitude negative n → (ends_negative other ≡ negative) × (magnitude negative other ≡ n)
of_value negative other n e =
    let both = same_magnitude _ _ _ _ (sym (signed_value-magnitude other) ∙ e) in
    (both.0, sym (ap (λ t. magnitude t other) both.0) ∙ both.1)

nonempty : (len : ℕ) (other : List ℕ) → len ≡ 1 → IsSpelling other → len ≤ length other
nonempty len [] one h = absurd h
nonempty len (x ∷ other) one h = omega arith

pub not_shorter_signed : (negative : Bool) (len m n : ℕ) (other : List ℕ) → IsSpelling other → ends_negative other ≡ negative → magnitude negative other ≡ n → len ≡ suc (suc m) → 64 * 128 ^ m ≤ n → len ≤ length other
not_shorter_signed negative len m n [] s e v l p = absurd s
not_shorter_signed negative len m n (b ∷ other) s e v l p =
    let lt = magnitude-lt negative (b ∷ other) (length other) s e refl in
    ⊎_elim (λ g. omega arith) (λ g. absurd (omega (arith, pow-le-pow_right {n = 128} (omega arith) {i = length other} {j = m} g))) (cases_lt m (length other))

pub IsLeb-from_tight : (negative : Bool) (bytes : List ℕ) (n : ℕ) → Spells negative bytes n → IsLeb bytes (from_magnitude negative n)
IsLeb-from_tight negative bytes n s = record {
  spelling = s.spelling;
  value_is = Spells-signed_value s;
  shortest = λ other h e. let w = of_value negative other n e in ⊎_elim
      (λ one. nonempty (length bytes) other one h)
      (λ t. not_shorter_signed negative (length bytes) t.0 n other h w.0 w.1 t.1 t.2)
      s.tight;
}

same_digits : (negative : Bool) (x y a b : ℕ) → digit negative x + 128 * a ≡ digit negative y + 128 * b → (x % 128 ≡ y % 128) × (a ≡ b)
same_digits true x y a b e = (omega arith, omega arith)
same_digits false x y a b e = (omega arith, omega arith)

-- two spellings of one length, one sign and one magnitude are one
same_spelling : (negative : Bool) (a b : List ℕ) → IsSpelling a → IsSpelling b → length a ≡ length b → magnitude negative a ≡ magnitude negative b → a ≡ b
same_spelling negative [] b p q l v = absurd p
same_spelling negative (x ∷ a) [] p q l v = absurd q
same_spelling negative (x ∷ []) (y ∷ []) p q l v = ap (λ z. z ∷ []) (omega (arith, (same_digits negative x y 0 0 v).0))
same_spelling negative (x ∷ []) (y ∷ z ∷ b) p q l v = absurd (omega arith)
same_spelling negative (x ∷ z ∷ a) (y ∷ []) p q l v = absurd (omega arith)
same_spelling negative (x ∷ c ∷ a) (y ∷ d ∷ b) p q l v =
    let w = same_digits negative x y (magnitude negative (c ∷ a)) (magnitude negative (d ∷ b)) v in
    let heads : x ≡ y = omega (arith, w.0, p.0, p.1, q.0, q.1) in
    let tails : c ∷ a ≡ d ∷ b = same_spelling negative (c ∷ a) (d ∷ b) p.2 q.2 (omega arith) w.1 in
    cc

pub signs : (z : ℤ) → (negative : Bool) × (n : ℕ) × (z ≡ from_magnitude negative n)
signs (pos n) = (false, n, refl)
signs (negsuc n) = (true, n, refl)

pub leb_is : (z : ℤ) → IsLeb (leb z) z
leb_is z = let w = signs z in subst (λ x. IsLeb (leb x) x) (sym w.2) (IsLeb-from_tight w.0 _ w.1 (leb_spells w.0 w.1))

pub IsLeb-is_leb : (bytes : List ℕ) (z : ℤ) → IsLeb bytes z → bytes ≡ leb z
IsLeb-is_leb bytes z h =
    let other = leb_is z in
    let w = signs z in
    let mine = of_value w.0 bytes w.1 (h.value_is ∙ w.2) in
    let its = of_value w.0 (leb z) w.1 (other.value_is ∙ w.2) in
    same_spelling w.0 bytes (leb z) h.spelling other.spelling (omega (arith, h.shortest (leb z) other.spelling other.value_is, other.shortest bytes h.spelling h.value_is)) (mine.1 ∙ sym its.1)

pub IsLeb_iff : (z : ℤ) (bytes : List ℕ) → IsLeb bytes z ↔ (bytes ≡ leb z)
IsLeb_iff z bytes = (IsLeb-is_leb bytes z, λ e. subst (λ s. IsLeb s z) (sym e) (leb_is z))

-- the equations of leb
pub leb-one : (negative : Bool) (n : ℕ) → n < 64 → leb (from_magnitude negative n) ≡ seven_bits negative n ∷ []
leb-one negative n h = sym (IsLeb-is_leb _ _ (IsLeb-from_tight negative _ n (Spells-one negative n h)))

pub leb-more : (negative : Bool) (n : ℕ) → 64 ≤ n → leb (from_magnitude negative n) ≡ (seven_bits negative (n % 128) + 128) ∷ leb (from_magnitude negative (n / 128))
leb-more negative n h = sym (IsLeb-is_leb _ _ (IsLeb-from_tight negative _ n (Spells-cons negative n _ h (leb_spells negative (n / 128)))))

pub length_leb-one : (negative : Bool) (n : ℕ) → n < 64 → length (leb (from_magnitude negative n)) ≡ 1
length_leb-one negative n h = ap length (leb-one negative n h)

pub length_leb-more : (negative : Bool) (n : ℕ) → 64 ≤ n → length (leb (from_magnitude negative n)) ≡ suc (length (leb (from_magnitude negative (n / 128))))
length_leb-more negative n h = ap length (leb-more negative n h)

pub length_leb-le : (negative : Bool) (n : ℕ) → n < 2 ^ 63 → length (leb (from_magnitude negative n)) ≤ 10
length_leb-le negative n h = ⊎_elim (λ one. omega arith)
    (λ w. ⊎_elim (λ lt. omega (arith, w.1)) (λ le. absurd (omega (arith, w.2, pow-le-pow_right {n = 128} (omega arith) {i = 9} {j = w.0} le))) (cases_lt w.0 9))
    (leb_spells negative n).tight

pub length_leb-pos : (z : ℤ) → 1 ≤ length (leb z)
length_leb-pos z = nonempty 1 (leb z) refl (leb_is z).spelling

-- the length is that of the magnitude
same_length : (k n : ℕ) → length (signed_digits true k n) ≡ length (signed_digits false k n)
unfolding signed_digits
same_length zero n = refl
same_length (suc k) n = elim (nat_lt n 64) as (λ b. length {A = ℕ} (elim b [ true ↦ seven_bits true n ∷ [] | false ↦ (seven_bits true (n % 128) + 128) ∷ signed_digits true k (n / 128) ]) ≡ length {A = ℕ} (elim b [ true ↦ seven_bits false n ∷ [] | false ↦ (seven_bits false (n % 128) + 128) ∷ signed_digits false k (n / 128) ]))
    [ true ↦ refl | false ↦ ap suc (same_length k (n / 128)) ]

pub length_leb : (negative : Bool) (n : ℕ) → length (leb (from_magnitude negative n)) ≡ length (leb (pos n))
unfolding leb
length_leb false n = refl
length_leb true n = same_length n n

pub magnitude-bound : (negative : Bool) (bytes : List ℕ) → magnitude negative bytes < 128 ^ length bytes
magnitude-bound negative [] = omega arith
magnitude-bound negative (b ∷ bytes) = rw pow-succ' (omega (arith, digit-lt negative b, magnitude-bound negative bytes))

-- a spelling as long as the shortest one is it
pub IsLeb-from_length : (bytes : List ℕ) → IsSpelling bytes → length bytes ≤ length (leb (signed_value bytes)) → IsLeb bytes (signed_value bytes)
IsLeb-from_length bytes s h = record {
  spelling = s;
  value_is = refl;
  shortest = λ other p e. omega (arith, h, (leb_is (signed_value bytes)).shortest other p e);
}

pub ends_negative-last : (bytes : List ℕ) → 0 < length bytes → ends_negative bytes ≡ nat_le 64 (get_or bytes (length bytes - 1) 0)
ends_negative-last [] h = absurd (omega arith)
ends_negative-last (b ∷ []) h = refl
ends_negative-last (b ∷ c ∷ bytes) h = ends_negative-last (c ∷ bytes) (omega arith) ∙ ap (λ i. nat_le 64 (get_or (b ∷ c ∷ bytes) i 0)) (let e : suc (length (c ∷ bytes) - 1) ≡ length (b ∷ c ∷ bytes) - 1 = omega arith in e)

-- A magnitude takes as many bytes as its double, or one more than that, does without a sign.
twice : (fuel n b : ℕ) → n ≤ fuel → b ≤ 1 → length (uleb (2 * n + b)) ≡ length (leb (pos n))
twice zero n b f h = length_uleb-one (2 * n + b) (omega arith) ∙ sym (length_leb-one false n (omega arith))
twice (suc fuel) n b f h = ⊎_elim
    (λ lt. length_uleb-one (2 * n + b) (omega arith) ∙ sym (length_leb-one false n lt))
    (λ le. length_uleb-more (2 * n + b) (omega arith)
    ∙ ap suc (ap (λ k. length (uleb k)) (omega arith) ∙ twice fuel (n / 128) ((2 * n + b) / 128 - 2 * (n / 128)) (omega arith) (omega arith))
    ∙ sym (length_leb-more false n le))
    (cases_lt n 64)

pub length_twice : (n : ℕ) → length (uleb (2 * n)) ≡ length (leb (pos n))
length_twice n = ap (λ k. length (uleb k)) (omega arith) ∙ twice n n 0 (omega arith) (omega arith)
