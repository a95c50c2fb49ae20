-- The shortest unsigned spelling of a number is the one that its digits make.
use Rattle.std.proofs.Common.{◌≡◌, ℕ, suc, zero, ◌+◌, ◌^◌, ◌%◌, ◌/◌, ◌<◌, ◌≤◌, true, false, nat_lt, List, [], ◌∷◌, length, refl, sym, ap, ◌∙◌, inl, inr, ⊎_elim, ◌⊎◌, ◌↔◌, subst, arith}
use Rattle.std.proofs.Math.Nat.{pow-succ', pow-le-pow_right}
use Rattle.std.proofs.lemmas.Bool.Decides.{nat_tests}
use Rattle.std.proofs.lemmas.Bool.{cases_lt}
use Rattle.am_leb.specs.Leb.{IsSpelling, unsigned_value, IsUleb, digits, uleb}

pub unsigned_value-lt : (bytes : List ℕ) → unsigned_value bytes < 128 ^ length bytes
unsigned_value-lt [] = omega arith
unsigned_value-lt (b ∷ bytes) = rw pow-succ' (omega (arith, unsigned_value-lt bytes))

pub IsSpelling-cons : (b : ℕ) (bytes : List ℕ) → 128 ≤ b → b < 256 → IsSpelling bytes → IsSpelling (b ∷ bytes)
IsSpelling-cons b [] p q h = absurd h
IsSpelling-cons b (c ∷ bytes) p q h = (p, q, h)

-- no shorter list can hold so great a number
abbrev pub IsTight : ℕ → ℕ → Type 0
IsTight len n = (len ≡ 1) ⊎ ((m : ℕ) × (len ≡ suc m) × (128 ^ m ≤ n))

pub record Spells (bytes : List ℕ) (n : ℕ) : Type 0 where
  pub spelling : IsSpelling bytes
  pub value : unsigned_value bytes ≡ n
  pub tight : IsTight (length bytes) n

IsTight-cons : (len n : ℕ) → 128 ≤ n → IsTight len (n / 128) → IsTight (suc len) n
IsTight-cons len n h t = ⊎_elim
    (λ one. inr (1, omega arith, omega arith))
    (λ w. inr (suc w.0, omega (arith, w.1), rw pow-succ' (omega (arith, w.2))))
    t

pub Spells-cons : (n : ℕ) (bytes : List ℕ) → 128 ≤ n → Spells bytes (n / 128) → Spells ((n % 128 + 128) ∷ bytes) n
Spells-cons n bytes le rest = record {
  spelling = IsSpelling-cons _ _ (omega arith) (omega arith) rest.spelling;
  value = omega (arith, rest.value);
  tight = IsTight-cons _ n le rest.tight;
}

pub Spells-one : (n : ℕ) → n < 128 → Spells (n ∷ []) n
Spells-one n lt = record { spelling = lt; value = omega arith; tight = inl refl }

digits_spell : (k n : ℕ) → n ≤ k → Spells (digits k n) n
unfolding digits
digits_spell zero n h = Spells-one n (omega arith)
digits_spell (suc k) n h =
    elim (nat_lt n 128) as (λ b. nat_lt n 128 ≡ b → Spells (elim b [ true ↦ n ∷ [] | false ↦ (n % 128 + 128) ∷ digits k (n / 128) ]) n) [
      | true ↦ λ e. Spells-one n (grind (arith, nat_tests))
      | false ↦ λ e. let le : 128 ≤ n = grind (arith, nat_tests) in
          Spells-cons n _ le (digits_spell k (n / 128) (omega arith))
    ]
    refl

pub uleb_spells : (n : ℕ) → Spells (uleb n) n
unfolding uleb
uleb_spells n = digits_spell n n (omega arith)

nonempty : (bytes other : List ℕ) → length bytes ≡ 1 → IsSpelling other → length bytes ≤ length other
nonempty bytes [] one h = absurd h
nonempty bytes (x ∷ other) one h = omega arith

pub not_shorter : (len short m n : ℕ) → len ≡ suc m → 128 ^ m ≤ n → n < 128 ^ short → len ≤ short
not_shorter len short m n e p q = ⊎_elim (λ lt. omega arith) (λ le. absurd (omega (arith, pow-le-pow_right {n = 128} (omega arith) {i = short} {j = m} le))) (cases_lt m short)

pub IsUleb-from_tight : {bytes : List ℕ} {n : ℕ} → Spells bytes n → IsUleb bytes n
IsUleb-from_tight {bytes = bytes} {n = n} s = record {
  spelling = s.spelling;
  value_is = s.value;
  shortest = λ other h e. ⊎_elim
      (λ one. nonempty bytes other one h)
      (λ w. not_shorter (length bytes) (length other) w.0 n w.1 w.2 (subst (λ v. v < 128 ^ length other) e (unsigned_value-lt other)))
      s.tight;
}

-- two spellings of one length and one value are one
pub same_spelling : (a b : List ℕ) → IsSpelling a → IsSpelling b → length a ≡ length b → unsigned_value a ≡ unsigned_value b → a ≡ b
same_spelling [] b p q l v = absurd p
same_spelling (x ∷ a) [] p q l v = absurd q
same_spelling (x ∷ []) (y ∷ []) p q l v = ap (λ z. z ∷ []) (omega arith)
same_spelling (x ∷ []) (y ∷ z ∷ b) p q l v = absurd (omega arith)
same_spelling (x ∷ z ∷ a) (y ∷ []) p q l v = absurd (omega arith)
same_spelling (x ∷ c ∷ a) (y ∷ d ∷ b) p q l v =
    let heads : x ≡ y = omega (arith, p.0, p.1, q.0, q.1) in
    let tails : c ∷ a ≡ d ∷ b = same_spelling (c ∷ a) (d ∷ b) p.2 q.2 (omega arith) (omega arith) in
    cc

pub uleb_is : (n : ℕ) → IsUleb (uleb n) n
uleb_is n = IsUleb-from_tight (uleb_spells n)

pub IsUleb-is_uleb : {bytes : List ℕ} {n : ℕ} → IsUleb bytes n → bytes ≡ uleb n
IsUleb-is_uleb {bytes = bytes} {n = n} h =
    let other = uleb_is n in
    same_spelling bytes (uleb n) h.spelling other.spelling (omega (arith, h.shortest (uleb n) other.spelling other.value_is, other.shortest bytes h.spelling h.value_is)) (h.value_is ∙ sym other.value_is)

pub IsUleb_iff : (n : ℕ) (bytes : List ℕ) → IsUleb bytes n ↔ (bytes ≡ uleb n)
IsUleb_iff n bytes = (IsUleb-is_uleb, λ e. subst (λ s. IsUleb s n) (sym e) (uleb_is n))

-- the equations of uleb
pub uleb-one : (n : ℕ) → n < 128 → uleb n ≡ n ∷ []
uleb-one n h = sym (IsUleb-is_uleb (IsUleb-from_tight (Spells-one n h)))

pub uleb-more : (n : ℕ) → 128 ≤ n → uleb n ≡ (n % 128 + 128) ∷ uleb (n / 128)
uleb-more n h = sym (IsUleb-is_uleb (IsUleb-from_tight (Spells-cons n _ h (uleb_spells (n / 128)))))

-- a spelling as long as the shortest one is it
pub IsUleb-from_length : (bytes : List ℕ) → IsSpelling bytes → length bytes ≤ length (uleb (unsigned_value bytes)) → IsUleb bytes (unsigned_value bytes)
IsUleb-from_length bytes s h = record {
  spelling = s;
  value_is = refl;
  shortest = λ other p e. omega (arith, h, (uleb_is (unsigned_value bytes)).shortest other p e);
}

pub length_uleb-le : (n : ℕ) → n < 2 ^ 64 → length (uleb n) ≤ 10
length_uleb-le n h = ⊎_elim (λ one. omega arith)
    (λ w. ⊎_elim (λ lt. omega (arith, w.1)) (λ le. absurd (omega (arith, w.2, pow-le-pow_right {n = 128} (omega arith) {i = 10} {j = w.0} le))) (cases_lt w.0 10))
    (uleb_spells n).tight

pub length_uleb-pos : (n : ℕ) → 1 ≤ length (uleb n)
length_uleb-pos n = nonempty (0 ∷ []) (uleb n) refl (uleb_spells n).spelling

pub length_uleb-one : (n : ℕ) → n < 128 → length (uleb n) ≡ 1
length_uleb-one n h = ap length (uleb-one n h)

pub length_uleb-more : (n : ℕ) → 128 ≤ n → length (uleb n) ≡ suc (length (uleb (n / 128)))
length_uleb-more n h = ap length (uleb-more n h)
