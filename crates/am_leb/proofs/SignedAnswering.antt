-- The clauses of read_i, as laws about reading by one function.
use Rattle.std.proofs.Common.{◌≡◌, ℕ, ◌^◌, ◌<◌, ◌≤◌, List, ◌++◌, length, take, Some, None, Result, Ok, Err, pos, ℤ, refl, sym, ap, ◌∙◌, inl, inr, ⊎_elim, ◌⊎◌, ◌↔◌, subst, arith, Bool, true, false, w64, FitsSigned}
use Rattle.std.specs.List.{All}
use Rattle.std.specs.Result.{IfOk}
use Rattle.std.proofs.lemmas.Int.{ints}
use Rattle.std.proofs.lemmas.List.{length-take-le}
use Rattle.am_leb.specs.declared.fault.LebFault.{LebFault}
use Rattle.am_leb.specs.declared.fault.LebFault.TheVariants.{Short, Long, Large}
use Rattle.am_leb.specs.Leb.{IsLeb, leb, ends_negative, signed_value, BeginsWith}
use Rattle.am_leb.specs.Reading.{end_within, signed_at, first_signed, magnitude, from_magnitude}
use Rattle.am_leb.proofs.Ends.{IsEnd-from_within}
use Rattle.am_leb.proofs.SignedLaws.{length_leb, IsLeb-is_leb, IsLeb-from_length, signed_value-magnitude, signs}
use Rattle.am_leb.proofs.Answering.{IsBytes, by_lt, begins, high, no_end, ends, same_end, whole, whole_back, first_signed-leb}

-- a number fits 64 bits exactly where its magnitude fits 63
pub fits : (negative : Bool) (n : ℕ) → n < 2 ^ 63 → FitsSigned w64 (from_magnitude negative n)
fits true n h = omega (arith, ints)
fits false n h = omega (arith, ints)

pub fits_only : (negative : Bool) (n : ℕ) → FitsSigned w64 (from_magnitude negative n) → n < 2 ^ 63
fits_only true n h = omega (arith, ints)
fits_only false n h = omega (arith, ints)

fits_value : (s : List ℕ) → magnitude (ends_negative s) s < 2 ^ 63 → FitsSigned w64 (signed_value s)
fits_value s h = subst (λ z. FitsSigned w64 z) (sym (signed_value-magnitude s)) (fits (ends_negative s) (magnitude (ends_negative s) s) h)

fits_value_only : (s : List ℕ) → FitsSigned w64 (signed_value s) → magnitude (ends_negative s) s < 2 ^ 63
fits_value_only s f = fits_only (ends_negative s) (magnitude (ends_negative s) s) (subst (λ z. FitsSigned w64 z) (signed_value-magnitude s) f)

-- the five ways in which reading ends
pub by_cases : (bytes : List ℕ) (P : Result (ℤ × ℕ) LebFault → Type 0)
    → (end_within 10 bytes ≡ None → length bytes < 10 → P (Err Short))
    → (end_within 10 bytes ≡ None → 10 ≤ length bytes → P (Err Large))
    → ((len : ℕ) → end_within 10 bytes ≡ Some len → (¬ FitsSigned w64 (signed_value (take len bytes))) → P (Err Large))
    → ((len : ℕ) → end_within 10 bytes ≡ Some len → FitsSigned w64 (signed_value (take len bytes)) → length (leb (signed_value (take len bytes))) < len → P (Err Long))
    → ((len : ℕ) → end_within 10 bytes ≡ Some len → FitsSigned w64 (signed_value (take len bytes)) → len ≤ length (leb (signed_value (take len bytes))) → P (Ok (signed_value (take len bytes), len)))
    → P (first_signed bytes)
unfolding first_signed
by_cases bytes P short cut large long found = elim (end_within 10 bytes) as (λ o. end_within 10 bytes ≡ o → P (signed_at bytes o)) [
  | None ↦ λ e. by_lt (length bytes) 10 (λ h t. rw t (short e h)) (λ h t. rw t (cut e h))
  | Some len ↦ λ e. let s = take len bytes in let n = magnitude (ends_negative s) s in
      let v : signed_value s ≡ from_magnitude (ends_negative s) n = signed_value-magnitude s in
      let l : length (leb (signed_value s)) ≡ length (leb (pos n)) = ap (λ z. length (leb z)) v ∙ length_leb (ends_negative s) n in
      by_lt n (2 ^ 63)
      (λ h t. by_lt (length (leb (pos n))) len
      (λ g u. rw (t, u) (long len e (fits_value s h) (omega (arith, l))))
      (λ g u. rw (t, u) (subst (λ z. P (Ok (z, len))) v (found len e (fits_value s h) (omega (arith, l))))))
      (λ h t. rw t (large len e (λ f. omega (arith, fits_value_only s f))))
]
    refl

abbrev pub Found : List ℕ → Result (ℤ × ℕ) LebFault → Type 0
Found bytes r = IfOk r (λ x. FitsSigned w64 x.0 × (x.1 ≤ length bytes) × IsLeb (take x.1 bytes) x.0)

abbrev pub ShortExactly : List ℕ → Result (ℤ × ℕ) LebFault → Type 0
ShortExactly bytes r = (r ≡ Err Short) ↔ ((length bytes < 10) × All (λ b. 128 ≤ b) bytes)

abbrev pub LongExactly : List ℕ → Result (ℤ × ℕ) LebFault → Type 0
LongExactly bytes r = (r ≡ Err Long) ↔ BeginsWith bytes (λ s. FitsSigned w64 (signed_value s) × (¬ IsLeb s (signed_value s)))

abbrev pub LargeExactly : List ℕ → Result (ℤ × ℕ) LebFault → Type 0
LargeExactly bytes r = (r ≡ Err Large) ↔ (((10 ≤ length bytes) × All (λ b. 128 ≤ b) (take 10 bytes)) ⊎ BeginsWith bytes (λ s. ¬ FitsSigned w64 (signed_value s)))

pub shortest : (bytes : List ℕ) (len : ℕ) → IsBytes bytes → end_within 10 bytes ≡ Some len → len ≤ length (leb (signed_value (take len bytes))) → IsLeb (take len bytes) (signed_value (take len bytes))
shortest bytes len f e g =
    let w = IsEnd-from_within 10 bytes len f e in
    let l : length (take len bytes) ≡ len = length-take-le len bytes w.inside in
    IsLeb-from_length (take len bytes) w.spelling (omega arith)

not_shortest : (bytes : List ℕ) (len : ℕ) → IsBytes bytes → end_within 10 bytes ≡ Some len → length (leb (signed_value (take len bytes))) < len → ¬ IsLeb (take len bytes) (signed_value (take len bytes))
not_shortest bytes len f e g u =
    let w = IsEnd-from_within 10 bytes len f e in
    let l : length (take len bytes) ≡ len = length-take-le len bytes w.inside in
    omega (arith, ap length (IsLeb-is_leb _ _ u))

pub found : (bytes : List ℕ) → IsBytes bytes → Found bytes (first_signed bytes)
found bytes f = by_cases bytes (Found bytes) (λ _ _. tt) (λ _ _. tt) (λ _ _ _. tt) (λ _ _ _ _. tt)
    (λ len e h g. (h, (IsEnd-from_within 10 bytes len f e).inside, shortest bytes len f e g))

pub short_exactly : (bytes : List ℕ) → ShortExactly bytes (first_signed bytes)
short_exactly bytes = by_cases bytes (ShortExactly bytes)
    (λ e h. (λ _. (h, whole bytes (λ b. 128 ≤ b) h (high bytes e)), λ _. refl))
    (λ e h. (λ q. absurd (cc), λ w. absurd (omega (arith, w.0))))
    (λ len e h. (λ q. absurd (cc), λ w. absurd (ends bytes len e (whole_back bytes (λ b. 128 ≤ b) w.0 w.1))))
    (λ len e h g. (λ q. absurd (cc), λ w. absurd (ends bytes len e (whole_back bytes (λ b. 128 ≤ b) w.0 w.1))))
    (λ len e h g. (λ q. absurd (cc), λ w. absurd (ends bytes len e (whole_back bytes (λ b. 128 ≤ b) w.0 w.1))))

abbrev IsLong : List ℕ → Type 0
IsLong s = FitsSigned w64 (signed_value s) × (¬ IsLeb s (signed_value s))

pub long_exactly : (bytes : List ℕ) → IsBytes bytes → LongExactly bytes (first_signed bytes)
long_exactly bytes f = by_cases bytes (LongExactly bytes)
    (λ e h. (λ q. absurd (cc), λ w. absurd (no_end bytes IsLong e w)))
    (λ e h. (λ q. absurd (cc), λ w. absurd (no_end bytes IsLong e w)))
    (λ len e h. (λ q. absurd (cc), λ w. absurd (h (same_end bytes IsLong len e w).0)))
    (λ len e h g. (λ _. begins bytes IsLong f len e (h, not_shortest bytes len f e g), λ _. refl))
    (λ len e h g. (λ q. absurd (cc), λ w. absurd ((same_end bytes IsLong len e w).1 (shortest bytes len f e g))))

abbrev IsLarge : List ℕ → Type 0
IsLarge s = ¬ FitsSigned w64 (signed_value s)

pub large_exactly : (bytes : List ℕ) → IsBytes bytes → LargeExactly bytes (first_signed bytes)
large_exactly bytes f = by_cases bytes (LargeExactly bytes)
    (λ e h. (λ q. absurd (cc), λ w. ⊎_elim (λ p. absurd (omega (arith, p.0))) (λ p. absurd (no_end bytes IsLarge e p)) w))
    (λ e h. (λ _. inl (h, high bytes e), λ _. refl))
    (λ len e h. (λ _. inr (begins bytes IsLarge f len e h), λ _. refl))
    (λ len e h g. (λ q. absurd (cc), λ w. ⊎_elim (λ p. absurd (ends bytes len e p.1)) (λ p. absurd (same_end bytes IsLarge len e p h)) w))
    (λ len e h g. (λ q. absurd (cc), λ w. ⊎_elim (λ p. absurd (ends bytes len e p.1)) (λ p. absurd (same_end bytes IsLarge len e p h)) w))

-- a spelling that stands first is read, whatever follows it
pub only : (bytes : List ℕ) (z : ℤ) (rest : List ℕ) → FitsSigned w64 z → bytes ≡ leb z ++ rest → first_signed bytes ≡ Ok (z, length (leb z))
only bytes z rest f e =
    let s = signs z in
    let small = fits_only s.0 s.1 (subst (λ x. FitsSigned w64 x) s.2 f) in
    ap first_signed e ∙ subst (λ x. first_signed (leb x ++ rest) ≡ Ok (x, length (leb x))) (sym s.2) (first_signed-leb s.0 s.1 rest small)
