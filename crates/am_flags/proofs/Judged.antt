-- Which counts are canonical.
--     stands                the last count stands, unless a 0 is the only one
--     plain_from, plain_to  counts that are no 0 alone are canonical, and the other way round
--     maybe_from, maybe_to  counts of which one stands behind the first are canonical where falses are no bytes
--     no_flags              no bytes are canonical for no flags alone
--     plain_of_spelled, maybe_of_spelled     bytes that are canonical for one list are canonical for the list that they spell
--     plain_tells, maybe_tells     so they are its canonical spelling
use Rattle.std.proofs.Common.{◌≡◌, ℕ, zero, suc, ◌<◌, ◌≤◌, ◌^◌, List, [], ◌∷◌, ◌++◌, length, Bool, true, false, refl, sym, ap, ◌∙◌, subst, arith, inl, inr, ⊎_elim, length-append}
use Rattle.std.specs.Prelude.{replicate}
use Rattle.std.specs.List.{flat_map}
use Rattle.std.proofs.lemmas.List.{append-nil}
use Rattle.am_leb.specs.Leb.{uleb}
use Rattle.am_leb.proofs.Laws.{length_uleb-pos, uleb-one}
use Rattle.am_flags.specs.Flags.{alternating, AreCounts, OnlyFirstEmpty, LastStands, JoinsFlags, CanonFlags, AreFalse, CanonMaybe, SpellsFlags, canonical_bytes, canonical_maybe_bytes}
use Rattle.am_flags.proofs.Counts.{one_counts, one_number, numbers_first}
use Rattle.am_flags.proofs.Counting.{CanonFlags_iff, CanonMaybe_iff}
use Rattle.am_flags.proofs.Spellings.{JoinsFlags-from_canon, one_joined}

last_count : (counts : List ℕ) → AreCounts counts → LastStands counts
last_count [] h = tt
last_count (k ∷ []) h = h.0.0
last_count (k ∷ j ∷ counts) h = last_count (j ∷ counts) h.1

stands : (counts : List ℕ) → OnlyFirstEmpty counts → (counts ≡ 0 ∷ [] → ⊥) → LastStands counts
stands [] o n = tt
stands (zero ∷ []) o n = absurd (n refl)
stands (suc k ∷ []) o n = omega arith
stands (k ∷ j ∷ counts) o n = last_count (j ∷ counts) o.1

-- a count of 0 alone is the byte 0
zero_byte : flat_map uleb (0 ∷ []) ≡ 0 ∷ []
zero_byte = append-nil (uleb 0) ∙ uleb-one 0 (omega arith)

pub plain_from : (bytes : List ℕ) (most : ℕ) → (bytes ≡ 0 ∷ [] → ⊥) → (flags : List Bool) × JoinsFlags bytes flags × (length flags ≤ most) → (flags : List Bool) × CanonFlags bytes flags × (length flags ≤ most)
plain_from bytes most n w =
    let j = w.1 in
    (w.0, (j.0, j.1, stands j.0 j.1 (λ e. n (j.2 ∙ ap (flat_map uleb) e ∙ zero_byte)), j.2, j.3), w.2)

pub plain_to : (bytes : List ℕ) (most : ℕ) → (flags : List Bool) × CanonFlags bytes flags × (length flags ≤ most) → (flags : List Bool) × JoinsFlags bytes flags × (length flags ≤ most)
plain_to bytes most w = (w.0, JoinsFlags-from_canon bytes w.0 w.1, w.2)

pub no_zero : (bytes : List ℕ) (flags : List Bool) → CanonFlags bytes flags → bytes ≡ 0 ∷ [] → ⊥
no_zero bytes flags c e =
    let same : c.0 ≡ 0 ∷ [] = one_counts c.0 (0 ∷ []) (numbers_first c.0 c.1) (omega arith, tt) (sym c.3 ∙ e ∙ sym zero_byte) in
    let last : 1 ≤ 0 = subst LastStands same c.2 in
    omega arith

-- ---- where falses are no bytes

falses : (n : ℕ) → AreFalse (replicate n false)
falses zero = tt
falses (suc n) = (refl, falses n)

front_false : (xs ys : List Bool) → AreFalse (xs ++ ys) → AreFalse ys
front_false [] ys h = h
front_false (x ∷ xs) ys h = front_false xs ys h.1

some_true : (k : ℕ) (rest : List Bool) → 1 ≤ k → AreFalse (replicate k true ++ rest) → ⊥
some_true zero rest g h = omega arith
some_true (suc k) rest g h = let e = h.0 in absurd (cc)

maybe_counts : (bytes : List ℕ) (flags : List Bool) (counts : List ℕ) → OnlyFirstEmpty counts → bytes ≡ flat_map uleb counts → flags ≡ alternating false counts
    → (count : ℕ) (rest : List ℕ) → count < 2 ^ 64 → bytes ≡ uleb count ++ rest → 1 ≤ length rest → CanonMaybe bytes flags
maybe_counts bytes flags [] o b f count rest g e n = absurd (omega (arith, ap length b, ap length e, length-append (uleb count) rest))
maybe_counts bytes flags (k ∷ []) o b f count rest g e n =
    let w = one_number k count [] rest o.0 g (sym b ∙ e) in
    absurd (omega (arith, ap length w.1))
maybe_counts bytes flags (k ∷ j ∷ counts) o b f count rest g e n = inr (
  λ a. some_true j (alternating false counts) o.1.0.0 (front_false (replicate k false) (alternating true (j ∷ counts)) (subst AreFalse f a)),
  (k ∷ j ∷ counts, o, last_count (j ∷ counts) o.1, b, f),
)

pub maybe_from : (bytes : List ℕ) (most : ℕ) → (count : ℕ) × (rest : List ℕ) × (count < 2 ^ 64) × (bytes ≡ uleb count ++ rest) × (1 ≤ length rest)
    → (flags : List Bool) × JoinsFlags bytes flags × (length flags ≤ most) → (flags : List Bool) × CanonMaybe bytes flags × (length flags ≤ most)
maybe_from bytes most m w = (w.0, maybe_counts bytes w.0 w.1.0 w.1.1 w.1.2 w.1.3 m.0 m.1 m.2 m.3 m.4, w.2)

more_counts : (bytes : List ℕ) (flags : List Bool) (counts : List ℕ) → OnlyFirstEmpty counts → bytes ≡ flat_map uleb counts → flags ≡ alternating false counts → (AreFalse flags → ⊥)
    → (count : ℕ) × (rest : List ℕ) × (count < 2 ^ 64) × (bytes ≡ uleb count ++ rest) × (1 ≤ length rest)
more_counts bytes flags [] o b f n = absurd (n (subst AreFalse (sym f) tt))
more_counts bytes flags (k ∷ []) o b f n = absurd (n (subst AreFalse (sym (f ∙ append-nil (replicate k false))) (falses k)))
more_counts bytes flags (k ∷ j ∷ counts) o b f n =
    (k, flat_map uleb (j ∷ counts), o.0, b, omega (arith, length-append (uleb j) (flat_map uleb counts), length_uleb-pos j))

pub maybe_to : (bytes : List ℕ) (most : ℕ) → (bytes ≡ [] → ⊥) → (flags : List Bool) × CanonMaybe bytes flags × (length flags ≤ most)
    → ((count : ℕ) × (rest : List ℕ) × (count < 2 ^ 64) × (bytes ≡ uleb count ++ rest) × (1 ≤ length rest)) × ((flags : List Bool) × JoinsFlags bytes flags × (length flags ≤ most))
maybe_to bytes most n w = ⊎_elim
    (λ e. absurd (n e.1))
    (λ c. (more_counts bytes w.0 c.1.0 c.1.1 c.1.3 c.1.4 c.0, (w.0, JoinsFlags-from_canon bytes w.0 c.1, w.2)))
    w.1

-- ---- for the flags that are spelled

pub plain_of_spelled : (bytes : List ℕ) (xs ys : List Bool) → JoinsFlags bytes xs → CanonFlags bytes ys → CanonFlags bytes xs
plain_of_spelled bytes xs ys j c = subst (CanonFlags bytes) (one_joined bytes ys xs (JoinsFlags-from_canon bytes ys c) j) c

no_counts : (counts : List ℕ) → [] ≡ flat_map uleb counts → counts ≡ []
no_counts [] e = refl
no_counts (k ∷ counts) e = absurd (omega (arith, ap length e, length-append (uleb k) (flat_map uleb counts), length_uleb-pos k))

pub no_flags : (bytes : List ℕ) (flags : List Bool) → bytes ≡ [] → CanonFlags bytes flags → flags ≡ []
no_flags bytes flags e c = c.4 ∙ ap (alternating false) (no_counts c.0 (sym e ∙ c.3))

pub maybe_of_spelled : (bytes : List ℕ) (xs ys : List Bool) → SpellsFlags bytes xs → CanonMaybe bytes ys → CanonMaybe bytes xs
maybe_of_spelled bytes xs ys p c = ⊎_elim
    (λ n. inl n)
    (λ j. ⊎_elim
    (λ m. inl (subst AreFalse (sym (j.3 ∙ ap (alternating false) (no_counts j.0 (sym m.1 ∙ j.2)))) tt, m.1))
    (λ m. subst (CanonMaybe bytes) (one_joined bytes ys xs (JoinsFlags-from_canon bytes ys m.1) j) (inr m))
    c)
    p

pub plain_tells : (bytes : List ℕ) (xs ys : List Bool) → JoinsFlags bytes xs → length xs ≤ 2 ^ 32 → CanonFlags bytes ys → bytes ≡ canonical_bytes xs
plain_tells bytes xs ys j l c = (CanonFlags_iff xs bytes l).0 (plain_of_spelled bytes xs ys j c)

pub maybe_tells : (bytes : List ℕ) (xs ys : List Bool) → SpellsFlags bytes xs → length xs ≤ 2 ^ 32 → CanonMaybe bytes ys → bytes ≡ canonical_maybe_bytes xs
maybe_tells bytes xs ys p l c = (CanonMaybe_iff xs bytes l).0 (maybe_of_spelled bytes xs ys p c)
