-- Where the spelling ends that begins some bytes.
use Rattle.std.proofs.Common.{◌≡◌, ℕ, suc, zero, ◌<◌, ◌≤◌, true, false, nat_lt, List, [], ◌∷◌, ◌++◌, length, take, get_or, Option, Some, None, refl, sym, ap, inl, inr, ⊎_elim, ◌⊎◌, subst, arith}
use Rattle.std.proofs.lemmas.Bool.Decides.{nat_tests}
use Rattle.std.specs.List.{AllByRecursion}
use Rattle.am_leb.specs.Leb.{IsSpelling}
use Rattle.am_leb.specs.Reading.{one_more, end_within}
use Rattle.am_leb.proofs.Laws.{IsSpelling-cons}

abbrev pub AllHigh : List ℕ → ℕ → Type 0
AllHigh bytes n = (k : ℕ) → k < n → 128 ≤ get_or bytes k 0

pub end_within-found : (k : ℕ) (bytes : List ℕ) (i : ℕ) → i < k → i < length bytes → AllHigh bytes i → get_or bytes i 0 < 128 → end_within k bytes ≡ Some (suc i)
end_within-found zero bytes i p q h l = absurd (omega arith)
end_within-found (suc k) [] i p q h l = absurd (omega arith)
end_within-found (suc k) (b ∷ bytes) zero p q h l = let e : nat_lt b 128 ≡ true = grind (arith, nat_tests) in rw e refl
end_within-found (suc k) (b ∷ bytes) (suc i) p q h l =
    let e : nat_lt b 128 ≡ false = (let x : 128 ≤ b = h 0 (omega arith) in grind (arith, nat_tests)) in
    let r : end_within k bytes ≡ Some (suc i) = end_within-found k bytes i (omega arith) (omega arith) (λ j lt. h (suc j) (omega arith)) l in
    rw (e, r) refl

pub end_within-none : (k : ℕ) (bytes : List ℕ) (n : ℕ) → AllHigh bytes n → (k ≤ n) ⊎ (length bytes ≤ n) → end_within k bytes ≡ None
end_within-none zero bytes n h e = refl
end_within-none (suc k) [] n h e = refl
end_within-none (suc k) (b ∷ bytes) zero h e = absurd (⊎_elim (λ x. omega arith) (λ x. omega arith) e)
end_within-none (suc k) (b ∷ bytes) (suc n) h e =
    let t : nat_lt b 128 ≡ false = (let x : 128 ≤ b = h 0 (omega arith) in grind (arith, nat_tests)) in
    let r : end_within k bytes ≡ None = end_within-none k bytes n (λ j lt. h (suc j) (omega arith)) (⊎_elim (λ x. inl (omega arith)) (λ x. inr (omega arith)) e) in
    rw (t, r) refl

-- what the found end is
pub record IsEnd (k : ℕ) (bytes : List ℕ) (len : ℕ) : Type 0 where
  pub within : len ≤ k
  pub inside : len ≤ length bytes
  pub spelling : IsSpelling (take len bytes)

by_test : {P : Type 0} (b : ℕ) → (b < 128 → nat_lt b 128 ≡ true → P) → (128 ≤ b → nat_lt b 128 ≡ false → P) → P
by_test {P = P} b f g = elim (nat_lt b 128) as (λ t. nat_lt b 128 ≡ t → P)
    [ true ↦ λ e. f (grind (arith, nat_tests)) e | false ↦ λ e. g (grind (arith, nat_tests)) e ] refl

one_more-some : (o : Option ℕ) (n : ℕ) → one_more o ≡ Some n → (m : ℕ) × (o ≡ Some m) × (n ≡ suc m)
one_more-some None n e = absurd (cc)
one_more-some (Some m) n e = (m, refl, cc)

one_more-none : (o : Option ℕ) → one_more o ≡ None → o ≡ None
one_more-none None e = refl
one_more-none (Some m) e = absurd (cc)

pub IsEnd-from_within : (k : ℕ) (bytes : List ℕ) (len : ℕ) → ((i : ℕ) → get_or bytes i 0 < 256) → end_within k bytes ≡ Some len → IsEnd k bytes len
IsEnd-from_within zero bytes len f e = absurd (cc)
IsEnd-from_within (suc k) [] len f e = absurd (cc)
IsEnd-from_within (suc k) (b ∷ bytes) len f e = by_test b
    (λ lt t. let one : Some 1 ≡ Some len = rw t at e in
    let len_is : 1 ≡ len = cc in
    subst (λ n. IsEnd (suc k) (b ∷ bytes) n) len_is (record { within = omega arith; inside = omega arith; spelling = lt }))
    (λ le t. let w = one_more-some (end_within k bytes) len (rw t at e) in
    let rest = IsEnd-from_within k bytes w.0 (λ i. f (suc i)) w.1 in
    subst (λ n. IsEnd (suc k) (b ∷ bytes) n) (sym w.2) (record { within = omega (arith, rest.within); inside = omega (arith, rest.inside); spelling = IsSpelling-cons _ _ le (f 0) rest.spelling }))

-- a spelling ends where it ends, whatever follows it
pub end_within-spelling : (k : ℕ) (bytes rest : List ℕ) → IsSpelling bytes → length bytes ≤ k → end_within k (bytes ++ rest) ≡ Some (length bytes)
end_within-spelling k [] rest s h = absurd s
end_within-spelling zero (b ∷ bytes) rest s h = absurd (omega arith)
end_within-spelling (suc k) (b ∷ []) rest s h = let e : nat_lt b 128 ≡ true = grind (arith, nat_tests) in rw e refl
end_within-spelling (suc k) (b ∷ c ∷ bytes) rest s h =
    let e : nat_lt b 128 ≡ false = (let x = s.0 in grind (arith, nat_tests)) in
    let r = end_within-spelling k (c ∷ bytes) rest s.2 (omega arith) in
    rw e (ap one_more r)

pub end_within-high : (k : ℕ) (bytes : List ℕ) → end_within k bytes ≡ None → AllByRecursion (λ b. 128 ≤ b) (take k bytes)
end_within-high zero bytes e = tt
end_within-high (suc k) [] e = tt
end_within-high (suc k) (b ∷ bytes) e = by_test b
    (λ lt t. let s : Some 1 ≡ None = rw t at e in absurd (cc))
    (λ le t. (le, end_within-high k bytes (one_more-none (end_within k bytes) (rw t at e))))

-- the end depends on the bytes up to it alone
pub end_within-front : (k : ℕ) (bytes : List ℕ) (n : ℕ) → end_within k bytes ≡ Some n → (n ≤ length bytes) × ((rest : List ℕ) → end_within k (take n bytes ++ rest) ≡ Some n)
end_within-front zero bytes n e = absurd (cc)
end_within-front (suc k) [] n e = absurd (cc)
end_within-front (suc k) (b ∷ bytes) n e = by_test b
    (λ lt t. let one : Some 1 ≡ Some n = rw t at e in
    let n_is : 1 ≡ n = cc in
    subst (λ m. (m ≤ length (b ∷ bytes)) × ((rest : List ℕ) → end_within (suc k) (take m (b ∷ bytes) ++ rest) ≡ Some m)) n_is (omega arith, λ rest. rw t refl))
    (λ le t. let w = one_more-some (end_within k bytes) n (rw t at e) in
    let v = end_within-front k bytes w.0 w.1 in
    subst (λ m. (m ≤ length (b ∷ bytes)) × ((rest : List ℕ) → end_within (suc k) (take m (b ∷ bytes) ++ rest) ≡ Some m)) (sym w.2) (omega (arith, v.0), λ rest. rw t (ap one_more (v.1 rest))))
