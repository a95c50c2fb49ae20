-- Bytes of one length make one number only if they are the same.
use Rattle.std.proofs.Common.{ℕ, suc, ◌≡◌, ◌+◌, ◌*◌, ◌^◌, ◌<◌, ◌≤◌, List, [], ◌∷◌, length, refl, sym, ap, ◌∙◌, subst, inl, inr, arith}
use Rattle.std.proofs.Math.Nat.{pow-le-pow_right, pow-suc}
use Rattle.std.specs.Ordering.{is_eq}
use Rattle.std.proofs.lemmas.Bool.{cases_Bool, both_ways}
use Rattle.std.proofs.lemmas.Cmp.{nat_list_eq_equiv}
use Rattle.std.proofs.lemmas.List.Elements.{All-head, All-tail}
use Rattle.am_types.specs.Bytes.{IsBytes}
use Rattle.am_types.specs.Same.{same_bytes}
use Rattle.am_types.proofs.Orders.{same_bytes-true}
use Rattle.am_graph.specs.Numbers.{word_from, key_of, key_cmp}
use Rattle.am_graph.proofs.Noting.{same_pair, pair_itself}

head_of : (x : ℕ) (xs : List ℕ) → IsBytes (x ∷ xs) → x < 256
head_of x xs h = All-head (λ b. b < 2 ^ 8) x xs h

tail_of : (x : ℕ) (xs : List ℕ) → IsBytes (x ∷ xs) → IsBytes xs
tail_of x xs h = All-tail (λ b. b < 2 ^ 8) x xs h

-- the last digit, and those before it
digits : (n m x y : ℕ) → x < 256 → y < 256 → n * 256 + x ≡ m * 256 + y → (n ≡ m) × (x ≡ y)
digits n m x y lx ly e = (omega arith, omega arith)

same_words : (n m : ℕ) (xs ys : List ℕ) → IsBytes xs → IsBytes ys → length xs ≡ length ys → word_from n xs ≡ word_from m ys → (n ≡ m) × (xs ≡ ys)
same_words n m [] [] bx by l e = (e, refl)
same_words n m [] (y ∷ ys) bx by l e = absurd (omega arith)
same_words n m (x ∷ xs) [] bx by l e = absurd (omega arith)
same_words n m (x ∷ xs) (y ∷ ys) bx by l e =
    let again = same_words (n * 256 + x) (m * 256 + y) xs ys (tail_of x xs bx) (tail_of y ys by) (omega arith) e in
    let parts = digits n m x y (head_of x xs bx) (head_of y ys by) again.0 in
    (parts.0, λ i. parts.1 i ∷ again.1 i)

-- keys tell texts apart
pub keys_tell : (t y : List ℕ) → IsBytes t → IsBytes y → is_eq (key_cmp (key_of y) (key_of t)) ≡ same_bytes t y
keys_tell t y bt by = elim (cases_Bool (same_bytes t y)) [
  | inl s ↦ ap (λ u. is_eq (key_cmp (key_of y) (key_of u))) (same_bytes-true t y s) ∙ pair_itself (key_of y) ∙ sym s
  | inr s ↦ elim (cases_Bool (is_eq (key_cmp (key_of y) (key_of t)))) [
    | inl k ↦
        (let same : key_of y ≡ key_of t = same_pair (key_of y) (key_of t) k in
        let is : y ≡ t = (same_words 0 0 y t by bt (ap (λ p. p.1) same) (ap (λ p. p.0) same)).1 in
        absurd (both_ways (same_bytes t y) s (ap (same_bytes t) is ∙ nat_list_eq_equiv.refl t)))
    | inr k ↦ k ∙ sym s
  ]
]

-- ---- digit by digit

pub digit_more : (w b i : ℕ) → w < 256 ^ i → b < 256 → w * 256 + b < 256 ^ (i + 1)
digit_more w b i l m =
    let p : 256 ^ suc i ≡ 256 ^ i * 256 = pow-suc 256 i in
    let q : i + 1 ≡ suc i = omega arith in
    let h : w * 256 + b < 256 ^ i * 256 = room w b (256 ^ i) l m in
    subst (λ j. w * 256 + b < 256 ^ j) (sym q) (subst (λ x. w * 256 + b < x) (sym p) h)
  where
    room : (w b t : ℕ) → w < t → b < 256 → w * 256 + b < t * 256
    room w b t l m = omega arith

-- sixteen digits stand in 128 bits
pub few_digits : (w b i : ℕ) → i < 16 → w < 256 ^ i → b < 256 → w * 256 + b < 340282366920938463463374607431768211456
few_digits w b i l h m = le (digit_more w b i h m) (pow-le-pow_right {n = 256} (omega arith) {i = i + 1} {j = 16} (omega arith))
  where
    le : {a b c : ℕ} → a < b → b ≤ c → a < c
    le h p = omega arith
