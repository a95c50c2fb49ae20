-- Names compare as their fronts do, where these differ.
use Rattle.std.proofs.Common.{ℕ, zero, suc, ◌≡◌, ◌+◌, ◌*◌, ◌-◌, ◌^◌, ◌<◌, ◌≤◌, List, [], ◌∷◌, drop, get_or, length, min, refl, sym, ap, ◌∙◌, subst, inl, inr, arith}
use Rattle.std.proofs.Math.Nat.{pow-le-pow_right, pow-suc}
use Rattle.std.specs.Cmp.{nat_cmp_is, ranks}
use Rattle.std.specs.Ordering.{MatchOrdering, nat_cmp, ordering_reverse, ordering_then}
use Rattle.std.specs.declared.cmp.Ordering.TheVariants.{Less, Equal, Greater}
use Rattle.std.proofs.lemmas.Bool.{cases_lt}
use Rattle.std.proofs.lemmas.Cmp.{nat_list_cmp_total}
use Rattle.std.proofs.lemmas.List.Elements.{All-head, All-tail}
use Rattle.am_types.specs.Bytes.{IsBytes}
use Rattle.am_types.specs.Order.{bytes_cmp}
use Rattle.am_merge.specs.Fronts.{spelled, front_of}

head_of : (x : ℕ) (xs : List ℕ) → IsBytes (x ∷ xs) → x < 256
head_of x xs h = All-head (λ b. b < 2 ^ 8) x xs h

tail_of : (x : ℕ) (xs : List ℕ) → IsBytes (x ∷ xs) → IsBytes xs
tail_of x xs h = All-tail (λ b. b < 2 ^ 8) x xs h

-- the digits before tell first
pub lower : (n m k : ℕ) (xs ys : List ℕ) → n < m → IsBytes xs → spelled n k xs < spelled m k ys
lower n m zero xs ys l bx = l
lower n m (suc k) [] [] l bx = lower (n * 256) (m * 256) k [] [] (omega arith) bx
lower n m (suc k) [] (y ∷ ys) l bx = lower (n * 256) (m * 256 + y) k [] ys (omega arith) bx
lower n m (suc k) (x ∷ xs) [] l bx = let b = head_of x xs bx in lower (n * 256 + x) (m * 256) k xs [] (omega arith) (tail_of x xs bx)
lower n m (suc k) (x ∷ xs) (y ∷ ys) l bx = let b = head_of x xs bx in lower (n * 256 + x) (m * 256 + y) k xs ys (omega arith) (tail_of x xs bx)

first_less : (x y : ℕ) (xs ys : List ℕ) → x < y → bytes_cmp (x ∷ xs) (y ∷ ys) ≡ Less
first_less x y xs ys l = ap (λ r. ordering_then r (bytes_cmp xs ys)) (sym (nat_cmp_is x y Less l))

first_same : (x y : ℕ) (xs ys : List ℕ) → x ≡ y → bytes_cmp (x ∷ xs) (y ∷ ys) ≡ bytes_cmp xs ys
first_same x y xs ys e = ap (λ r. ordering_then r (bytes_cmp xs ys)) (sym (nat_cmp_is x y Equal e))

none_less : (xs : List ℕ) → bytes_cmp xs [] ≡ Less → ⊥
none_less [] e = cc
none_less (x ∷ xs) e = cc

pub less : (n k : ℕ) (xs ys : List ℕ) → IsBytes xs → IsBytes ys → spelled n k xs < spelled n k ys → bytes_cmp xs ys ≡ Less
less n zero xs ys bx by l = absurd (omega arith)
less n (suc k) [] [] bx by l = absurd (omega arith)
less n (suc k) [] (y ∷ ys) bx by l = refl
less n (suc k) (x ∷ xs) [] bx by l = elim (cases_lt 0 x) [
  | inl p ↦ let g = lower (n * 256) (n * 256 + x) k [] xs (omega arith) by in absurd (omega arith)
  | inr z ↦ (
      let e : n * 256 + x ≡ n * 256 = omega arith in
      absurd (none_less xs (less (n * 256) k xs [] (tail_of x xs bx) by (subst (λ m. spelled m k xs < spelled (n * 256) k []) e l))))
]
less n (suc k) (x ∷ xs) (y ∷ ys) bx by l = elim (cases_lt x y) [
  | inl p ↦ first_less x y xs ys p
  | inr q ↦ (elim (cases_lt y x) [
    | inl p ↦ let g = lower (n * 256 + y) (n * 256 + x) k ys xs (omega arith) (tail_of y ys by) in absurd (omega arith)
    | inr r ↦ (
        let e : x ≡ y = omega arith in
        first_same x y xs ys e
        ∙ less (n * 256 + y) k xs ys (tail_of x xs bx) (tail_of y ys by) (subst (λ z. spelled (n * 256 + z) k xs < spelled (n * 256 + y) k ys) e l))
  ])
]

-- what is spelled whole has no more to tell than how long it is
pub alike : (n k : ℕ) (xs ys : List ℕ) → IsBytes xs → IsBytes ys → length xs ≤ k → length ys ≤ k → spelled n k xs ≡ spelled n k ys → bytes_cmp xs ys ≡ nat_cmp (length xs) (length ys)
alike n zero [] [] bx by lx ly e = refl
alike n zero [] (y ∷ ys) bx by lx ly e = absurd (omega arith)
alike n zero (x ∷ xs) ys bx by lx ly e = absurd (omega arith)
alike n (suc k) [] [] bx by lx ly e = refl
alike n (suc k) [] (y ∷ ys) bx by lx ly e = nat_cmp_is 0 (length (y ∷ ys)) Less (omega arith)
alike n (suc k) (x ∷ xs) [] bx by lx ly e = nat_cmp_is (length (x ∷ xs)) 0 Greater (omega arith)
alike n (suc k) (x ∷ xs) (y ∷ ys) bx by lx ly e = elim (cases_lt x y) [
  | inl p ↦ let g = lower (n * 256 + x) (n * 256 + y) k xs ys (omega arith) (tail_of x xs bx) in absurd (omega arith)
  | inr q ↦ (elim (cases_lt y x) [
    | inl p ↦ let g = lower (n * 256 + y) (n * 256 + x) k ys xs (omega arith) (tail_of y ys by) in absurd (omega arith)
    | inr r ↦ (
        let f : x ≡ y = omega arith in
        first_same x y xs ys f
        ∙ alike (n * 256 + y) k xs ys (tail_of x xs bx) (tail_of y ys by) (omega arith) (omega arith) (subst (λ z. spelled (n * 256 + z) k xs ≡ spelled (n * 256 + y) k ys) f e)
        ∙ both_more (length xs) (length ys))
  ])
]
  where
    both_more : (a b : ℕ) → nat_cmp a b ≡ nat_cmp (suc a) (suc b)
    both_more a b = elim (cases_lt a b) [
      | inl p ↦ sym (nat_cmp_is a b Less p) ∙ nat_cmp_is (suc a) (suc b) Less (omega arith)
      | inr q ↦ (elim (cases_lt b a) [
        | inl p ↦ sym (nat_cmp_is a b Greater p) ∙ nat_cmp_is (suc a) (suc b) Greater (omega arith)
        | inr r ↦ sym (nat_cmp_is a b Equal (omega arith)) ∙ nat_cmp_is (suc a) (suc b) Equal (omega arith)
      ])
    ]

-- ---- digit by digit

pub digit_more : (w b i : ℕ) → w < 256 ^ i → b < 256 → w * 256 + b < 256 ^ (i + 1)
digit_more w b i l m =
    let p : 256 ^ suc i ≡ 256 ^ i * 256 = pow-suc 256 i in
    let q : i + 1 ≡ suc i = omega arith in
    let h : w * 256 + b < 256 ^ i * 256 = room w b (256 ^ i) l m in
    subst (λ j. w * 256 + b < 256 ^ j) (sym q) (subst (λ x. w * 256 + b < x) (sym p) h)
  where
    room : (w b t : ℕ) → w < t → b < 256 → w * 256 + b < t * 256
    room w b t l m = omega arith

pub few_digits : (w b i : ℕ) → i < 16 → w < 256 ^ i → b < 256 → w * 256 + b < 340282366920938463463374607431768211456
few_digits w b i l h m = le (digit_more w b i h m) (pow-le-pow_right {n = 256} (omega arith) {i = i + 1} {j = 16} (omega arith))
  where
    le : {a b c : ℕ} → a < b → b ≤ c → a < c
    le h p = omega arith

-- one byte more, or a zero behind the last
pub spelled_more : (w i : ℕ) (xs : List ℕ) → i < 16 → spelled (w * 256 + get_or xs i 0) (16 - (i + 1)) (drop (i + 1) xs) ≡ spelled w (16 - i) (drop i xs)
spelled_more w i xs l =
    let e : 16 - i ≡ suc (16 - (i + 1)) = omega arith in
    let f : i + 1 ≡ suc i = omega arith in
    ap (λ j. spelled (w * 256 + get_or xs i 0) (16 - (i + 1)) (drop j xs)) f ∙ go (16 - (i + 1)) i xs ∙ ap (λ k. spelled w k (drop i xs)) (sym e)
  where
    go : (k i : ℕ) (xs : List ℕ) → spelled (w * 256 + get_or xs i 0) k (drop (suc i) xs) ≡ spelled w (suc k) (drop i xs)
    go k zero [] = ap (λ m. spelled m k []) (omega arith)
    go k zero (x ∷ xs) = refl
    go k (suc i) [] = ap (λ m. spelled m k []) (omega arith)
    go k (suc i) (x ∷ xs) = go k i xs

-- ---- where two fronts differ

pub before : (xs ys : List ℕ) (m n : ℕ) → IsBytes xs → IsBytes ys → m ≡ front_of xs → n ≡ front_of ys → nat_cmp m n ≡ Less → bytes_cmp xs ys ≡ Less
before xs ys m n bx by em en e =
    let l : m < n = subst (λ r. MatchOrdering r (m < n) (m ≡ n) (n < m)) e (ranks m n) in
    less 0 16 xs ys bx by (subst (λ k. k < front_of ys) em (subst (λ k. m < k) en l))

pub after : (xs ys : List ℕ) (m n : ℕ) → IsBytes xs → IsBytes ys → m ≡ front_of xs → n ≡ front_of ys → nat_cmp m n ≡ Greater → bytes_cmp xs ys ≡ Greater
after xs ys m n bx by em en e =
    let l : n < m = subst (λ r. MatchOrdering r (m < n) (m ≡ n) (n < m)) e (ranks m n) in
    nat_list_cmp_total.antisymm xs ys ∙ ap ordering_reverse (less 0 16 ys xs by bx (subst (λ k. k < front_of xs) en (subst (λ k. n < k) em l)))

-- the lengths of names that have one front tell, where both are short; longer ones count 17
short_is : (l m : ℕ) → m ≡ min l 17 → m ≤ 16 → l ≡ m
short_is l m e few = omega arith

pub ends_alike : (xs ys : List ℕ) (m n : ℕ) → IsBytes xs → IsBytes ys → front_of xs ≡ front_of ys → m ≡ min (length xs) 17 → n ≡ min (length ys) 17 → m ≤ 16 → n ≤ 16 → nat_cmp m n ≡ bytes_cmp xs ys
ends_alike xs ys m n bx by front e f few fewer =
    let x = short_is (length xs) m e few in
    let y = short_is (length ys) n f fewer in
    (λ i. nat_cmp (sym x i) (sym y i)) ∙ sym (alike 0 16 xs ys bx by (omega (arith, x, few)) (omega (arith, y, fewer)) front)
