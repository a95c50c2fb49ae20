-- Conditions that hold or don't, where it can be told which.
use Rattle.std.proofs.Common.{ℕ, ◌≡◌, ◌<◌, ◌≤◌, List, [], ◌∷◌, Bool, true, false, Option, Some, None, refl, inl, inr, ◌⊎◌, arith, All}
use Rattle.std.specs.Cmp.{IsTotalOrder}
use Rattle.std.specs.List.{AllByRecursion}
use Rattle.std.specs.List.Sorted.{IsStrictlySortedBy}
use Rattle.std.specs.Prelude.{IfSome, ℤ, ◌<ℤ◌, IsUtf8}
use Rattle.std.specs.Int.Signed.{clash_ℤ}
use Rattle.std.specs.Str.{is_utf8}
use Rattle.std.specs.declared.cmp.Ordering.{Ordering}
use Rattle.std.specs.declared.cmp.Ordering.TheVariants.{Less, Equal, Greater}
use Rattle.std.proofs.lemmas.Bool.{both_ways, cases_Bool, cases_lt}
use Rattle.std.proofs.lemmas.Int.{by_lt_z}
use Rattle.std.proofs.lemmas.List.Elements.{All-from_recursion, recursion_from_All}
use Rattle.std.proofs.lemmas.Map.Keys.{sorted_from_all_adjacent}
use Rattle.std.proofs.lemmas.Str.{IsUtf8-from_is_utf8, is_utf8-from_IsUtf8}
use Rattle.am_types.specs.Order.{Ascends}
use Rattle.am_histories.proofs.OfDocument.{ascends_from_sorted}

abbrev pub OrNot : Type 0 → Type 0
OrNot P = P ⊎ (P → ⊥)

-- ---- of other conditions

-- the one holds just where the other does
pub same_or_not : {P Q : Type 0} → (P → Q) → (Q → P) → OrNot P → OrNot Q
same_or_not f g h = elim h [ inl p ↦ inl (f p) | inr n ↦ inr (λ q. n (g q)) ]

pub both_or_not : {P Q : Type 0} → OrNot P → OrNot Q → OrNot (P × Q)
both_or_not h k = elim h [
  | inl p ↦ elim k [ inl q ↦ inl (p, q) | inr n ↦ inr (λ b. n b.1) ]
  | inr n ↦ inr (λ b. n b.0)
]

pub either_or_not : {P Q : Type 0} → OrNot P → OrNot Q → OrNot (P ⊎ Q)
either_or_not h k = elim h [
  | inl p ↦ inl (inl p)
  | inr n ↦ elim k [ inl q ↦ inl (inr q) | inr m ↦ inr (λ b. elim b [ inl p ↦ n p | inr q ↦ m q ]) ]
]

pub then_or_not : {P Q : Type 0} → OrNot P → OrNot Q → OrNot (P → Q)
then_or_not h k = elim h [
  | inl p ↦ elim k [ inl q ↦ inl (λ x. q) | inr n ↦ inr (λ f. n (f p)) ]
  | inr n ↦ inl (λ p. absurd (n p))
]

pub not_or_not : {P : Type 0} → OrNot P → OrNot (P → ⊥)
not_or_not h = elim h [ inl p ↦ inr (λ n. n p) | inr n ↦ inl n ]

-- ---- of numbers, tests and options

pub lt_or_not : (m n : ℕ) → OrNot (m < n)
lt_or_not m n = elim (cases_lt m n) [ inl l ↦ inl l | inr g ↦ inr (λ l. omega arith) ]

pub le_or_not : (m n : ℕ) → OrNot (m ≤ n)
le_or_not m n = elim (cases_lt n m) [ inl g ↦ inr (λ l. omega arith) | inr l ↦ inl l ]

pub lt_ℤ_or_not : (m n : ℤ) → OrNot (m <ℤ n)
lt_ℤ_or_not m n = by_lt_z m n (λ l. inl l) (λ g. inr (λ l. clash_ℤ l g))

pub true_or_not : (b : Bool) → OrNot (b ≡ true)
true_or_not b = elim (cases_Bool b) [ inl t ↦ inl t | inr f ↦ inr (λ t. both_ways b f t) ]

pub false_or_not : (b : Bool) → OrNot (b ≡ false)
false_or_not b = elim (cases_Bool b) [ inl t ↦ inr (λ f. both_ways b f t) | inr f ↦ inl f ]

pub none_or_not : {X : Type 0} (o : Option X) → OrNot (o ≡ None)
none_or_not None = inl refl
none_or_not (Some x) = inr (λ e. cc)

pub less_or_not : (o : Ordering) → OrNot (o ≡ Less)
less_or_not Less = inl refl
less_or_not Equal = inr (λ e. cc)
less_or_not Greater = inr (λ e. cc)

pub if_some_or_not : {X : Type 0} (P : X → Type 0) → ((x : X) → OrNot (P x)) → (o : Option X) → OrNot (IfSome o P)
if_some_or_not P h None = inl tt
if_some_or_not P h (Some x) = h x

-- ---- of lists

pub empty_or_not : {X : Type 0} (xs : List X) → OrNot (xs ≡ [])
empty_or_not [] = inl refl
empty_or_not (x ∷ xs) = inr (λ e. cc)

pub utf8_or_not : (bytes : List ℕ) → OrNot (IsUtf8 bytes)
utf8_or_not bytes = same_or_not (IsUtf8-from_is_utf8 bytes) (is_utf8-from_IsUtf8 bytes) (true_or_not (is_utf8 bytes))

each_or_not : {X : Type 0} (P : X → Type 0) → ((x : X) → OrNot (P x)) → (xs : List X) → OrNot (AllByRecursion P xs)
each_or_not P h [] = inl tt
each_or_not P h (x ∷ xs) = both_or_not (h x) (each_or_not P h xs)

pub all_or_not : {X : Type 0} (P : X → Type 0) → ((x : X) → OrNot (P x)) → (xs : List X) → OrNot (All P xs)
all_or_not P h xs = same_or_not (All-from_recursion P xs) (recursion_from_All P xs) (each_or_not P h xs)

sorted_or_not : {X : Type 0} (R : X → X → Ordering) (xs : List X) → OrNot (IsStrictlySortedBy R xs)
unfolding IsStrictlySortedBy
sorted_or_not R [] = inl tt
sorted_or_not R (x ∷ xs) = both_or_not (each_or_not (λ y. R x y ≡ Less) (λ y. less_or_not (R x y)) xs) (sorted_or_not R xs)

sorted_from_ascends : {X : Type 0} {R : X → X → Ordering} → IsTotalOrder R → (xs : List X) → Ascends R xs → IsStrictlySortedBy R xs
unfolding IsStrictlySortedBy
sorted_from_ascends total [] a = tt
sorted_from_ascends total (x ∷ xs) a = sorted_from_all_adjacent total (x ∷ xs) x (λ k l. a k x l)

pub ascends_or_not : {X : Type 0} {R : X → X → Ordering} → IsTotalOrder R → (xs : List X) → OrNot (Ascends R xs)
ascends_or_not {R = R} total xs = same_or_not (ascends_from_sorted R xs) (sorted_from_ascends total xs) (sorted_or_not R xs)
