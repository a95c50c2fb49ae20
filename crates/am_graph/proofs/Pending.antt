-- The places that wait, as a set that gives its greatest.
use Rattle.std.proofs.Common.{ℕ, zero, suc, ◌≡◌, ◌<◌, List, length, replicate, nat_eq, take, drop, ◌++◌, Bool, true, false, cond, refl, sym, ap, ◌∙◌, inl, inr, ◌⊎◌, arith}
use Rattle.std.specs.Ordering.{is_eq, is_lt, nat_cmp}
use Rattle.std.specs.declared.cmp.Ordering.TheVariants.{Less, Equal, Greater}
use Rattle.std.proofs.lemmas.Bool.{cases_Bool, cases_order, both_ways, lt-ltb}
use Rattle.std.proofs.lemmas.List.{take_all, drop_all, append-nil}
use Rattle.std.proofs.lemmas.Cmp.{nat_cmp_total, tied_itself}
use Rattle.std.proofs.lemmas.Map.Lookups.{exact_unsigned}
use Rattle.std.proofs.lemmas.Map.Views.{tells_apart}
use Rattle.am_graph.specs.Reaches.{unreached, reach_at}

-- a table of no changes
pub blank_at : (n a : ℕ) → reach_at (replicate n unreached) a ≡ unreached
blank_at zero a = refl
blank_at (suc n) zero = refl
blank_at (suc n) (suc a) = blank_at n a

-- a slice is written back whole
pub written_back : {X : Type 0} (xs ys : List X) (n : ℕ) → length xs ≡ length ys → n ≡ length ys → take n (xs ++ drop (length xs) ys) ≡ xs
written_back xs ys n e f = ap (λ l. take n (xs ++ l)) (drop_all (length xs) ys (omega arith)) ∙ ap (take n) (append-nil xs) ∙ take_all n xs (omega arith)

-- one place left
module _ (V W : ℕ → Bool) (i : ℕ) (left : (q : ℕ) → W q ≡ cond (is_eq (nat_cmp i q)) false (V q)) where
  pub left_fewer : (q : ℕ) → W q ≡ true → V q ≡ true
  left_fewer q w = elim (cases_Bool (is_eq (nat_cmp i q))) [
    | inl e ↦ absurd (both_ways (W q) (left q ∙ ap (λ b. cond b false (V q)) e) w)
    | inr e ↦ sym (left q ∙ ap (λ b. cond b false (V q)) e) ∙ w
  ]

  pub left_split : (q : ℕ) → V q ≡ true → (q ≡ i) ⊎ (W q ≡ true)
  left_split q v = elim (cases_Bool (is_eq (nat_cmp i q))) [
    | inl e ↦ inl (sym (tells_apart exact_unsigned i q e))
    | inr e ↦ inr (left q ∙ ap (λ b. cond b false (V q)) e ∙ v)
  ]

  left_not : (q : ℕ) → W q ≡ true → q ≡ i → ⊥
  left_not q w e = both_ways (W q) (left q ∙ ap (λ b. cond b false (V q)) (ap (λ j. is_eq (nat_cmp i j)) e ∙ ap is_eq (tied_itself nat_cmp_total i))) w

  -- where i was the greatest
  pub left_below : ((q : ℕ) → V q ≡ true → is_lt (nat_cmp i q) ≡ false) → (q : ℕ) → W q ≡ true → q < i
  left_below top q w = elim (cases_order q i) [
    | inl e ↦ absurd (left_not q w e)
    | inr o ↦ elim o [ inl l ↦ l | inr l ↦ absurd (both_ways _ (top q (left_fewer q w)) (less i q l)) ]
  ]
    where
      less : (a b : ℕ) → a < b → is_lt (nat_cmp a b) ≡ true
      less a b l = ap (λ t. is_lt (cond t Less (cond (nat_eq a b) Equal Greater))) (lt-ltb a b l)
