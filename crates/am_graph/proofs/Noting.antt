-- A hash is noted for an author and a seq by an insert at the pair.
use Rattle.std.proofs.Common.{ℕ, ◌≡◌, ◌==◌, ◌&&◌, true, false, cond, Option, Some, None, sym, ap, ◌∙◌, inl, inr, eq-eqb}
use Rattle.std.specs.Ordering.{is_eq, nat_cmp}
use Rattle.std.proofs.lemmas.Bool.{cases_Bool, both_ways, and_parts, and_from, eqb-true}
use Rattle.std.proofs.lemmas.Cmp.{nat_cmp_total, on_total, then_total, tied_itself}
use Rattle.std.proofs.lemmas.Map.Lookups.{exact_unsigned, exact_pairs}
use Rattle.std.proofs.lemmas.Map.Views.{tells_apart}
use Rattle.am_types.specs.declared.Hash.{Hash}
use Rattle.am_graph.specs.Whole.{pair_cmp, Notes, Forgets, lesser}

pub same_pair : (p q : ℕ × ℕ) → is_eq (pair_cmp p q) ≡ true → p ≡ q
same_pair = tells_apart (exact_pairs nat_cmp nat_cmp exact_unsigned exact_unsigned)

pub pair_itself : (p : ℕ × ℕ) → is_eq (pair_cmp p p) ≡ true
pair_itself p = ap is_eq (tied_itself (then_total (on_total (λ (p : ℕ × ℕ). p.0) nat_cmp_total) (on_total (λ (p : ℕ × ℕ). p.1) nat_cmp_total)) p)

apart : (a q b r : ℕ) → (b == a && r == q) ≡ false → is_eq (pair_cmp (a, q) (b, r)) ≡ false
apart a q b r f = elim (cases_Bool (is_eq (pair_cmp (a, q) (b, r)))) [
  | inl t ↦ let s = same_pair (a, q) (b, r) t in absurd (both_ways (b == a && r == q) f (and_from _ _ (eq-eqb b a (ap (λ p. p.0) (sym s))) (eq-eqb r q (ap (λ p. p.1) (sym s)))))
  | inr t ↦ t
]

pub noted : (f1 f2 : ℕ → ℕ → Option Hash) (a q : ℕ) (h : Hash) → ((b r : ℕ) → f2 b r ≡ cond (is_eq (pair_cmp (a, q) (b, r))) (Some (lesser (f1 a q) h)) (f1 b r)) → Notes f1 f2 a q h
noted f1 f2 a q h e b r = elim (cases_Bool (b == a && r == q)) [
  | inl t ↦ let parts = and_parts (b == a) (r == q) t in
      let sb : b ≡ a = eqb-true b a parts.0 in let sr : r ≡ q = eqb-true r q parts.1 in
      e b r ∙ (λ i. cond (is_eq (pair_cmp (a, q) (sb i, sr i))) (Some (lesser (f1 a q) h)) (f1 b r))
      ∙ ap (λ t. cond t (Some (lesser (f1 a q) h)) (f1 b r)) (pair_itself (a, q))
      ∙ (λ i. Some (lesser (f1 (sym sb i) (sym sr i)) h)) ∙ sym (ap (λ t. cond t (Some (lesser (f1 b r) h)) (f1 b r)) t)
  | inr t ↦ e b r ∙ ap (λ t. cond t (Some (lesser (f1 a q) h)) (f1 b r)) (apart a q b r t) ∙ sym (ap (λ t. cond t (Some (lesser (f1 b r) h)) (f1 b r)) t)
]

-- a pair is taken out
pub forgotten : (f1 f2 : ℕ → ℕ → Option Hash) (a q : ℕ) → ((b r : ℕ) → f2 b r ≡ cond (is_eq (pair_cmp (a, q) (b, r))) None (f1 b r)) → Forgets f1 f2 a q
forgotten f1 f2 a q e b r = elim (cases_Bool (b == a && r == q)) [
  | inl t ↦ let parts = and_parts (b == a) (r == q) t in
      let sb : b ≡ a = eqb-true b a parts.0 in let sr : r ≡ q = eqb-true r q parts.1 in
      e b r ∙ (λ i. cond (is_eq (pair_cmp (a, q) (sb i, sr i))) None (f1 b r))
      ∙ ap (λ t. cond t None (f1 b r)) (pair_itself (a, q)) ∙ sym (ap (λ t. cond t None (f1 b r)) t)
  | inr t ↦ e b r ∙ ap (λ t. cond t None (f1 b r)) (apart a q b r t) ∙ sym (ap (λ t. cond t None (f1 b r)) t)
]
