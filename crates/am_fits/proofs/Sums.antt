-- The totals of a set, and its limits.
use Rattle.std.proofs.Common.{ℕ, ◌≡◌, ◌+◌, ◌≤◌, List, [], ◌∷◌, ◌++◌, length, sum_by, nat_lt, Option, Some, None, refl, sym, ap, ◌∙◌, inl, inr, arith}
use Rattle.std.specs.Bool.{then_some}
use Rattle.std.specs.Option.{option_or}
use Rattle.std.proofs.lemmas.Bool.{cases_lt, lt-ltb}
use Rattle.std.proofs.lemmas.List.{length_push}
use Rattle.std.proofs.lemmas.List.Sums.{sum_by-cons, sum_by_push}
use Rattle.am_types.specs.declared.Change.{Change}
use Rattle.am_types.specs.declared.Limit.{Limit}
use Rattle.am_types.specs.declared.Totals.{Totals}
use Rattle.am_types.specs.Fine.{Fine, pred_count}
use Rattle.am_types.specs.Limits.{most_changes, most_operations}
use Rattle.am_types.specs.Totals.{totals_of, totals_with, limit_of, AreWithinLimits, IsWithinLimits}
use Rattle.am_types.specs.Members.{Member, changes}
use Rattle.am_types.specs.ValidSets.{Valid}
use Rattle.am_types.specs.Verdicts.{limit_passed}
use Rattle.am_laws.proofs.Rules.{keeps_rules}

or_none : (o r : Option Limit) → option_or o r ≡ None → (o ≡ None) × (r ≡ None)
or_none None r e = (refl, e)
or_none (Some l) r e = cc

above_none : (most n : ℕ) (l : Limit) → then_some (nat_lt most n) l ≡ None → n ≤ most
above_none most n l e = elim (cases_lt most n) [
  | inl m ↦ absurd (no (sym (ap (λ b. then_some b l) (lt-ltb most n m)) ∙ e))
  | inr m ↦ m
]
  where
    no : Some l ≡ None → ⊥
    no g = cc

pub within_none : (t : Totals) → limit_of t ≡ None → AreWithinLimits t
within_none t e =
    let a = or_none _ _ e in
    let b = or_none _ _ a.1 in
    let c = or_none _ _ b.1 in
    let d = or_none _ _ c.1 in
    record { changes = above_none most_changes t.changes _ a.0; operations = above_none most_operations t.operations _ b.0; preds = above_none most_operations t.preds _ c.0; links = above_none most_operations t.links _ d.0 }

pub set_within : (C : List Member) → Valid C → AreWithinLimits (totals_of (changes C))
set_within C v = within_none (totals_of (changes C)) (keeps_rules C v).limits

pub change_within : (c : Change) → Fine c → IsWithinLimits c
change_within c f = record { operations = f.numbers.few_ops; preds = f.few_preds; links = f.few_deps }

pub totals_cons : (cs : List Change) (c : Change) → totals_of (c ∷ cs) ≡ totals_with (totals_of cs) c
totals_cons cs c =
    let count : length (c ∷ cs) ≡ length cs + 1 = omega arith in
    let ops : sum_by (λ c. length c.ops) (c ∷ cs) ≡ sum_by (λ c. length c.ops) cs + length c.ops = omega (arith, sum_by-cons (λ (c : Change). length c.ops) c cs) in
    let preds : sum_by (λ c. pred_count c.ops) (c ∷ cs) ≡ sum_by (λ c. pred_count c.ops) cs + pred_count c.ops = omega (arith, sum_by-cons (λ (c : Change). pred_count c.ops) c cs) in
    let links : sum_by (λ c. length c.deps) (c ∷ cs) ≡ sum_by (λ c. length c.deps) cs + length c.deps = omega (arith, sum_by-cons (λ (c : Change). length c.deps) c cs) in
    λ j. record { changes = count j; operations = ops j; preds = preds j; links = links j }

pub totals_push : (cs : List Change) (c : Change) → totals_of (cs ++ c ∷ []) ≡ totals_with (totals_of cs) c
totals_push cs c = λ j. record {
  changes = length_push cs c j;
  operations = sum_by_push (λ (c : Change). length c.ops) cs c j;
  preds = sum_by_push (λ (c : Change). pred_count c.ops) cs c j;
  links = sum_by_push (λ (c : Change). length c.deps) cs c j;
}

-- the limit that a set passes together with one more change
pub limit_is : (cs : List Change) (c : Change) → limit_of (totals_with (totals_of cs) c) ≡ limit_passed (c ∷ cs)
limit_is cs c = ap limit_of (sym (totals_cons cs c))
