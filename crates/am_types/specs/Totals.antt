-- What the limits of a set ask of its changes.
--     totals_of cs          how many changes cs are, and how many operations, predecessors and dependencies they have in all
--     totals_with t c       those of the changes with the totals t, and of c
--     above most n limit    the limit, where n is above the most
--     first_some os         the answer of the first that has one
--     limit_of t            the first limit that changes with the totals t pass
--     AreWithinLimits t     the totals t pass no limit
--     IsWithinLimits c      the change c alone passes no limit
use Rattle.std.specs.Prelude.{ℕ, ◌+◌, ◌≤◌, nat_lt, List, [], ◌∷◌, length, sum_by, Option, None}
use Rattle.std.specs.Bool.{then_some}
use Rattle.std.specs.Option.{option_or}
use Rattle.am_types.specs.Records.{Change, Totals, Limit, Changes, Operations, Preds, Links}
use Rattle.am_types.specs.Limits.{most_changes, most_operations}
use Rattle.am_types.specs.Fine.{pred_count}

abbrev pub totals_of : List Change → Totals
totals_of cs = record {
  changes = length cs;
  operations = sum_by (λ c. length c.ops) cs;
  preds = sum_by (λ c. pred_count c.ops) cs;
  links = sum_by (λ c. length c.deps) cs;
}

abbrev pub totals_with : Totals → Change → Totals
totals_with t c = record {
  changes = t.changes + 1;
  operations = t.operations + length c.ops;
  preds = t.preds + pred_count c.ops;
  links = t.links + length c.deps;
}

abbrev pub above : ℕ → ℕ → Limit → Option Limit
above most n limit = then_some (nat_lt most n) limit

abbrev pub first_some : {X : Type 0} → List (Option X) → Option X
first_some [] = None
first_some (o ∷ os) = option_or o (first_some os)

abbrev pub limit_of : Totals → Option Limit
limit_of t = first_some (
    above most_changes t.changes Changes
    ∷ above most_operations t.operations Operations
    ∷ above most_operations t.preds Preds
    ∷ above most_operations t.links Links
    ∷ [])

pub record AreWithinLimits (t : Totals) : Type 0 where
  pub changes : t.changes ≤ most_changes
  pub operations : t.operations ≤ most_operations
  pub preds : t.preds ≤ most_operations
  pub links : t.links ≤ most_operations

pub record IsWithinLimits (c : Change) : Type 0 where
  pub operations : length c.ops ≤ most_operations
  pub preds : pred_count c.ops ≤ most_operations
  pub links : length c.deps ≤ most_operations
