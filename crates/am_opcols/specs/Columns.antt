-- The columns of a change's operations. (Automerge Binary Document Format, "Operation Columns".)
--     op_columns ops                    what each column holds, ascending by specification
--     op_specifications                 the specifications of the columns that operations may have
--     SpellsOps actors columns ops      the columns spell these operations, each within its limits
use Rattle.std.specs.Prelude.{ℕ, ◌≤◌, List, [], ◌∷◌, ◌++◌, length, map}
use Rattle.std.specs.List.{AllByRecursion}
use Rattle.am_types.specs.declared.Op.{Op}
use Rattle.am_types.specs.Limits.{greatest_action, most_operations}
use Rattle.am_values.specs.Columns.{AllGood}
use Rattle.am_fields.specs.Columns.{Column, Flags, RareFlags, Texts, SpellsColumns}
use Rattle.am_fields.specs.Layout.{object_columns, key_columns, value_columns, group_columns, given, flat}
use Rattle.am_fields.specs.Limits.{IsWithin, IsObjectWithin, IsKeyWithin}
use Rattle.am_fields.specs.Specifications as specifications

abbrev pub op_columns : List Op → List Column
op_columns ops =
    object_columns (map (λ o. o.obj) ops)
    ++ key_columns (map (λ o. o.key) ops)
    ++ (specifications.insert, Flags (map (λ o. o.insert) ops))
    ∷ (specifications.action, given (map (λ o. o.action) ops))
    ∷ value_columns given (map (λ o. o.value) ops)
    ++ group_columns specifications.pred_count given (map (λ o. o.preds) ops)
    ++ (specifications.expand, RareFlags (map (λ o. o.expand) ops))
    ∷ (specifications.mark, Texts (map (λ o. o.mark) ops))
    ∷ []

abbrev pub op_specifications : List ℕ
op_specifications =
    specifications.object_actor
    ∷ specifications.object_counter
    ∷ specifications.key_actor
    ∷ specifications.key_counter
    ∷ specifications.key_name
    ∷ specifications.insert
    ∷ specifications.action
    ∷ specifications.value_metadata
    ∷ specifications.value_raw
    ∷ specifications.pred_count
    ∷ specifications.pred_actor
    ∷ specifications.pred_counter
    ∷ specifications.expand
    ∷ specifications.mark
    ∷ []

-- Each action is one of the eight, each value is good, and each id is within its limits. There are at most 2 ^ 22
-- operations, and as many predecessors of all together.
pub record AreOpsWithin (ops : List Op) : Type 0 where
  pub objects : AllByRecursion IsObjectWithin (map (λ o. o.obj) ops)
  pub keys : AllByRecursion IsKeyWithin (map (λ o. o.key) ops)
  pub actions : AllByRecursion (λ a. a ≤ greatest_action) (map (λ o. o.action) ops)
  pub values : AllGood (map (λ o. o.value) ops)
  pub preds : AllByRecursion IsWithin (flat (map (λ o. o.preds) ops))
  pub few : length ops ≤ most_operations
  pub few_preds : length (flat (map (λ o. o.preds) ops)) ≤ most_operations

pub record SpellsOps (actors : List (List ℕ)) (columns : List (ℕ × List ℕ)) (ops : List Op) : Type 0 where
  pub spelled : SpellsColumns actors columns (op_columns ops)
  pub within : AreOpsWithin ops
