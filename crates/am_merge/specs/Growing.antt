-- What is asked where the rows of a larger set are written.
--     rows_in C                      the rows of the members C
--     HasTables A t                  t has the sorted tables of the operations A
--     Grows C E actors rs cs         the members E, of the changes cs, come to C, whose rows are rs; and the rows of both may be
--                                    written with places in the list actors
use Rattle.std.specs.Prelude.{◌≡◌, ℕ, ◌≤◌, List, ◌++◌, length, map}
use Rattle.std.specs.List.{AllByRecursion}
use Rattle.am_types.specs.declared.Change.{Change}
use Rattle.am_types.specs.declared.Row.{Row}
use Rattle.am_types.specs.Members.{Member, changes}
use Rattle.am_types.specs.Operations.{Operation}
use Rattle.am_types.specs.Order.{sorted_by}
use Rattle.am_types.specs.Rows.{rows}
use Rattle.am_types.specs.ValidSets.{Valid}
use Rattle.am_types.specs.Limits.{most_operations}
use Rattle.am_doccols.specs.Conditions.{IsRowFor, succ_count}
use Rattle.am_merge.specs.Laws.{operations_of}
use Rattle.am_merge.specs.Naming.{named_cmp, named_of, predecessors, references}
use Rattle.am_merge.specs.Walk.{hanging}
use Rattle.am_merge.specs.declared.naming.Tables.{Tables}

abbrev pub rows_in : List Member → List Row
rows_in C = rows (operations_of C)

pub record HasTables (A : List Operation) (t : Tables) : Type 0 where
  pub named : map named_of t.named.items ≡ sorted_by named_cmp (predecessors A)
  pub hanging_is : map named_of t.hanging.items ≡ sorted_by named_cmp (references (hanging A))

pub record Grows (C E : List Member) (actors : List (List ℕ)) (rs : List Row) (cs : List Change) : Type 0 where
  pub smaller : Valid C
  pub larger : Valid (C ++ E)
  pub rows_are : rs ≡ rows_in C
  pub added_are : changes E ≡ cs
  pub fit : AllByRecursion (IsRowFor actors) (rows_in (C ++ E))
  pub few : length (rows_in (C ++ E)) ≤ most_operations
  pub few_succs : succ_count (rows_in (C ++ E)) ≤ most_operations
