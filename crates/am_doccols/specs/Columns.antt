-- The columns of a document's operation rows and change rows. (Automerge Binary Document Format, "Document Chunks".)
--     row_columns rows, meta_columns metas     what each column holds, ascending by specification
--     AreRowsWithin rows, AreMetasWithin metas     each field is within its limits
--     SpellsRows actors columns rows           the columns spell these operation rows, each within its limits
--     SpellsMetas actors columns metas         the same of change rows
--     written_rows actors rows, written_metas actors metas     the canonical columns, those with bytes
-- In rows a null among the metadata of values reads as the null value, and a null among the lengths of groups as 0. In
-- change rows a null time reads as 0, a null message as the empty one, and null metadata of extra bytes as none. All
-- other numbers of change rows stand. (How a null reads is a choice of amstore's profile, and so are the limits.)
use Rattle.std.specs.Prelude.{ℕ, ◌≤◌, List, [], ◌∷◌, ◌++◌, length, map, Some}
use Rattle.std.specs.List.{AllByRecursion}
use Rattle.am_types.specs.declared.Row.{Row}
use Rattle.am_types.specs.declared.Meta.{Meta}
use Rattle.am_types.specs.Limits.{counter_end, greatest_action, most_changes, most_operations}
use Rattle.am_values.specs.Columns.{AllGood}
use Rattle.am_colmeta.specs.Metadata.{not_empty}
use Rattle.am_fields.specs.Columns.{Column, Actors, Deltas, Flags, RareFlags, Texts, Counts, Times, Messages, SpellsColumns, spellings}
use Rattle.am_fields.specs.Layout.{object_columns, key_columns, id_columns, value_columns, group_columns, index_columns, extra_columns, given, whole, flat}
use Rattle.am_fields.specs.Limits.{IsWithin, IsObjectWithin, IsKeyWithin, IsShortActor, IsBelow, IsTime}
use Rattle.am_fields.specs.Extras.{IsShortExtra}
use Rattle.am_fields.specs.Specifications as specifications
use Rattle.am_doccols.specs.MetaSpecifications as meta_specifications

abbrev pub row_columns : List Row → List Column
row_columns rows =
    object_columns (map (λ r. r.obj) rows)
    ++ key_columns (map (λ r. r.key) rows)
    ++ id_columns specifications.id_actor (map (λ r. r.id) rows)
    ++ (specifications.insert, Flags (map (λ r. r.insert) rows))
    ∷ (specifications.action, given (map (λ r. r.action) rows))
    ∷ value_columns Counts (map (λ r. r.value) rows)
    ++ group_columns specifications.succ_count Counts (map (λ r. r.succs) rows)
    ++ (specifications.expand, RareFlags (map (λ r. r.expand) rows))
    ∷ (specifications.mark, Texts (map (λ r. r.mark) rows))
    ∷ []

-- Each action is one of the eight, each value is good, and each id is within its limits. There are at most 2 ^ 22 rows,
-- and as many successors of all together.
pub record AreRowsWithin (rows : List Row) : Type 0 where
  pub objects : AllByRecursion IsObjectWithin (map (λ r. r.obj) rows)
  pub keys : AllByRecursion IsKeyWithin (map (λ r. r.key) rows)
  pub ids : AllByRecursion IsWithin (map (λ r. r.id) rows)
  pub actions : AllByRecursion (λ a. a ≤ greatest_action) (map (λ r. r.action) rows)
  pub values : AllGood (map (λ r. r.value) rows)
  pub succs : AllByRecursion IsWithin (flat (map (λ r. r.succs) rows))
  pub few : length rows ≤ most_operations
  pub few_succs : length (flat (map (λ r. r.succs) rows)) ≤ most_operations

pub record SpellsRows (actors : List (List ℕ)) (columns : List (ℕ × List ℕ)) (rows : List Row) : Type 0 where
  pub spelled : SpellsColumns actors columns (row_columns rows)
  pub within : AreRowsWithin rows

abbrev pub meta_columns : List Meta → List Column
meta_columns metas =
    (meta_specifications.author, Actors (map Some (map (λ m. m.actor) metas)))
    ∷ (meta_specifications.seq, Deltas (map whole (map (λ m. m.seq) metas)))
    ∷ (meta_specifications.max, Deltas (map whole (map (λ m. m.max) metas)))
    ∷ (meta_specifications.time, Times (map (λ m. m.time) metas))
    ∷ (meta_specifications.message, Messages (map (λ m. m.message) metas))
    ∷ index_columns meta_specifications.dep_count (map (λ m. m.deps) metas)
    ++ extra_columns (map (λ m. m.extra) metas)

-- There are at most 2 ^ 20 change rows, and at most 2 ^ 22 dependencies of all together. Each dependency is the place of
-- a change row.
pub record AreMetasWithin (metas : List Meta) : Type 0 where
  pub authors : AllByRecursion IsShortActor (map (λ m. m.actor) metas)
  pub seqs : AllByRecursion (IsBelow 1 counter_end) (map (λ m. m.seq) metas)
  pub maxes : AllByRecursion (IsBelow 0 counter_end) (map (λ m. m.max) metas)
  pub times : AllByRecursion IsTime (map (λ m. m.time) metas)
  pub deps : AllByRecursion (IsBelow 0 (length metas)) (flat (map (λ m. m.deps) metas))
  pub extras : AllByRecursion IsShortExtra (map (λ m. m.extra) metas)
  pub few : length metas ≤ most_changes
  pub few_deps : length (flat (map (λ m. m.deps) metas)) ≤ most_operations

pub record SpellsMetas (actors : List (List ℕ)) (columns : List (ℕ × List ℕ)) (metas : List Meta) : Type 0 where
  pub spelled : SpellsColumns actors columns (meta_columns metas)
  pub within : AreMetasWithin metas

abbrev pub written_rows : List (List ℕ) → List Row → List (ℕ × List ℕ)
written_rows actors rows = not_empty (spellings actors (row_columns rows))

abbrev pub written_metas : List (List ℕ) → List Meta → List (ℕ × List ℕ)
written_metas actors metas = not_empty (spellings actors (meta_columns metas))
