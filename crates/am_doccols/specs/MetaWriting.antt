-- What a writer of change rows holds.
--     metas_back actors w               the change rows that the cells stand for
--     MetasHeld actors metas w          the writers hold these change rows, each of which may be written
--     metas_written failed ..           the change rows that were pushed, as long as memory was had
--     IsWritingMetas failed ..          while memory is had, the writers hold just those
use Rattle.std.specs.Prelude.{◌≡◌, ℕ, pos, ◌≤◌, List, [], length, map, Option, Some, None, option_map, Bool, true, false}
use Rattle.std.specs.List.{AllByRecursion}
use Rattle.am_types.specs.declared.Meta.{Meta}
use Rattle.am_types.specs.Documents.{unless_empty}
use Rattle.am_types.specs.Limits.{most_changes, most_operations}
use Rattle.am_fields.specs.Columns.{place_of}
use Rattle.am_fields.specs.Filling.{read_as}
use Rattle.am_fields.specs.Groups.{counts, parts}
use Rattle.am_fields.specs.Extras.{extra_value, bytes_of}
use Rattle.am_fields.specs.Layout.{whole, flat}
use Rattle.am_doccols.specs.Back.{held, actor_at, natural}
use Rattle.am_doccols.specs.Metas.{metas_from}
use Rattle.am_doccols.specs.Conditions.{IsMetaFor, dep_count}
use Rattle.am_doccols.specs.declared.meta_columns.MetaColumns.{MetaColumns}

abbrev pub metas_back : List (List ℕ) → MetaColumns → List Meta
metas_back actors w =
    metas_from
    (map (actor_at actors) (held w.actor))
    (map natural (held w.seq))
    (map natural (held w.max))
    (read_as (pos 0) (held w.time))
    (read_as [] (held w.message))
    (parts (counts (held w.lengths)) (map natural (held w.deps)))
    (bytes_of (held w.extra))

pub record MetasHeld (actors : List (List ℕ)) (metas : List Meta) (w : MetaColumns) : Type 0 where
  pub actor_are : w.actor ≡ Some (map (option_map (place_of actors)) (map Some (map (λ m. m.actor) metas)))
  pub seq_are : w.seq ≡ Some (map whole (map (λ m. m.seq) metas))
  pub max_are : w.max ≡ Some (map whole (map (λ m. m.max) metas))
  pub time_are : w.time ≡ Some (map Some (map (λ m. m.time) metas))
  pub message_are : w.message ≡ Some (map unless_empty (map (λ m. m.message) metas))
  pub lengths_are : w.lengths ≡ Some (map Some (map length (map (λ m. m.deps) metas)))
  pub deps_are : w.deps ≡ Some (map whole (flat (map (λ m. m.deps) metas)))
  pub extra_are : w.extra ≡ Some (map extra_value (map (λ m. m.extra) metas))
  pub all : AllByRecursion (IsMetaFor actors) metas
  pub few : length metas ≤ most_changes
  pub few_deps : dep_count metas ≤ most_operations

abbrev pub metas_written : Bool → List (List ℕ) → MetaColumns → Option (List Meta)
metas_written true actors w = None
metas_written false actors w = Some (metas_back actors w)

abbrev pub IsWritingMetas : Bool → List (List ℕ) → MetaColumns → Type 0
IsWritingMetas true actors w = Unit {0}
IsWritingMetas false actors w = MetasHeld actors (metas_back actors w) w
