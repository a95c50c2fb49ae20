-- What rows and change rows must meet to be written, and to be read again.
--     IsIdFor actors id          the id is within its limits, and its actor is listed
--     IsRowFor actors row        the ids in the row are within their limits, its value is good, and its actors are listed
--     IsMetaFor actors meta      the numbers in the change row are within their limits, and its actor is listed
--     IsPlace i                  it may be the place of a change row
--     IsReadable row             beyond that, its action is one of the eight and its mark's name is a text
--     IsReadableMeta n meta      beyond that, the number in the change row counts from 1, its actor has 1 to 1,024 bytes,
--                                its message is a text, and its dependencies are among n change rows
--     succ_count rows, dep_count metas     how many successors, or dependencies, there are in all
--     HasRoom, HasMetaRoom       one more may be written behind those that were
-- The bounds are limits of amstore's profile.
use Rattle.std.specs.Prelude.{ℕ, ◌+◌, ◌<◌, ◌≤◌, List, length, map, IfSome, IsUtf8}
use Rattle.std.specs.List.{AllByRecursion}
use Rattle.am_types.specs.declared.OpId.{OpId}
use Rattle.am_types.specs.declared.Row.{Row}
use Rattle.am_types.specs.declared.Meta.{Meta}
use Rattle.am_types.specs.Fine.{IsId, IsObject, IsKey}
use Rattle.am_types.specs.Values.{Good}
use Rattle.am_types.specs.Limits.{counter_end, greatest_action, most_changes, most_operations}
use Rattle.am_fields.specs.Actors.{IsListed, IfListed}
use Rattle.am_fields.specs.Extras.{extra_value}
use Rattle.am_fields.specs.Layout.{object_actor, key_actor, flat}
use Rattle.am_fields.specs.Limits.{IsTime, IsShortActor}

-- an id within its limits, with a listed actor
pub record IsIdFor (actors : List (List ℕ)) (id : OpId) : Type 0 where
  pub within : IsId id
  pub listed : IsListed actors id.actor

pub record IsRowFor (actors : List (List ℕ)) (row : Row) : Type 0 where
  pub object : IsObject row.obj
  pub object_listed : IfListed actors (object_actor row.obj)
  pub key : IsKey row.key
  pub key_listed : IfListed actors (key_actor row.key)
  pub id : IsIdFor actors row.id
  pub value : Good row.value
  pub succs : AllByRecursion (IsIdFor actors) row.succs

abbrev pub IsPlace : ℕ → Type 0
IsPlace i = i < most_changes

pub record IsMetaFor (actors : List (List ℕ)) (meta : Meta) : Type 0 where
  pub actor : IsListed actors meta.actor
  pub seq : meta.seq < counter_end
  pub max : meta.max < counter_end
  pub time : IsTime meta.time
  pub deps : AllByRecursion IsPlace meta.deps
  pub extra : Good (extra_value meta.extra)

pub record IsReadable (row : Row) : Type 0 where
  pub action : row.action ≤ greatest_action
  pub mark : IfSome row.mark IsUtf8

pub record IsReadableMeta (count : ℕ) (meta : Meta) : Type 0 where
  pub actor : IsShortActor meta.actor
  pub seq : 1 ≤ meta.seq
  pub message : IsUtf8 meta.message
  pub deps : AllByRecursion (λ i. i < count) meta.deps

abbrev pub succ_count : List Row → ℕ
succ_count rows = length (flat (map (λ r. r.succs) rows))

abbrev pub dep_count : List Meta → ℕ
dep_count metas = length (flat (map (λ m. m.deps) metas))

pub record HasRoom (rows : List Row) (succs : List OpId) : Type 0 where
  pub few : length rows < most_operations
  pub few_succs : succ_count rows + length succs ≤ most_operations

pub record HasMetaRoom (metas : List Meta) (deps : List ℕ) : Type 0 where
  pub few : length metas < most_changes
  pub few_deps : dep_count metas + length deps ≤ most_operations
