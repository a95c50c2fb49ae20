-- What a row writer is owed where rows are carried over.
--     ids_of ns             the ids of the operations of a table
--     is_less_first js i    the first of js is less than i
--     extended_by r added   the row r with these successors merged into its own
--     taking es             how many old rows the events es take
--     CanCarry a w es rs    a writer that holds w, and whose places name the actors a, has room for the rows that the events es
--                           make of the rows rs, each of which may be written; and there are enough of these
use Rattle.std.specs.Prelude.{◌≡◌, ℕ, ◌+◌, ◌≤◌, Bool, false, List, [], ◌∷◌, map, length, Option, Some}
use Rattle.std.specs.List.{AllByRecursion}
use Rattle.std.specs.Ordering.{is_gt}
use Rattle.am_types.specs.declared.OpId.{OpId}
use Rattle.am_types.specs.declared.Row.{Row}
use Rattle.am_types.specs.Order.{id_cmp}
use Rattle.am_doccols.specs.Conditions.{IsRowFor}
use Rattle.am_doccols.specs.Front.{HasRoomFor}
use Rattle.am_merge.specs.Merge.{merge}
use Rattle.am_merge.specs.Plans.{Event, Take, Put, carried}
use Rattle.am_merge.specs.Naming.{named_of}
use Rattle.am_merge.specs.declared.naming.Naming.{Naming}

abbrev pub ids_of : List Naming → List OpId
ids_of ns = map (λ n. (named_of n).operation.id) ns

abbrev pub is_less_first : List OpId → OpId → Bool
is_less_first [] i = false
is_less_first (j ∷ js) i = is_gt (id_cmp i j)

abbrev pub extended_by : Row → List OpId → Row
extended_by r added = record r { succs = merge id_cmp r.succs added }

abbrev pub taking : List Event → ℕ
taking [] = 0
taking (Put r ∷ es) = taking es
taking (Take added ∷ es) = taking es + 1

pub record CanCarry (actors : List (List ℕ)) (written : Option (List Row)) (es : List Event) (rs : List Row) : Type 0 where
  pub rows : List Row
  pub are_written : written ≡ Some rows
  pub enough : taking es ≤ length rs
  pub fit : AllByRecursion (IsRowFor actors) (carried es rs)
  pub room : HasRoomFor rows (carried es rs)
