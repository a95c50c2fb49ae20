-- Where the walk stops, and what it has done so far.
--     ids_in named a b       the ids of the operations from a to b of a table
--     event_of named s       what happens at the stop s
--     copies n               the events that take n rows with nothing added
--     events_of named ss     the events of the stops ss, each behind the copies that it tells
--     waiting_of w           the operations that wait, the next one first
--     done_in named w        the events so far
--     HasPassed A named v w r    from v to w the old row r came
--     is_some_left ws        some operation waits
--     HasPut A named v w ..  from v to w, the row of the operation y came; the operations ws waited behind it
use Rattle.std.specs.Prelude.{ℕ, Bool, true, false, ◌≡◌, Option, Some, None, List, [], ◌∷◌, ◌++◌, map, replicate, slice_range}
use Rattle.std.specs.List.{flat_map}
use Rattle.am_types.specs.declared.OpId.{OpId}
use Rattle.am_types.specs.Operations.{Operation}
use Rattle.am_types.specs.declared.Row.{Row}
use Rattle.am_types.specs.Rows.{row_of, succs}
use Rattle.am_places.specs.Numbered.{operation_of}
use Rattle.am_places.specs.declared.numbered.Numbered.{Numbered}
use Rattle.am_merge.specs.Plans.{Event, Take, Put}
use Rattle.am_merge.specs.Naming.{named_of}
use Rattle.am_merge.specs.Stacks.{stacked}
use Rattle.am_merge.specs.Walk.{behind, new_row, spot_of, spot_of_row}
use Rattle.am_merge.specs.declared.naming.Naming.{Naming}
use Rattle.am_merge.specs.declared.stops.Stop.{Stop}
use Rattle.am_merge.specs.declared.stops.Walk.{Walk}

abbrev pub ids_in : List Naming → ℕ → ℕ → List OpId
ids_in named first last = map (λ n. (named_of n).operation.id) (slice_range named first last)

abbrev pub event_with : Option Numbered → List OpId → Event
event_with None added = Take added
event_with (Some x) added = Put (row_of added (operation_of x))

abbrev pub event_of : List Naming → Stop → Event
event_of named s = event_with s.put (ids_in named s.first s.last)

abbrev pub copies : ℕ → List Event
copies n = replicate n (Take [])

abbrev pub events_of : List Naming → List Stop → List Event
events_of named ss = flat_map (λ s. copies s.skip ++ event_of named s ∷ []) ss

abbrev pub waiting_of : Walk → List Operation
waiting_of w = stacked w.waiting.items

abbrev pub done_in : List Naming → Walk → List Event
done_in named w = events_of named w.stops.items ++ copies w.skipped

pub record HasPut (A : List Operation) (named : List Naming) (v w : Walk) (y : Operation) (ws : List Operation) : Type 0 where
  pub events : done_in named w ≡ done_in named v ++ Put (new_row A y) ∷ []
  pub waiting : waiting_of w ≡ behind A (spot_of y) ws

-- from v to w the old row r came, and what names it was added to its successors
pub record HasPassed (A : List Operation) (named : List Naming) (v w : Walk) (r : Row) : Type 0 where
  pub events : done_in named w ≡ done_in named v ++ Take (succs A r.id) ∷ []
  pub waiting : waiting_of w ≡ behind A (spot_of_row r) (waiting_of v)

abbrev pub is_some_left : List Operation → Bool
is_some_left [] = false
is_some_left (y ∷ ws) = true
