-- What is visible after some operations.
--     visible A     the entries that the operations A leave, taken in ascending id
--     replay A      the same in document order
--     apply es x    the entries es after the operation x
-- (Automerge Binary Document Format, "operations"; that an increment removes what else it names, and that an operation's
-- effect is read off its predecessors alone, are choices of amstore's profile.)
use Rattle.std.specs.Prelude.{◌&&◌, ◌||◌, not, ◌==◌, Bool, List, [], ◌∷◌, ◌++◌, filter, map, fold, pos, ◌+ℤ◌, if◌then◌else◌}
use Rattle.std.specs.Ordering.{on}
use Rattle.am_types.specs.Records.{Entry}
use Rattle.am_types.specs.Actions as actions
use Rattle.am_types.specs.Order.{id_cmp, among, sorted_by}
use Rattle.am_types.specs.Values.{is_counter, amount}
use Rattle.am_types.specs.Operations.{Operation, slot, ascending}
use Rattle.am_types.specs.Elements.{elements}
use Rattle.am_types.specs.Places.{Place, place_cmp}

-- the entry that a set or a make adds
abbrev pub entry_of : Operation → Entry
entry_of x = record {
  obj = x.op.obj;
  slot = slot x;
  id = x.id;
  action = x.op.action;
  value = x.op.value;
  total = if x.op.action == actions.set && is_counter x.op.value then amount x.op.value else pos 0;
}

-- a counter that was set
abbrev pub is_counter_entry : Entry → Bool
is_counter_entry e = e.action == actions.set && is_counter e.value

-- the entries that x names as predecessors are gone
abbrev pub remove_preds : Operation → List Entry → List Entry
remove_preds x es = filter (λ e. not (among id_cmp x.op.preds e.id)) es

abbrev pub incremented : Operation → Entry → Entry
incremented x e = if among id_cmp x.op.preds e.id then record e { total = e.total +ℤ amount x.op.value } else e

-- an increment adds to the counters that it names, and removes what else it names
abbrev pub increment : Operation → List Entry → List Entry
increment x es = map (incremented x) (filter (λ e. is_counter_entry e || not (among id_cmp x.op.preds e.id)) es)

-- the last case is a mark, which leaves the entries: a fine operation has no other action
abbrev pub apply : List Entry → Operation → List Entry
apply es x =
    if x.op.action == actions.set || actions.is_make x.op.action then remove_preds x es ++ entry_of x ∷ []
    else (if x.op.action == actions.del then remove_preds x es
    else (if x.op.action == actions.inc then increment x es
    else es))

abbrev pub visible : List Operation → List Entry
visible A = fold apply [] (ascending A)

abbrev pub entry_place : Entry → Place
entry_place e = (e.obj, e.slot, e.id)

unfoldable pub replay : List Operation → List Entry
replay A = sorted_by (on entry_place (place_cmp (elements A))) (visible A)
