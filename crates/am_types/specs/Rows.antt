-- The operation rows of a document. (Automerge Binary Document Format, "document chunks".)
--     succs A id     the ids of the operations that name id as a predecessor, ascending
--     rows A         a row for each operation of A that is no deletion, with its successors, in document order
use Rattle.std.specs.Prelude.{not, ◌==◌, List, filter, map}
use Rattle.std.specs.Ordering.{on}
use Rattle.am_types.specs.Actions as actions
use Rattle.am_types.specs.Records.{OpId, Row}
use Rattle.am_types.specs.Order.{id_cmp, among, sorted_by}
use Rattle.am_types.specs.Operations.{Operation, slot, ascending}
use Rattle.am_types.specs.Elements.{elements}
use Rattle.am_types.specs.Places.{Place, place_cmp}

abbrev pub succs : List Operation → OpId → List OpId
succs A id = map (λ x. x.id) (filter (λ x. among id_cmp x.op.preds id) (ascending A))

abbrev pub row_of : List OpId → Operation → Row
row_of succs x = record {
  obj = x.op.obj;
  key = x.op.key;
  id = x.id;
  insert = x.op.insert;
  action = x.op.action;
  value = x.op.value;
  succs = succs;
  expand = x.op.expand;
  mark = x.op.mark;
}

-- the operations that have a row
abbrev pub kept : List Operation → List Operation
kept A = filter (λ x. not (x.op.action == actions.del)) (ascending A)

abbrev pub operation_place : Operation → Place
operation_place x = (x.op.obj, slot x, x.id)

unfoldable pub rows : List Operation → List Row
rows A = map (λ x. row_of (succs A x.id) x) (sorted_by (on operation_place (place_cmp (elements A))) (kept A))
