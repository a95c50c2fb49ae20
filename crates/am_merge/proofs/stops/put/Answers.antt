use Rattle.std.proofs.Common.{◌∙◌, ◌++◌, ◌∷◌, [], ap, map, slice_range, sym}
use Rattle.am_types.specs.Operations.{Operation}
use Rattle.am_types.specs.Rows.{row_of, succs}
use Rattle.am_types.specs.Views.{id_of}
use Rattle.am_places.specs.Numbered.{operation_of}
use Rattle.am_merge.specs.Naming.{named_of, predecessors}
use Rattle.am_merge.specs.Plans.{Put}
use Rattle.am_merge.specs.Stacks.{stacked}
use Rattle.am_merge.specs.Stops.{done_in}
use Rattle.am_merge.specs.Walk.{behind_of}
use Rattle.am_merge.proofs.Stopping.{ids_are}
use Rattle.am_merge.proofs.stops.put.Goals as goal

pub returns-clause-put : goal.returns-clause-put
returns-clause-put c A t =
    let y : Operation = operation_of c.args.y in
    let v = c.args.walk.now in
    let named = c.args.tables.now.named.items in
    let first = c.range_of-range.result.0 in
    let last = c.range_of-range.result.1 in
    let ids =
    ids_are A named first last (id_of c.id.result) t.ascends t.distinct
    (ap (λ l. map named_of (slice_range l first last)) (sym c.as_slice.ensures.value) ∙ c.range_of-range.ensures.named (predecessors A) (ap (map named_of) c.as_slice.ensures.value ∙ t.named))
    ∙ ap (succs A) c.id.ensures in
    record {
      events = c.in_ok-note_stop.ensures.stopped named ∙ ap (λ l. done_in named v ++ Put (row_of l y) ∷ []) ids;
      waiting =
          c.in_ok-push_hung.ensures A t
          ∙ (λ i. behind_of A c.args.y.op.now.insert (c.lend.ensures i) (c.id-2.ensures i) (stacked (c.in_ok-note_stop.ensures.waiting i).items));
    }
