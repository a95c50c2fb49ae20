use Rattle.std.proofs.Common.{◌∙◌, ◌++◌, ◌∷◌, [], ap, map, slice_range, sym}
use Rattle.am_types.specs.Rows.{succs}
use Rattle.am_types.specs.Views.{id_of, object_of}
use Rattle.am_merge.specs.Naming.{named_of, predecessors}
use Rattle.am_merge.specs.Plans.{Take}
use Rattle.am_merge.specs.Stacks.{stacked}
use Rattle.am_merge.specs.Stops.{done_in, waiting_of}
use Rattle.am_merge.specs.Walk.{Spot, behind, behind_of}
use Rattle.am_merge.proofs.Stopping.{ids_are}
use Rattle.am_merge.proofs.stops.pass.Goals as goal

pub returns-clause-passed : goal.returns-clause-passed
returns-clause-passed c A t r e =
    let v = c.args.walk.now in
    let row = c.args.row.now in
    let named = c.args.tables.now.named.items in
    let first = c.range_of-range.result.0 in
    let last = c.range_of-range.result.1 in
    let ids =
    ids_are A named first last (id_of row.id) t.ascends t.distinct
    (ap (λ l. map named_of (slice_range l first last)) (sym c.as_slice.ensures.value) ∙ c.range_of-range.ensures.named (predecessors A) (ap (map named_of) c.as_slice.ensures.value ∙ t.named))
    ∙ ap (succs A) (sym (ap (λ (s : Spot). s.id) e)) in
    record {
      events = c.in_ok-take_row.ensures.stopped named ∙ ap (λ l. done_in named v ++ Take l ∷ []) ids;
      waiting =
          c.in_ok-push_hung.ensures A t
          ∙ ap (λ m. behind_of A row.insert (object_of row.obj) (id_of row.id) (stacked m.items)) c.in_ok-take_row.ensures.waiting
          ∙ ap (λ s. behind A s (waiting_of v)) (sym e);
    }
