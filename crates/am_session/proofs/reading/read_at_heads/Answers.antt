use Rattle.std.proofs.Common.{sym, ap, subst, ◌≡◌, ◌∙◌, List}
use Rattle.am_types.specs.declared.Table.{Table}
use Rattle.am_types.specs.EntryOrder.{IsInOrder}
use Rattle.am_types.specs.Members.{Member, changes, heads}
use Rattle.am_types.specs.Operations.{all_operations}
use Rattle.am_types.specs.Replay.{replay}
use Rattle.am_session.specs.Reading.{visible}
use Rattle.am_session.proofs.AtClock.{rows_at, visible_in_order, printed_there}
use Rattle.am_session.proofs.reading.read_at_heads.Goals as goal

pub print-requires : goal.print-requires
print-requires c =
    let C = c.args.store.now.closed in
    let valid = c.graph-graph.ensures.kept.stored.valid in
    let is : c.whole.result ≡ visible C (heads C) = c.whole.ensures.replay C valid (ap (λ (t : Table). t.rows) c.doc.ensures ∙ rows_at C) ∙ ap (λ (A : List Member). replay (all_operations (changes A))) (sym (c.heads_reach_all.ensures C valid).0) in
    subst IsInOrder (sym is) (visible_in_order c.part_is_valid.ensures c.entries_are_in_order.ensures C valid (heads C))

pub returns : goal.returns
returns c =
    let C = c.args.store.now.closed in
    let valid = c.graph-graph.ensures.kept.stored.valid in
    let is : c.whole.result ≡ visible C (heads C) = c.whole.ensures.replay C valid (ap (λ (t : Table). t.rows) c.doc.ensures ∙ rows_at C) ∙ ap (λ (A : List Member). replay (all_operations (changes A))) (sym (c.heads_reach_all.ensures C valid).0) in
    printed_there c.print.result c.args.form C (heads C) c.whole.result is (c.heads_reach_all.ensures C valid).1 c.print.ensures
