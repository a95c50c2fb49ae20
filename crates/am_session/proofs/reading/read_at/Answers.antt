use Rattle.std.proofs.Common.{sym, ap, subst, ◌≡◌, ◌∙◌}
use Rattle.am_types.specs.declared.Table.{Table}
use Rattle.am_types.specs.EntryOrder.{IsInOrder}
use Rattle.am_session.specs.Reading.{visible}
use Rattle.am_session.proofs.AtClock.{rows_at, visible_in_order, printed_there}
use Rattle.am_session.proofs.reading.read_at.Goals as goal

pub print-requires : goal.print-requires
print-requires c =
    let C = c.args.store.now.closed in
    let hs = c.args.hashes.now in
    let valid = c.graph-graph.ensures.kept.stored.valid in
    let is : c.over.result ≡ visible C hs = c.over.ensures.replay C hs valid (ap (λ (t : Table). t.rows) c.doc.ensures ∙ rows_at C) c.in-Ok.ensures.ok in
    subst IsInOrder (sym is) (visible_in_order c.part_is_valid.ensures c.entries_are_in_order.ensures C valid hs)

pub returns-in-Ok : goal.returns-in-Ok
returns-in-Ok c =
    let C = c.args.store.now.closed in
    let hs = c.args.hashes.now in
    let is : c.over.result ≡ visible C hs = c.over.ensures.replay C hs c.graph-graph.ensures.kept.stored.valid (ap (λ (t : Table). t.rows) c.doc.ensures ∙ rows_at C) c.in-Ok.ensures.ok in
    printed_there c.print.result c.args.form C hs c.over.result is c.in-Ok.ensures.held c.print.ensures
