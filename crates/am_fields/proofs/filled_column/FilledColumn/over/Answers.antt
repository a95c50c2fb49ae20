use Rattle.am_fields.proofs.Filled.{OneList, unread}
use Rattle.am_fields.proofs.filled_column.FilledColumn.over.Goals as goal

pub returns-in-None-clause-err : goal.returns-in-None-clause-err
returns-in-None-clause-err g c =
    let laws : OneList g.C.Spelled.joins = record { one = g.met.C.Spelled.one; nothing = g.met.C.Spelled.nothing } in
    unread g.C.Spelled.joins g.C.Spelled.blank laws c.args.count c.args.bytes.now c.in-None.ensures.none
