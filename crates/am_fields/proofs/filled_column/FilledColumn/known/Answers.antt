use Rattle.am_fields.proofs.Filled.{OneList, all_known, length-filled}
use Rattle.am_fields.proofs.filled_column.FilledColumn.known.Goals as goal

pub invariant_of-result : goal.invariant_of-result
invariant_of-result g c =
    let laws : OneList g.C.Spelled.joins = record { one = g.met.C.Spelled.one; nothing = g.met.C.Spelled.nothing } in
    (all_known g.C.Spelled.joins g.C.Spelled.blank laws c.args.count c.args.bytes.now (g.C.Spelled.items c.args.cursor) c.requires.joined c.requires.whole).0

pub returns-clause-spelled : goal.returns-clause-spelled
returns-clause-spelled g c =
    let laws : OneList g.C.Spelled.joins = record { one = g.met.C.Spelled.one; nothing = g.met.C.Spelled.nothing } in
    (all_known g.C.Spelled.joins g.C.Spelled.blank laws c.args.count c.args.bytes.now (g.C.Spelled.items c.args.cursor) c.requires.joined c.requires.whole).1

pub returns-clause-count : goal.returns-clause-count
returns-clause-count g c =
    let laws : OneList g.C.Spelled.joins = record { one = g.met.C.Spelled.one; nothing = g.met.C.Spelled.nothing } in
    length-filled g.C.Spelled.blank c.args.count (g.C.Spelled.items c.args.cursor) (all_known g.C.Spelled.joins g.C.Spelled.blank laws c.args.count c.args.bytes.now (g.C.Spelled.items c.args.cursor) c.requires.joined c.requires.whole).0
