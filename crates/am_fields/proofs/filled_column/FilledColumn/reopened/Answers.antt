use Rattle.std.proofs.Common.{rules}
use Rattle.am_fields.proofs.Filled.{OneList, asked_nothing, asked_known, empty_true, empty_false}
use Rattle.am_fields.proofs.filled_column.FilledColumn.reopened.Goals as goal

pub known-cursor-requires : goal.known-cursor-requires
known-cursor-requires g c =
    let laws : OneList g.C.Spelled.joins = record { one = g.met.C.Spelled.one; nothing = g.met.C.Spelled.nothing } in
    let asked = asked_nothing g.C.Spelled.joins laws c.args.bytes.now (empty_true c.args.bytes.now c.if-is_empty.ensures) in
    search rules

pub known-cursor-requires-2 : goal.known-cursor-requires-2
known-cursor-requires-2 g c =
    let asked = asked_known g.C.Spelled.joins g.C.Spelled.blank c.args.count c.args.bytes.now (empty_false c.args.bytes.now c.if-is_empty.ensures) c.requires in
    search rules
