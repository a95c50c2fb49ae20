use Rattle.std.proofs.Common.{◌≢◌, [], rules}
use Rattle.am_fields.proofs.Filled.{OneList, other_length, Fills-filled_empty, IsFull_empty, length-filled, empty_true, empty_false}
use Rattle.am_fields.proofs.filled_column.FilledColumn.read.Goals as goal

pub invariant_of-result : goal.invariant_of-result
invariant_of-result g c =
    let laws : OneList g.C.Spelled.joins = record { one = g.met.C.Spelled.one; nothing = g.met.C.Spelled.nothing } in
    IsFull_empty g.C.Spelled.joins laws c.args.count c.args.bytes.now (g.C.Spelled.items c.args.cursor) (empty_true c.args.bytes.now c.if-is_empty.ensures) c.requires

pub returns-then-is_empty-clause-spelled : goal.returns-then-is_empty-clause-spelled
returns-then-is_empty-clause-spelled g c =
    let laws : OneList g.C.Spelled.joins = record { one = g.met.C.Spelled.one; nothing = g.met.C.Spelled.nothing } in
    Fills-filled_empty g.C.Spelled.joins g.C.Spelled.blank laws c.args.count c.args.bytes.now (g.C.Spelled.items c.args.cursor) (empty_true c.args.bytes.now c.if-is_empty.ensures) c.requires

pub returns-then-is_empty-clause-count : goal.returns-then-is_empty-clause-count
returns-then-is_empty-clause-count g c =
    let laws : OneList g.C.Spelled.joins = record { one = g.met.C.Spelled.one; nothing = g.met.C.Spelled.nothing } in
    length-filled g.C.Spelled.blank c.args.count (g.C.Spelled.items c.args.cursor) (IsFull_empty g.C.Spelled.joins laws c.args.count c.args.bytes.now (g.C.Spelled.items c.args.cursor) (empty_true c.args.bytes.now c.if-is_empty.ensures) c.requires)

pub returns-then-left-count-clause-err : goal.returns-then-left-count-clause-err
returns-then-left-count-clause-err g c =
    let laws : OneList g.C.Spelled.joins = record { one = g.met.C.Spelled.one; nothing = g.met.C.Spelled.nothing } in
    let some : c.args.bytes.now ≢ [] = empty_false c.args.bytes.now c.if-is_empty.ensures in
    other_length g.C.Spelled.joins g.C.Spelled.blank laws c.args.count c.args.bytes.now (g.C.Spelled.items c.args.cursor) some c.requires (search rules)
