use Rattle.std.proofs.Common.{◌≤◌, ℤ, List, Option, None, length, subst, sym}
use Rattle.am_delta.specs.Deltas.{JoinsDeltas, AllBetween}
use Rattle.am_fields.proofs.Bounds.{passed, filled_between}
use Rattle.am_fields.proofs.OneColumn.{deltas_one}
use Rattle.am_fields.proofs.Filled.{unread_between, IfOk-map}
use Rattle.am_fields.proofs.deltas.FilledColumn+Option+i64+DeltaCursor.over.Goals as goal

pub returns-in_default-clause-err : goal.returns-in_default-clause-err
returns-in_default-clause-err c = unread_between JoinsDeltas None deltas_one (AllBetween c.args.low c.args.high) c.args.count c.args.bytes.now tt
    (passed (λ low high. (ys : List (Option ℤ)) → JoinsDeltas c.args.bytes.now ys → length ys ≤ c.args.count → AllBetween low high ys → ⊥) c.args.low c.args.high c.ranges.low c.ranges.high c.in_default.ensures.err)

pub returns-clause-between : goal.returns-clause-between
returns-clause-between c =
    let all = filled_between c.args.low c.args.high c.args.count c.in-Ok.cursor (passed (λ low high. AllBetween low high c.in-Ok.cursor) c.args.low c.args.high c.ranges.low c.ranges.high c.in-Ok.ensures.ok.2) in
    IfOk-map c.read.result _ _ (λ column same. subst (AllBetween c.args.low c.args.high) (sym same) all) c.read.ensures.items
