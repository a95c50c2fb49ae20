use Rattle.std.proofs.Common.{◌^◌, map, sym, ◌∙◌}
use Rattle.std.proofs.lemmas.List.{length-map}
use Rattle.am_fields.specs.Layout.{whole}
use Rattle.am_fields.proofs.Bounds.{wholes_fit}
use Rattle.am_fields.proofs.MetaLaws.{wholes-if_spelled, wholes_known, length-wholes}
use Rattle.am_fields.proofs.wholes.WholeColumn.spelled.Goals as goal

pub spelled-column-requires : goal.spelled-column-requires
spelled-column-requires c =
    let known = c.requires.1 in
    (map whole c.requires.0, known.column, length-map c.requires.0 whole ∙ c.requires.2, wholes_fit c.requires.0 known.within)

pub invariant_of-result : goal.invariant_of-result
invariant_of-result c = wholes-if_spelled 0 (2 ^ 53) c.args.bytes.now c.spelled-column.result c.spelled-column.ensures.spelled c.requires.0 c.requires.1 (c.spelled-column.ensures.count ∙ sym c.requires.2)

pub returns-clause-spelled : goal.returns-clause-spelled
returns-clause-spelled c = wholes_known 0 (2 ^ 53) c.args.bytes.now c.spelled-column.result c.spelled-column.ensures.spelled c.requires.0 c.requires.1 (c.spelled-column.ensures.count ∙ sym c.requires.2)

pub returns-clause-count : goal.returns-clause-count
returns-clause-count c =
    let all = wholes-if_spelled 0 (2 ^ 53) c.args.bytes.now c.spelled-column.result c.spelled-column.ensures.spelled c.requires.0 c.requires.1 (c.spelled-column.ensures.count ∙ sym c.requires.2) in
    length-wholes c.spelled-column.result all ∙ c.spelled-column.ensures.count
