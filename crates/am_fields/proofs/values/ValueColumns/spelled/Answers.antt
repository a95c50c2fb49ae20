use Rattle.std.proofs.Common.{[], None, refl, ◌∙◌}
use Rattle.am_fields.specs.Filling.{filled}
use Rattle.am_fields.specs.Extras.{blank}
use Rattle.am_fields.proofs.Filled.{empty_true, empty_false, length-filled}
use Rattle.am_fields.proofs.ReadAs.{length-read_as}
use Rattle.am_fields.proofs.GroupLaws.{values_nothing, values_known, values_full, SpellsValues-left_out, SpellsValues-full}
use Rattle.am_fields.proofs.values.ValueColumns.spelled.Goals as goal

pub spelled-cursor-requires : goal.spelled-cursor-requires
spelled-cursor-requires c = ([], values_nothing c.args.numbers.now c.args.raw.now c.requires.0 (empty_true c.args.numbers.now c.if-is_empty.ensures) c.requires.1, refl)

pub invariant_of-result : goal.invariant_of-result
invariant_of-result c = values_full c.args.count c.args.numbers.now c.args.raw.now c.spelled-cursor.result (empty_true c.args.numbers.now c.if-is_empty.ensures) c.spelled-cursor.ensures.spelled

pub returns-then-is_empty-clause-spelled : goal.returns-then-is_empty-clause-spelled
returns-then-is_empty-clause-spelled c = SpellsValues-left_out c.args.count c.args.numbers.now c.args.raw.now c.spelled-cursor.result (empty_true c.args.numbers.now c.if-is_empty.ensures) c.spelled-cursor.ensures.spelled

pub returns-then-is_empty-clause-count : goal.returns-then-is_empty-clause-count
returns-then-is_empty-clause-count c = length-read_as blank (filled None c.args.count c.spelled-cursor.result) ∙ length-filled None c.args.count c.spelled-cursor.result (values_full c.args.count c.args.numbers.now c.args.raw.now c.spelled-cursor.result (empty_true c.args.numbers.now c.if-is_empty.ensures) c.spelled-cursor.ensures.spelled)

pub spelled-cursor-requires-2 : goal.spelled-cursor-requires-2
spelled-cursor-requires-2 c =
    let found = values_known c.args.numbers.now c.args.raw.now c.requires.0 (empty_false c.args.numbers.now c.if-is_empty.ensures) c.requires.1 in
    (found.0, found.1, found.2 ∙ c.requires.2)

pub invariant_of-result-2 : goal.invariant_of-result-2
invariant_of-result-2 c = λ some. c.spelled-cursor-2.ensures.count

pub returns-clause-spelled : goal.returns-clause-spelled
returns-clause-spelled c = SpellsValues-full c.args.count c.args.numbers.now c.args.raw.now c.spelled-cursor-2.result c.spelled-cursor-2.ensures.count c.spelled-cursor-2.ensures.spelled

pub returns-clause-count : goal.returns-clause-count
returns-clause-count c = length-read_as blank (filled None c.args.count c.spelled-cursor-2.result) ∙ length-filled None c.args.count c.spelled-cursor-2.result (λ some. c.spelled-cursor-2.ensures.count)
