use Rattle.std.proofs.Common.{sym, ◌∙◌}
use Rattle.std.proofs.lemmas.List.{length-map}
use Rattle.am_fields.proofs.MetaLaws.{SpellsExtraBytes-read, values_of_extras, extras-if_spelled}
use Rattle.am_fields.proofs.extras.ExtraColumns.spelled.Goals as goal

pub spelled-values-requires : goal.spelled-values-requires
spelled-values-requires c =
    let found = values_of_extras c.args.numbers.now c.args.raw.now c.requires.0 c.requires.1 in
    (found.0, found.1, found.3 ∙ c.requires.2)

pub returns-clause-spelled : goal.returns-clause-spelled
returns-clause-spelled c =
    let all = extras-if_spelled c.args.numbers.now c.args.raw.now c.spelled-values.result c.spelled-values.ensures.spelled c.requires.0 c.requires.1 (c.spelled-values.ensures.count ∙ sym c.requires.2) in
    SpellsExtraBytes-read c.args.numbers.now c.args.raw.now c.spelled-values.result c.spelled-values.ensures.spelled all

pub returns-clause-count : goal.returns-clause-count
returns-clause-count c = length-map c.spelled-values.result (λ value. value.raw) ∙ c.spelled-values.ensures.count
