use Rattle.std.proofs.Common.{[], refl, ◌∙◌}
use Rattle.am_fields.specs.Columns.{SpellsTexts}
use Rattle.am_fields.proofs.ReadAs.{Reads-items, length-read_as}
use Rattle.am_fields.proofs.messages.MessageColumn.spelled.Goals as goal

pub spelled-column-requires : goal.spelled-column-requires
spelled-column-requires c =
    let found = Reads-items SpellsTexts [] c.args.bytes.now c.requires.0 c.requires.1 in
    (found.0, found.1, found.2 ∙ c.requires.2)

pub returns-clause-spelled : goal.returns-clause-spelled
returns-clause-spelled c = (c.spelled-column.result, c.spelled-column.ensures.spelled, refl)

pub returns-clause-count : goal.returns-clause-count
returns-clause-count c = length-read_as [] c.spelled-column.result ∙ c.spelled-column.ensures.count
