use Rattle.std.proofs.Common.{◌-◌, ◌^◌, pos, refl, sym, ◌∙◌}
use Rattle.am_fields.proofs.Bounds.{times_fit}
use Rattle.am_fields.proofs.MetaLaws.{times_spelled, times_known}
use Rattle.am_fields.proofs.times.TimeColumn.spelled.Goals as goal

pub spelled-column-requires : goal.spelled-column-requires
spelled-column-requires c =
    let found = times_spelled (pos (2 ^ 62 - 1)) refl c.args.bytes.now c.requires.0 c.requires.1 in
    (found.0, found.1, found.2 ∙ c.requires.2, times_fit (pos (2 ^ 62 - 1)) refl found.0 found.3)

pub returns-clause-spelled : goal.returns-clause-spelled
returns-clause-spelled c = times_known c.args.bytes.now c.spelled-column.result c.spelled-column.ensures.spelled c.requires.0 c.requires.1 (c.spelled-column.ensures.count ∙ sym c.requires.2)
