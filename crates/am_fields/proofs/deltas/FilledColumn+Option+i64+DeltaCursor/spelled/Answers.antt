use Rattle.std.proofs.Common.{[], None, refl}
use Rattle.am_delta.specs.Deltas.{JoinsDeltas}
use Rattle.am_fields.proofs.OneColumn.{deltas_one}
use Rattle.am_fields.proofs.Filled.{joins_nothing, joins_known, empty_true, empty_false}
use Rattle.am_fields.proofs.deltas.FilledColumn+Option+i64+DeltaCursor.spelled.Goals as goal

pub spelled-cursor-requires : goal.spelled-cursor-requires
spelled-cursor-requires c = ([], joins_nothing JoinsDeltas deltas_one c.args.bytes.now (empty_true c.args.bytes.now c.if-is_empty.ensures), refl, tt)

pub spelled-cursor-requires-2 : goal.spelled-cursor-requires-2
spelled-cursor-requires-2 c = (c.requires.0, joins_known JoinsDeltas None c.args.bytes.now c.requires.0 (empty_false c.args.bytes.now c.if-is_empty.ensures) c.requires.1, c.requires.2, c.requires.3)
