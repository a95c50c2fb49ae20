use Rattle.std.proofs.Common.{refl}
use Rattle.am_fields.proofs.GroupLaws.{SpellsActions-givens, actions_unread, actions-if_spelled}
use Rattle.am_fields.proofs.actions.ActionColumn.spelled.Goals as goal

pub unreachable-requires : goal.unreachable-requires
unreachable-requires c = actions_unread c.args.bytes.now _ refl c.in-Err.ensures.err c.requires.0 c.requires.1

pub invariant_of-result : goal.invariant_of-result
invariant_of-result c = actions-if_spelled c.args.bytes.now c.in-Ok.cursor c.in-Ok.ensures.ok.0 c.requires.0 c.requires.1

pub returns : goal.returns
returns c = SpellsActions-givens c.args.bytes.now c.in-Ok.cursor c.in-Ok.ensures.ok.0 (actions-if_spelled c.args.bytes.now c.in-Ok.cursor c.in-Ok.ensures.ok.0 c.requires.0 c.requires.1) c.in-Ok.ensures.ok.1
