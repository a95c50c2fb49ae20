use Rattle.std.proofs.Common.{refl}
use Rattle.am_fields.proofs.MetaLaws.{SpellsAuthors-read, authors_unread, authors-if_spelled}
use Rattle.am_fields.proofs.authors.AuthorColumn.spelled.Goals as goal

pub unreachable-requires : goal.unreachable-requires
unreachable-requires c = authors_unread c.args.actors.now c.args.bytes.now _ refl c.in-Err.ensures.err c.requires.0 c.requires.1

pub invariant_of-result : goal.invariant_of-result
invariant_of-result c = rw c.again.ensures (authors-if_spelled c.args.actors.now c.args.bytes.now c.in-Ok.cursor c.in-Ok.ensures.ok.0 c.requires.0 c.requires.1)

pub returns : goal.returns
returns c = rw c.again.ensures (SpellsAuthors-read c.args.actors.now c.args.bytes.now c.in-Ok.cursor c.in-Ok.ensures.ok.0 (authors-if_spelled c.args.actors.now c.args.bytes.now c.in-Ok.cursor c.in-Ok.ensures.ok.0 c.requires.0 c.requires.1) c.in-Ok.ensures.ok.1)
