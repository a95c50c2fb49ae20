use Rattle.std.proofs.Common.{rules}
use Rattle.am_fields.specs.Writing.{IsShortText}
use Rattle.am_fields.proofs.Codes.{texts_code}
use Rattle.am_fields.proofs.text_writer.TextItemLentRefStr.spell.Goals as goal

pub returns-clause-told : goal.returns-clause-told
returns-clause-told c = let fits : IsShortText c.args.text.now = search rules in let back = texts_code.back c.args.text.now fits in let item = texts_code.item c.args.text.now fits in search rules
