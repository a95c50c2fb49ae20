use Rattle.std.proofs.Common.{◌<◌, ◌^◌, rules}
use Rattle.am_fields.proofs.Codes.{numbers_code}
use Rattle.am_fields.proofs.number_writer.UnsignedItemLentU64.byte_of.Goals as goal

pub returns-clause-told : goal.returns-clause-told
returns-clause-told c = let fits : c.args.number < 2 ^ 64 = search rules in let back = numbers_code.back c.args.number fits in let item = numbers_code.item c.args.number fits in search rules
