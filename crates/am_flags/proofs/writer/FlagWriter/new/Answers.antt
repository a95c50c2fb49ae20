use Rattle.std.proofs.Common.{ap, Some}
use Rattle.am_flags.proofs.Writing.{new_written}
use Rattle.am_flags.proofs.writer.FlagWriter.new.Goals as goal

pub invariant_of-result : goal.invariant_of-result
invariant_of-result c = (new_written _ c.new.ensures.items).1

pub returns : goal.returns
returns c = ap Some (new_written _ c.new.ensures.items).0
