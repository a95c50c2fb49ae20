use Rattle.std.proofs.Common.{sym}
use Rattle.am_leb.proofs.SignedLaws.{ends_negative-last}
use Rattle.am_leb.proofs.signed.is_negative.Goals as goal

pub returns : goal.returns
returns c = sym (ends_negative-last c.args.spelling.now c.requires)
