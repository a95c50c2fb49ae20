use Rattle.std.proofs.Common.{◌∙◌}
use Rattle.am_leb.proofs.SignedLaws.{length_twice}
use Rattle.am_leb.proofs.signed.signed_len.Goals as goal

pub returns : goal.returns
returns c = c.unsigned_len.ensures ∙ length_twice c.args.magnitude
