use Rattle.am_leb.proofs.SignedLaws.{IsLeb_iff}
use Rattle.am_leb.proofs.signed.one_signed_spelling.Goals as goal

pub returns : goal.returns
returns c = IsLeb_iff
