use Rattle.std.proofs.Common.{◌∷◌, [], sym, ap, ◌∙◌}
use Rattle.am_leb.proofs.SignedLaws.{leb-one}
use Rattle.am_leb.proofs.signed.magnitude_byte.Goals as goal

pub returns-then-magnitude-lt64-clause-byte : goal.returns-then-magnitude-lt64-clause-byte
returns-then-magnitude-lt64-clause-byte c = leb-one c.args.negative c.args.magnitude c.if-magnitude-lt64.true ∙ ap (λ b. b ∷ []) (sym c.bits_of.ensures.value)
