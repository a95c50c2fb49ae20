use Rattle.std.proofs.Common.{sym, ap, ◌∙◌, Ok}
use Rattle.am_leb.proofs.OneByte.{first_unsigned-low}
use Rattle.am_leb.proofs.unsigned.first_number.Goals as goal

pub returns-in-Some : goal.returns-in-Some
returns-in-Some c = ap (λ n. Ok (n, 1)) c.from.ensures ∙ sym (first_unsigned-low _ _ _ c.in-Some.ensures.0 c.in-Some.ensures.1)
