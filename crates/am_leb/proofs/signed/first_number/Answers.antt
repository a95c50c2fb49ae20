use Rattle.std.proofs.Common.{sym, ap, ◌∙◌, Ok, FitsSigned, w64, rules}
use Rattle.std.proofs.lemmas.Int.{to_z-of_z}
use Rattle.am_leb.proofs.OneByte.{first_signed-low}
use Rattle.am_leb.proofs.signed.first_number.Goals as goal

pub returns-in-Some : goal.returns-in-Some
returns-in-Some c =
    let fits : FitsSigned w64 c.low_number.result = search rules in
    ap (λ z. Ok (z, 1)) (to_z-of_z w64 c.low_number.result fits ∙ c.low_number.ensures) ∙ sym (first_signed-low _ _ _ c.in-Some.ensures.0 c.in-Some.ensures.1)
