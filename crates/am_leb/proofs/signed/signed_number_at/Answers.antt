use Rattle.std.proofs.Common.{arith, rules, ap, sym, ◌∙◌}
use Rattle.am_leb.specs.Reading.{from_magnitude}
use Rattle.am_leb.proofs.Answering.{end_found, first_signed-fault, first_signed-large, first_signed-long, first_signed-found}
use Rattle.am_leb.proofs.NineBytes.{below_zero, above_zero}
use Rattle.am_leb.proofs.signed.signed_number_at.Goals as goal

pub returns-in_err-len : goal.returns-in_err-len
returns-in_err-len c = let e = first_signed-fault c.args.bytes.now _ c.in_err-len.ensures in search rules

pub returns-then-magnitude : goal.returns-then-magnitude
returns-then-magnitude c = first_signed-large _ _ _ _ (end_found c.args.bytes.now _ c.in_ok-len.ensures) c.is_negative-negative.ensures c.magnitude_of-magnitude.ensures (omega arith)

pub returns-then-signed_len-len : goal.returns-then-signed_len-len
returns-then-signed_len-len c = first_signed-long _ _ _ _ (end_found c.args.bytes.now _ c.in_ok-len.ensures) c.is_negative-negative.ensures c.magnitude_of-magnitude.ensures (omega arith) (omega arith)

pub returns-then-negative : goal.returns-then-negative
returns-then-negative c = first_signed-found _ _ _ _ _ (end_found c.args.bytes.now _ c.in_ok-len.ensures) c.is_negative-negative.ensures c.magnitude_of-magnitude.ensures (omega arith) (omega arith)
    (below_zero c.magnitude_of-magnitude.result (omega arith) ∙ ap (λ t. from_magnitude t c.magnitude_of-magnitude.result) (sym c.if-negative.true))

pub returns-else-negative : goal.returns-else-negative
returns-else-negative c = first_signed-found _ _ _ _ _ (end_found c.args.bytes.now _ c.in_ok-len.ensures) c.is_negative-negative.ensures c.magnitude_of-magnitude.ensures (omega arith) (omega arith)
    (above_zero c.magnitude_of-magnitude.result (omega arith) ∙ ap (λ t. from_magnitude t c.magnitude_of-magnitude.result) (sym c.if-negative.false))
