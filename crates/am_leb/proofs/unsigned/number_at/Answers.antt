use Rattle.std.proofs.Common.{arith, rules}
use Rattle.am_leb.proofs.Answering.{end_found, first_unsigned-fault, first_unsigned-large, first_unsigned-long, first_unsigned-found}
use Rattle.am_leb.proofs.unsigned.number_at.Goals as goal

pub returns-in_err-len : goal.returns-in_err-len
returns-in_err-len c = let e = first_unsigned-fault c.args.bytes.now _ c.in_err-len.ensures in search rules

pub returns-then-value : goal.returns-then-value
returns-then-value c = first_unsigned-large _ _ _ (end_found c.args.bytes.now _ c.in_ok-len.ensures) c.unsigned_of-value.ensures (omega arith)

pub returns-then-unsigned_len-len : goal.returns-then-unsigned_len-len
returns-then-unsigned_len-len c = first_unsigned-long _ _ _ (end_found c.args.bytes.now _ c.in_ok-len.ensures) c.unsigned_of-value.ensures (omega arith) (omega arith)

pub returns : goal.returns
returns c = first_unsigned-found _ _ _ (end_found c.args.bytes.now _ c.in_ok-len.ensures) c.unsigned_of-value.ensures (omega arith) (omega arith)
