use Rattle.std.proofs.Common.{arith, subst}
use Rattle.std.specs.Str.{IsAscii}
use Rattle.std.proofs.lemmas.List.{take_all}
use Rattle.am_runs.proofs.LiteralTexts.{ascii_more}
use Rattle.am_runs.proofs.value.are_few_ascii.Goals as goal

pub loop-byte-preserved : goal.loop-byte-preserved
loop-byte-preserved c = ascii_more c.args.bytes.now c.loop-byte.byte-index c.loop-byte.invariant (omega arith) (omega arith)

pub returns : goal.returns
returns c = λ t. subst IsAscii (take_all c.loop-byte.byte-index c.args.bytes.now (omega arith)) c.loop-byte.invariant
