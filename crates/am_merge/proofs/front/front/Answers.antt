use Rattle.std.proofs.Common.{◌∙◌, ◌+◌, ◌-◌, ◌*◌, drop, ap, arith}
use Rattle.am_merge.specs.Fronts.{spelled}
use Rattle.am_merge.proofs.Fronts.{digit_more, few_digits, spelled_more}
use Rattle.am_merge.proofs.front.front.Goals as goal

pub loop-i-preserved : goal.loop-i-preserved
loop-i-preserved c = record {
  bound = omega (arith, c.loop-i-test.true);
  low = digit_more c.loop-i.word c.byte_at.result c.loop-i.i c.loop-i.invariant.low c.byte_at.type_inv;
  word =
      ap (λ b. spelled (c.loop-i.word * 256 + b) (16 - (c.loop-i.i + 1)) (drop (c.loop-i.i + 1) c.args.bytes.now)) c.byte_at.ensures
      ∙ spelled_more c.loop-i.word c.loop-i.i c.args.bytes.now c.loop-i-test.true
      ∙ c.loop-i.invariant.word;
}

pub overflow_mul-word : goal.overflow_mul-word
overflow_mul-word c = omega (arith, few_digits c.loop-i.word 0 c.loop-i.i c.loop-i-test.true c.loop-i.invariant.low (omega arith))

pub overflow_add-word : goal.overflow_add-word
overflow_add-word c = omega (arith, few_digits c.loop-i.word c.byte_at.result c.loop-i.i c.loop-i-test.true c.loop-i.invariant.low c.byte_at.type_inv)
