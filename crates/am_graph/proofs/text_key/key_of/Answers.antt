use Rattle.std.proofs.Common.{slice_index_or, arith}
use Rattle.am_graph.proofs.TextKeys.{few_digits}
use Rattle.am_graph.proofs.text_key.key_of.Goals as goal

pub overflow_mul-word : goal.overflow_mul-word
overflow_mul-word c =
    let b = c.loop-i-test.true in
    let r = c.requires in
    omega (arith, few_digits c.loop-i.word 0 c.loop-i.i (omega arith) c.loop-i.invariant.low (omega arith))

pub overflow_add-word : goal.overflow_add-word
overflow_add-word c =
    let b = c.loop-i-test.true in
    let r = c.requires in
    omega (arith, few_digits c.loop-i.word (slice_index_or c.args.text.now c.loop-i.i 0) c.loop-i.i (omega arith) c.loop-i.invariant.low (omega (arith, c.type_inv.text c.loop-i.i)))
