use Rattle.std.proofs.Common.{arith, rules, add-one, ◌+◌, ◌*◌, ◌<◌, ◌^◌}
use Rattle.am_leb.proofs.Ends.{end_within-found}
use Rattle.am_leb.proofs.NineBytes.{sum_is, bound_is, sum_fits, bound_fits}
use Rattle.am_leb.proofs.spelling.spelling_at.Goals as goal

pub overflow_add-value : goal.overflow_add-value
overflow_add-value c = let below : c.loop-i.value + c.from.result * c.loop-i.bound < 2 ^ 64 = sum_fits c.args.bytes.now c.loop-i.i _ _ _ (omega arith) (omega arith) c.loop-i.invariant.value c.from.ensures c.loop-i.invariant.bound in search rules

pub overflow_mul-bound : goal.overflow_mul-bound
overflow_mul-bound c = let below : c.loop-i.bound * 128 < 2 ^ 64 = bound_fits c.loop-i.i c.loop-i.bound (omega arith) c.loop-i.invariant.bound in search rules

pub returns-then-byte-lt128 : goal.returns-then-byte-lt128
returns-then-byte-lt128 c = rw add-one (
  omega arith,
  end_within-found 10 c.args.bytes.now c.loop-i.i (omega arith) (omega arith) c.loop-i.invariant.high (search rules),
  sum_is c.args.bytes.now c.loop-i.i _ _ _ (omega arith) c.loop-i.invariant.value c.from.ensures c.loop-i.invariant.bound,
  bound_is c.loop-i.i c.loop-i.bound c.loop-i.invariant.bound,
)

pub loop-i-preserved : goal.loop-i-preserved
loop-i-preserved c = record {
  high = search rules;
  value = rw add-one (sum_is c.args.bytes.now c.loop-i.i _ _ _ (omega arith) c.loop-i.invariant.value c.from.ensures c.loop-i.invariant.bound);
  bound = rw add-one (bound_is c.loop-i.i c.loop-i.bound c.loop-i.invariant.bound);
}
