use Rattle.std.proofs.Common.{[], ◌-◌, arith}
use Rattle.am_merge.proofs.Placing.{one_before}
use Rattle.am_merge.proofs.lookup.places_of.Goals as goal

pub loop-i-preserved : goal.loop-i-preserved
loop-i-preserved c = record {
  within = (let w = c.loop-i.invariant.within in omega arith);
  told =
      let w = c.loop-i.invariant.within in
      let t = c.loop-i-test.true in
      one_before c.loop-i.places c.insert.new.self c.args.hashes.now (c.loop-i.i - 1) c.loop-i.i (record { 0 = [] }) (omega arith) (omega arith) c.in_ok-insert.ensures.updates c.loop-i.invariant.told;
}
