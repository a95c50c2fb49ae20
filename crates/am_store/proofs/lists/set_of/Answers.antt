use Rattle.std.proofs.Common.{[]}
use Rattle.am_store.proofs.Hashes.{set_more}
use Rattle.am_store.proofs.lists.set_of.Goals as goal

pub loop-hash-preserved : goal.loop-hash-preserved
loop-hash-preserved c = set_more c.loop-hash.set c.insert.new.self c.args.hashes.now c.loop-hash.hash-index (record { 0 = [] }) c.loop-hash-test.true c.in_ok-insert.ensures.updates c.loop-hash.invariant
