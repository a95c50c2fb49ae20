use Rattle.std.proofs.Common.{[], sym}
use Rattle.am_delivery.specs.Waiting.{waiting_of}
use Rattle.am_delivery.proofs.Leaving.{remaining_nil, removed_next}
use Rattle.am_delivery.proofs.removing.remove_all.Goals as goal

pub loop-hash-init : goal.loop-hash-init
loop-hash-init c = sym (remaining_nil (waiting_of c.args.waiting.now))

pub loop-hash-preserved : goal.loop-hash-preserved
loop-hash-preserved c =
    removed_next (waiting_of c.args.waiting.now) c.loop-hash.waiting c.remove.new.self c.args.gone.now c.loop-hash.hash-index (record { 0 = [] }) c.loop-hash-test.true c.loop-hash.invariant c.len-count.ensures.ordered c.remove.ensures.entries
