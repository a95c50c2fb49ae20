use Rattle.std.proofs.Common.{subst, sym, All, arith}
use Rattle.am_types.specs.Bytes.{IsHash}
use Rattle.am_types.specs.Fine.{Fine}
use Rattle.am_history_tests.proofs.DeliveryChanges.{fine_sample}
use Rattle.am_history_tests.proofs.delivery.change.Goals as goal

pub returns : goal.returns
returns c = record {
  hash = c.hash_known.ensures;
  fine = subst Fine (sym c.sample.ensures) (fine_sample c.in_ok-actor.actor c.args.sample_of.now.2 c.in_ok-deps.deps c.as_slice-bytes.ensures.allowed (omega arith) (omega arith) (subst (All IsHash) c.as_slice.ensures c.hashes_known.ensures) c.in_ok-deps.ensures);
}
