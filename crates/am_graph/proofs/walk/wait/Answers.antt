use Rattle.std.proofs.Common.{◌≡◌, [], sym, true}
use Rattle.am_graph.specs.Graphs.{is_held}
use Rattle.am_graph.specs.Walks.{waits}
use Rattle.am_graph.proofs.Sweeping.{find_at, within_push}
use Rattle.am_graph.proofs.Waiting.{wait_more}
use Rattle.am_graph.proofs.walk.wait.Goals as goal

pub returns-in_default-clause-unknown : goal.returns-in_default-clause-unknown
returns-in_default-clause-unknown c =
    find_at (is_held c.args.held.now.entries) c.args.hashes.now c.loop-hash.hash-index (record { 0 = [] }) c.loop-hash-test.true c.loop-hash.invariant.held
    (sym c.in_default.ensures.found)

pub loop-hash-preserved : goal.loop-hash-preserved
loop-hash-preserved c = record {
  waits = wait_more c.args.held.now.entries c.requires (waits c.args.pending.now) (waits c.loop-hash.pending) (waits c.insert.new.self) c.args.hashes.now c.loop-hash.hash-index (record { 0 = [] })
      c.loop-hash-test.true c.in-Some.place (sym c.in-Some.ensures.index) c.in-Ok.ensures.updates.0 c.loop-hash.invariant.waits;
  held = within_push (λ h. is_held c.args.held.now.entries h ≡ true) c.args.hashes.now c.loop-hash.hash-index (record { 0 = [] }) c.loop-hash-test.true c.loop-hash.invariant.held
      (sym c.in-Some.ensures.found);
}
