use Rattle.std.specs.Prelude.{slice_index_or}
use Rattle.std.proofs.Common.{◌≡◌, [], sym, subst, true, Some, None, arith}
use Rattle.am_graph.specs.Graphs.{is_held, missing}
use Rattle.am_graph.proofs.Sweeping.{find_at, find_none_within, within_push}
use Rattle.am_graph.proofs.graph.Graph.first_missing.Goals as goal

pub returns-in_default : goal.returns-in_default
returns-in_default c =
    subst (λ g. Some (slice_index_or c.args.hashes.now c.loop-hash.hash-index (record { 0 = [] })) ≡ missing g c.args.hashes.now) c.self.view_is
    (sym (find_at (is_held c.self.inside.parts.held.entries) c.args.hashes.now c.loop-hash.hash-index (record { 0 = [] }) c.loop-hash-test.true c.loop-hash.invariant
    (sym c.in_default.ensures.found)))

pub loop-hash-preserved : goal.loop-hash-preserved
loop-hash-preserved c = within_push (λ h. is_held c.self.inside.parts.held.entries h ≡ true) c.args.hashes.now c.loop-hash.hash-index (record { 0 = [] }) c.loop-hash-test.true c.loop-hash.invariant
    (sym c.in-Some.ensures.found)

pub returns : goal.returns
returns c =
    subst (λ g. None ≡ missing g c.args.hashes.now) c.self.view_is
    (sym (find_none_within (is_held c.self.inside.parts.held.entries) c.args.hashes.now (λ k d z l. c.loop-hash.invariant k d z (let f = c.loop-hash-test.false in omega arith))))
