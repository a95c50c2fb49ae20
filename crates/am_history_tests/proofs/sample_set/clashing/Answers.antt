use Rattle.std.proofs.Common.{option_map, sym, ap, ◌∙◌}
use Rattle.am_types.specs.Members.{Member}
use Rattle.am_types.specs.Verdicts.{has_seq}
use Rattle.am_history_tests.proofs.SampleSets.{none_further, found_here, all_passed}
use Rattle.am_history_tests.proofs.sample_set.clashing.Goals as goal

pub returns-then-is_clash : goal.returns-then-is_clash
returns-then-is_clash c =
    sym (ap (option_map (λ (m : Member). m.hash)) (found_here (has_seq c.args.change.now.actor c.args.change.now.seq) c.args.held.now c.loop-entry.entry-index c.entry-item.result c.entry-item.is c.loop-entry-test.true c.loop-entry.invariant (sym c.is_clash.ensures ∙ c.if-is_clash.true)))

pub loop-entry-preserved : goal.loop-entry-preserved
loop-entry-preserved c =
    none_further (has_seq c.args.change.now.actor c.args.change.now.seq) c.args.held.now c.loop-entry.entry-index c.entry-item.result c.entry-item.is c.loop-entry-test.true c.loop-entry.invariant (sym c.is_clash.ensures ∙ c.if-is_clash.false)

pub returns : goal.returns
returns c = sym (ap (option_map (λ (m : Member). m.hash)) (all_passed (has_seq c.args.change.now.actor c.args.change.now.seq) c.args.held.now c.loop-entry.entry-index c.loop-entry-test.false c.loop-entry.invariant))
