use Rattle.std.proofs.Common.{is_some, sym, ap, ◌∙◌}
use Rattle.am_history_tests.specs.DeliverySamples.{isnt_bare}
use Rattle.am_history_tests.proofs.SampleSets.{none_further, found_here, all_passed}
use Rattle.am_history_tests.proofs.sample_set.has_other.Goals as goal

pub returns-then-is_other : goal.returns-then-is_other
returns-then-is_other c =
    sym (ap is_some (found_here isnt_bare c.args.held.now c.loop-entry.entry-index c.entry-item.result c.entry-item.is c.loop-entry-test.true c.loop-entry.invariant (sym c.is_other.ensures ∙ c.if-is_other.true)))

pub loop-entry-preserved : goal.loop-entry-preserved
loop-entry-preserved c =
    none_further isnt_bare c.args.held.now c.loop-entry.entry-index c.entry-item.result c.entry-item.is c.loop-entry-test.true c.loop-entry.invariant (sym c.is_other.ensures ∙ c.if-is_other.false)

pub returns : goal.returns
returns c = sym (ap is_some (all_passed isnt_bare c.args.held.now c.loop-entry.entry-index c.loop-entry-test.false c.loop-entry.invariant))
