use Rattle.std.proofs.Common.{option_map, sym, ap, ◌∙◌}
use Rattle.am_types.specs.Order.{hash_cmp, same}
use Rattle.am_types.specs.Members.{Member}
use Rattle.am_history_tests.proofs.SampleSets.{none_further, found_here, all_passed}
use Rattle.am_history_tests.proofs.sample_set.found.Goals as goal

pub returns-then-is_hash : goal.returns-then-is_hash
returns-then-is_hash c =
    let x = c.entry-item.result in
    sym (ap (option_map (λ (m : Member). m.change)) (found_here (λ (m : Member). same hash_cmp c.args.hash.now m.hash) c.args.held.now c.loop-entry.entry-index x c.entry-item.is c.loop-entry-test.true c.loop-entry.invariant (sym c.is_hash.ensures ∙ c.if-is_hash.true)))

pub loop-entry-preserved : goal.loop-entry-preserved
loop-entry-preserved c =
    none_further (λ (m : Member). same hash_cmp c.args.hash.now m.hash) c.args.held.now c.loop-entry.entry-index c.entry-item.result c.entry-item.is c.loop-entry-test.true c.loop-entry.invariant (sym c.is_hash.ensures ∙ c.if-is_hash.false)

pub returns : goal.returns
returns c = sym (ap (option_map (λ (m : Member). m.change)) (all_passed (λ (m : Member). same hash_cmp c.args.hash.now m.hash) c.args.held.now c.loop-entry.entry-index c.loop-entry-test.false c.loop-entry.invariant))
