use Rattle.std.proofs.Common.{arith, ◌∙◌, ◌≤◌}
use Rattle.std.proofs.lemmas.Grind.{common_steps}
use Rattle.am_flags.proofs.Counts.{flags-jump}
use Rattle.am_flags.proofs.place.place_behind.Goals as goal

pub loop-n-preserved : goal.loop-n-preserved
loop-n-preserved c =
    let k = c.min-k.result in
    let least : k ≤ c.block_at-block.result.count = grind (arith, common_steps) in
    let within : k ≤ c.loop-n.n = grind (arith, common_steps) in
    (c.block_at-block.ensures.counts, flags-jump _ _ k _ _ _ least within c.block_at-block.ensures.same ∙ c.loop-n.invariant.1)
