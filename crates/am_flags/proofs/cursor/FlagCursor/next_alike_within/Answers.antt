use Rattle.std.proofs.Common.{sym, ◌∙◌, ◌≤◌, ◌-◌, not}
use Rattle.std.proofs.lemmas.Grind.{common_steps}
use Rattle.std.proofs.Common.{arith}
use Rattle.am_flags.specs.Flags.{alternating, counts_of, flags_at}
use Rattle.am_flags.proofs.Taking.{some_of, left_behind}
use Rattle.am_flags.proofs.cursor.FlagCursor.next_alike_within.Goals as goal

pub invariant_of-self : goal.invariant_of-self
invariant_of-self c =
    let at = c.block_at-at.result in
    let k = c.min-k.result in
    let few : k ≤ at.count = grind (arith, common_steps) in
    (c.block_at-at.ensures.counts, left_behind c.self.inside.left k at.flag _ (flags_at at.flag (at.count - k) at.rest.now) c.self.invariant.1 (sym c.block_at-at.ensures.same ∙ some_of k at.count at.flag (alternating (not at.flag) (counts_of at.rest.now)) few))

pub returns-clause-next : goal.returns-clause-next
returns-clause-next c =
    let at = c.block_at-at.result in
    let k = c.min-k.result in
    let few : k ≤ at.count = grind (arith, common_steps) in
    (grind (arith, common_steps), grind (arith, common_steps), sym c.self.view_is ∙ sym c.block_at-at.ensures.same ∙ some_of k at.count at.flag (alternating (not at.flag) (counts_of at.rest.now)) few)
