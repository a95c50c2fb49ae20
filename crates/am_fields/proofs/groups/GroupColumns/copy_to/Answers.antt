use Rattle.std.proofs.Common.{◌≤◌, ◌+◌, ◌^◌, ◌∙◌, ◌++◌, length, take, drop, map, Some, ap, subst, arith}
use Rattle.std.specs.Prelude.{IfSome}
use Rattle.am_fields.specs.Groups.{counts, total}
use Rattle.am_fields.specs.Held.{IdsHeld}
use Rattle.am_fields.proofs.Copies.{are_copied, group_room, group_count}
use Rattle.am_fields.proofs.Moves.{written_as}
use Rattle.am_fields.proofs.groups.GroupColumns.copy_to.Goals as goal

pub copy_lengths-requires-clause-enough : goal.copy_lengths-requires-clause-enough
copy_lengths-requires-clause-enough c =
    let at = c.self.inside in
    omega (arith, c.requires.enough, group_count at.count at.ids _ c.self.view_is, ap length c.again-count.ensures)

pub copy_lengths-requires-clause-few : goal.copy_lengths-requires-clause-few
copy_lengths-requires-clause-few c =
    let at = c.self.inside in
    omega (arith, c.self.invariant, c.left-all.ensures, ap (λ l. total (counts l)) c.again-count.ensures)

pub take-requires-clause-places : goal.take-requires-clause-places
take-requires-clause-places c =
    let at = c.self.inside in
    let w = group_room c.args.n c.in_ok-sum.sum at.count at.ids _ c.self.invariant c.self.view_is (c.in_ok-sum.ensures.total ∙ ap (λ l. total (take c.args.n (counts l))) c.again-count.ensures) in
    subst (λ m. IfSome c.args.ids.now.places (λ xs. length xs + m ≤ 2 ^ 32)) w.1 c.requires.places

pub take-requires-clause-counters : goal.take-requires-clause-counters
take-requires-clause-counters c =
    let at = c.self.inside in
    let w = group_room c.args.n c.in_ok-sum.sum at.count at.ids _ c.self.invariant c.self.view_is (c.in_ok-sum.ensures.total ∙ ap (λ l. total (take c.args.n (counts l))) c.again-count.ensures) in
    subst (λ m. IfSome c.args.ids.now.counters (λ xs. length xs + m ≤ 2 ^ 32)) w.1 c.requires.counters

pub take-requires-clause-enough : goal.take-requires-clause-enough
take-requires-clause-enough c =
    let at = c.self.inside in
    let w = group_room c.args.n c.in_ok-sum.sum at.count at.ids _ c.self.invariant c.self.view_is (c.in_ok-sum.ensures.total ∙ ap (λ l. total (take c.args.n (counts l))) c.again-count.ensures) in
    omega (arith, w.0, ap length c.again-from.ensures)

pub invariant_of-self : goal.invariant_of-self
invariant_of-self c =
    let at = c.self.inside in
    let w = are_copied c.args.n c.in_ok-sum.sum at.count _ at.ids _ _ c.self.invariant c.self.view_is (c.in_ok-sum.ensures.total ∙ ap (λ l. total (take c.args.n (counts l))) c.again-count.ensures) (c.in_ok-sum.ensures.behind ∙ ap (drop c.args.n) c.again-count.ensures) (c.in_ok-take.ensures.behind ∙ ap (drop c.in_ok-sum.sum) c.again-from.ensures) in
    w.whole

pub returns-clause-lengths : goal.returns-clause-lengths
returns-clause-lengths c =
    let at = c.self.inside in
    let w = are_copied c.args.n c.in_ok-sum.sum at.count _ at.ids _ _ c.self.invariant c.self.view_is (c.in_ok-sum.ensures.total ∙ ap (λ l. total (take c.args.n (counts l))) c.again-count.ensures) (c.in_ok-sum.ensures.behind ∙ ap (drop c.args.n) c.again-count.ensures) (c.in_ok-take.ensures.behind ∙ ap (drop c.in_ok-sum.sum) c.again-from.ensures) in
    written_as c.args.lengths.now _ _ _ (ap (λ l. take c.args.n (map Some (counts l))) c.again-count.ensures ∙ w.lengths_are) c.in_ok-sum.ensures.ok

pub returns-clause-ids : goal.returns-clause-ids
returns-clause-ids c =
    let at = c.self.inside in
    let w = are_copied c.args.n c.in_ok-sum.sum at.count _ at.ids _ _ c.self.invariant c.self.view_is (c.in_ok-sum.ensures.total ∙ ap (λ l. total (take c.args.n (counts l))) c.again-count.ensures) (c.in_ok-sum.ensures.behind ∙ ap (drop c.args.n) c.again-count.ensures) (c.in_ok-take.ensures.behind ∙ ap (drop c.in_ok-sum.sum) c.again-from.ensures) in
    λ before held. subst (λ l. IdsHeld c.args.actors.now (before ++ l) c.take.new.self) (ap (take c.in_ok-sum.sum) c.again-from.ensures ∙ w.flat_is) (c.in_ok-take.ensures.ids before held)

pub returns-clause-behind : goal.returns-clause-behind
returns-clause-behind c =
    let at = c.self.inside in
    let w = are_copied c.args.n c.in_ok-sum.sum at.count _ at.ids _ _ c.self.invariant c.self.view_is (c.in_ok-sum.ensures.total ∙ ap (λ l. total (take c.args.n (counts l))) c.again-count.ensures) (c.in_ok-sum.ensures.behind ∙ ap (drop c.args.n) c.again-count.ensures) (c.in_ok-take.ensures.behind ∙ ap (drop c.in_ok-sum.sum) c.again-from.ensures) in
    w.behind
