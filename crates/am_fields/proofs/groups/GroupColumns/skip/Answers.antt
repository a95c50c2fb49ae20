use Rattle.std.proofs.Common.{arith, refl}
use Rattle.am_fields.proofs.Copies.{are_copied, group_room, group_count}
use Rattle.am_fields.proofs.groups.GroupColumns.skip.Goals as goal

pub skip_lengths-sum-requires-clause-enough : goal.skip_lengths-sum-requires-clause-enough
skip_lengths-sum-requires-clause-enough c =
    let at = c.self.inside in
    omega (arith, c.requires, group_count at.count at.ids _ c.self.view_is)

pub skip_lengths-sum-requires-clause-few : goal.skip_lengths-sum-requires-clause-few
skip_lengths-sum-requires-clause-few c = omega (arith, c.self.invariant, c.left-all.ensures)

pub skip-requires : goal.skip-requires
skip-requires c = λ k.
    let at = c.self.inside in
    let w = group_room c.args.n c.skip_lengths-sum.result at.count at.ids _ c.self.invariant c.self.view_is c.skip_lengths-sum.ensures.total in
    ((refl, tt), omega (arith, w.0))

pub invariant_of-self : goal.invariant_of-self
invariant_of-self c =
    let at = c.self.inside in
    let w = are_copied c.args.n c.skip_lengths-sum.result at.count _ at.ids _ _ c.self.invariant c.self.view_is c.skip_lengths-sum.ensures.total c.skip_lengths-sum.ensures.behind c.skip.ensures in
    w.whole

pub returns : goal.returns
returns c =
    let at = c.self.inside in
    let w = are_copied c.args.n c.skip_lengths-sum.result at.count _ at.ids _ _ c.self.invariant c.self.view_is c.skip_lengths-sum.ensures.total c.skip_lengths-sum.ensures.behind c.skip.ensures in
    w.behind
