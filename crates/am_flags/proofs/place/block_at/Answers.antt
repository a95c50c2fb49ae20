use Rattle.std.proofs.Common.{arith, sym, ap, ◌∙◌, ◌≡◌}
use Rattle.std.proofs.lemmas.Grind.{common_steps}
use Rattle.am_flags.specs.Flags.{flags_at}
use Rattle.am_flags.proofs.Counts.{open_next, ends_here}
use Rattle.am_flags.proofs.place.block_at.Goals as goal

pub returns-in-None-clause-some : goal.returns-in-None-clause-some
returns-in-None-clause-some c = λ e. ap (λ n. flags_at c.args.at.flag n c.args.at.rest.now) e ∙ ends_here _ _ c.requires c.in-None.ensures.none

pub returns-in-Some-clause-counts : goal.returns-in-Some-clause-counts
returns-in-Some-clause-counts c = (open_next c.args.at.flag _ _ _ c.in-Some.ensures.some.0 c.requires c.in-Some.ensures.some.1).0

pub returns-in-Some-clause-same : goal.returns-in-Some-clause-same
returns-in-Some-clause-same c =
    let e : c.args.at.count ≡ 0 = grind (arith, common_steps) in
    (open_next c.args.at.flag _ _ _ c.in-Some.ensures.some.0 c.requires c.in-Some.ensures.some.1).2 ∙ ap (λ n. flags_at c.args.at.flag n c.args.at.rest.now) (sym e)

pub returns-in-Some-clause-some : goal.returns-in-Some-clause-some
returns-in-Some-clause-some c = λ e. absurd (omega (arith, (open_next c.args.at.flag _ _ _ c.in-Some.ensures.some.0 c.requires c.in-Some.ensures.some.1).1))
