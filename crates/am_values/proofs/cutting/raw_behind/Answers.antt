use Rattle.std.proofs.Common.{arith, sym, ap, ◌∙◌, ◌≤◌, ◌-◌, subst, drop}
use Rattle.std.proofs.lemmas.Grind.{common_steps}
use Rattle.am_values.specs.Cutting.{AreCut, values_from}
use Rattle.am_values.proofs.Cuts.{past_many, skips}
use Rattle.am_values.proofs.cutting.raw_behind.Goals as goal

pub past-rest-requires : goal.past-rest-requires
past-rest-requires c =
    let few : c.min-step.result ≤ c.in-Some.count = grind (arith, common_steps) in
    record { fits = (past_many c.min-step.result c.in-Some.count c.in-Some.number c.loop-n.numbers c.loop-n.rest.now few c.in-Some.ensures.like.2 c.loop-n.invariant.0).0 }

pub loop-n-preserved : goal.loop-n-preserved
loop-n-preserved c =
    let j = c.min-step.result in
    let rest = c.past-rest.result.now in
    let few : j ≤ c.in-Some.count = grind (arith, common_steps) in
    let within : j ≤ c.loop-n.n = grind (arith, common_steps) in
    let w = skips j c.in-Some.count c.loop-n.n c.args.n c.in-Some.number c.loop-n.numbers c.args.numbers.now c.loop-n.rest.now rest c.args.raw.now few within c.in-Some.ensures.like.2 c.past-rest.ensures.behind c.loop-n.invariant.0 c.loop-n.invariant.1 in
    (subst (λ l. AreCut l rest) (sym c.skip.ensures) w.0, ap (λ l. drop (c.loop-n.n - j) (values_from l rest)) c.skip.ensures ∙ w.1)
