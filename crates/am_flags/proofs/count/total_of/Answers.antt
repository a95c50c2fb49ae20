use Rattle.std.proofs.Common.{arith, sym, ◌∙◌}
use Rattle.std.proofs.lemmas.Grind.{common_steps}
use Rattle.am_flags.proofs.Counts.{no_next, one_counted, shorter, one_number}
use Rattle.am_flags.proofs.count.total_of.Goals as goal

pub returns-in-None-clause-none : goal.returns-in-None-clause-none
returns-in-None-clause-none c = no_next _ _ _ _ c.loop-rest.invariant.0 c.loop-rest.invariant.1 (grind (arith, common_steps)) (λ k behind h g e. absurd (c.in-None.ensures.none k behind g e))

pub returns-then-count-eq0-clause-none : goal.returns-then-count-eq0-clause-none
returns-then-count-eq0-clause-none c = no_next _ _ _ _ c.loop-rest.invariant.0 c.loop-rest.invariant.1 (grind (arith, common_steps))
    (λ k behind h g e. let w = one_number k c.in-Some.count behind c.in-Some.behind.now g c.in-Some.ensures.some.0 (sym e ∙ c.in-Some.ensures.some.1) in absurd (omega (arith, w.0)))

pub returns-then-count-most-clause-none : goal.returns-then-count-most-clause-none
returns-then-count-most-clause-none c = no_next _ _ _ _ c.loop-rest.invariant.0 c.loop-rest.invariant.1 (grind (arith, common_steps))
    (λ k behind h g e. let w = one_number k c.in-Some.count behind c.in-Some.behind.now g c.in-Some.ensures.some.0 (sym e ∙ c.in-Some.ensures.some.1) in omega (arith, w.0))

pub loop-rest-smaller : goal.loop-rest-smaller
loop-rest-smaller c = shorter _ _ _ c.in-Some.ensures.some.1

pub loop-rest-preserved : goal.loop-rest-preserved
loop-rest-preserved c = (one_counted _ _ _ _ _ c.loop-rest.invariant.0 c.in-Some.ensures.some.1 (omega arith) c.in-Some.ensures.some.0, omega arith)
