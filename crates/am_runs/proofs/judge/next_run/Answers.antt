use Rattle.std.proofs.Common.{arith, sym}
use Rattle.am_runs.proofs.Sights.{next_is, none_next, same_next}
use Rattle.am_runs.proofs.judge.next_run.Goals as goal

pub returns-in-None-clause-none : goal.returns-in-None-clause-none
returns-in-None-clause-none g c = λ s n. none_next _ g.met.K.Item.reads _ _ _ s c.in-None.ensures n

pub returns-then-run-most-clause-none : goal.returns-then-run-most-clause-none
returns-then-run-most-clause-none g c = λ s n. absurd (let w = same_next _ g.met.K.Item.reads _ _ _ _ s c.in-Some.ensures n in omega (arith, w.1))

pub returns-then-may_come_after-clause-found : goal.returns-then-may_come_after-clause-found
returns-then-may_come_after-clause-found g c = next_is _ g.met.K.Item.reads _ _ _ _ (λ i. omega (arith, c.type_inv.bytes i)) (sym c.in-Some.ensures) (c.may_come_after.ensures.0 c.if-may_come_after.true) (omega arith)

pub returns-else-may_come_after-clause-none : goal.returns-else-may_come_after-clause-none
returns-else-may_come_after-clause-none g c = λ s n. let w = same_next _ g.met.K.Item.reads _ _ _ _ s c.in-Some.ensures n in let yes = c.may_come_after.ensures.1 w.0 in let no = c.if-may_come_after.false in absurd (cc)
