use Rattle.std.proofs.Common.{sym, ◌∙◌}
use Rattle.std.proofs.lemmas.Result.{IfOk-weaker, IfErr-weaker, on_ok_weaker}
use Rattle.am_session.proofs.AtClock.{held_at, match_fault, missing_at}
use Rattle.am_session.proofs.reading.clock_at.Goals as goal

pub returns-clause-ok : goal.returns-clause-ok
returns-clause-ok c = IfOk-weaker c.clock.result _ _ (λ clock is. is c.args.store.now.closed c.graph.ensures.graph) c.clock.ensures.ok

pub returns-clause-held : goal.returns-clause-held
returns-clause-held c = on_ok_weaker c.clock.result (held_at c.args.store.now.closed c.graph.result.now c.graph.ensures.graph c.args.hashes.now) c.clock.ensures.held

pub returns-clause-unknown : goal.returns-clause-unknown
returns-clause-unknown c =
    IfErr-weaker c.clock.result _ _
    (λ fault told. match_fault fault _ _ (λ h is. sym (missing_at c.args.store.now.closed c.graph.result.now c.graph.ensures.graph c.args.hashes.now) ∙ is) told)
    c.clock.ensures.unknown
