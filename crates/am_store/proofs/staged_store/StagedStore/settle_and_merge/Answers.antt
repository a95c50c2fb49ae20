use Rattle.std.proofs.Common.{◌≡◌, subst}
use Rattle.std.specs.Prelude.{IfOk, OnOk, OnErr}
use Rattle.am_delivery.specs.Waiting.{members_of}
use Rattle.am_store.specs.AnyOrder.{ComesInAnyOrder}
use Rattle.am_store.specs.Kept.{Takes}
use Rattle.am_store.proofs.staged_store.StagedStore.settle_and_merge.Goals as goal

pub returns-clause-ok : goal.returns-clause-ok
returns-clause-ok c =
    subst (λ o. IfOk c.merge.result (λ report. Takes o (members_of c.args.changes.now) report c.merge.new.self.kept)) c.in_ok-settle.ensures.kept c.merge.ensures.ok

pub returns-clause-order : goal.returns-clause-order
returns-clause-order c =
    subst (λ o. OnOk c.merge.result (ComesInAnyOrder o (members_of c.args.changes.now) c.merge.new.self.kept)) c.in_ok-settle.ensures.kept c.merge.ensures.order

pub returns-clause-err : goal.returns-clause-err
returns-clause-err c = subst (λ o. OnErr c.merge.result (c.merge.new.self.kept ≡ o)) c.in_ok-settle.ensures.kept c.merge.ensures.err
