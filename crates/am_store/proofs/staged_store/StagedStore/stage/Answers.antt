use Rattle.std.proofs.Common.{◌≡◌, sym, subst}
use Rattle.std.specs.Prelude.{All, IfOk, OnOk, OnErr}
use Rattle.am_types.specs.Deliver.{MayCome}
use Rattle.am_change.specs.Judgement.{HasOwnHashes}
use Rattle.am_delivery.specs.Waiting.{members_of}
use Rattle.am_store.specs.AnyOrder.{ComesInAnyOrder}
use Rattle.am_store.specs.Kept.{Takes}
use Rattle.am_store.proofs.staged_store.StagedStore.stage.Goals as goal

pub stage_ahead-requires-clause-may_come : goal.stage_ahead-requires-clause-may_come
stage_ahead-requires-clause-may_come c = subst (λ es. All MayCome (members_of es)) (sym c.take_entries.ensures) c.requires.may_come

pub stage_ahead-requires-clause-own_hashes : goal.stage_ahead-requires-clause-own_hashes
stage_ahead-requires-clause-own_hashes c = subst (λ es. HasOwnHashes (members_of es)) (sym c.take_entries.ensures) c.requires.own_hashes

pub returns-clause-ok : goal.returns-clause-ok
returns-clause-ok c =
    let new = c.stage_ahead.new.self.kept in
    subst (λ o. IfOk c.stage_ahead.result (λ report. Takes o (members_of c.args.changes.now) report new)) c.in_ok-go_ahead.ensures.kept
    (subst (λ es. IfOk c.stage_ahead.result (λ report. Takes c.go_ahead.new.self.kept (members_of es) report new)) c.take_entries.ensures c.stage_ahead.ensures.ok)

pub returns-clause-order : goal.returns-clause-order
returns-clause-order c =
    let new = c.stage_ahead.new.self.kept in
    subst (λ o. OnOk c.stage_ahead.result (ComesInAnyOrder o (members_of c.args.changes.now) new)) c.in_ok-go_ahead.ensures.kept
    (subst (λ es. OnOk c.stage_ahead.result (ComesInAnyOrder c.go_ahead.new.self.kept (members_of es) new)) c.take_entries.ensures c.stage_ahead.ensures.order)

pub returns-clause-err : goal.returns-clause-err
returns-clause-err c = subst (λ o. OnErr c.stage_ahead.result (c.stage_ahead.new.self.kept ≡ o)) c.in_ok-go_ahead.ensures.kept c.stage_ahead.ensures.err
