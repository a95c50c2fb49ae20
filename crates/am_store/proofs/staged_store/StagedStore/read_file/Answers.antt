use Rattle.std.proofs.Common.{sym, subst}
use Rattle.am_change.specs.Judgement.{HasOwnHashes}
use Rattle.am_rebuild.specs.Documents.{changes_of}
use Rattle.am_store.specs.AnyOrder.{ComesInAnyOrder}
use Rattle.am_store.specs.Kept.{Takes}
use Rattle.am_store.proofs.Taking.{own_of}
use Rattle.am_store.proofs.staged_store.StagedStore.read_file.Goals as goal

pub take_file-requires-clause-own_hashes : goal.take_file-requires-clause-own_hashes
take_file-requires-clause-own_hashes c = subst HasOwnHashes (sym c.in_ok-changes.ensures.own_hashes) (own_of (changes_of c.in_ok-changes.changes))

pub returns-clause-ok : goal.returns-clause-ok
returns-clause-ok c =
    let read = c.in_ok-changes.ensures in
    (changes_of c.in_ok-changes.changes, read.ok, subst (λ L. Takes c.args.self.now.kept L c.in_ok-report.report c.take_file.new.self.kept) read.own_hashes c.in_ok-report.ensures.ok)

pub returns-clause-order : goal.returns-clause-order
returns-clause-order c =
    let read = c.in_ok-changes.ensures in
    (changes_of c.in_ok-changes.changes, read.ok, subst (λ L. ComesInAnyOrder c.args.self.now.kept L c.take_file.new.self.kept) read.own_hashes c.in_ok-report.ensures.order)
