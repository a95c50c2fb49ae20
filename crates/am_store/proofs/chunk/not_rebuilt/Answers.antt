use Rattle.std.proofs.Common.{rules, ◌≡◌, Err, subst}
use Rattle.am_rebuild.specs.Documents.{Rebuilds}
use Rattle.am_rebuild.specs.declared.fault.RebuildFault.TheVariants as rebuild_fault
use Rattle.am_store.specs.Files.{TellNoHistory, TellOtherHeads}
use Rattle.am_store.proofs.FirstChunk.{begins, plain}
use Rattle.am_store.proofs.chunk.not_rebuilt.Goals as goal

pub returns-in-NoHistory : goal.returns-in-NoHistory
returns-in-NoHistory c = λ contents t is spelled told rest.
    let same : c.args.fault ≡ rebuild_fault.NoHistory = search rules in
    begins 0 TellNoHistory contents rest is (record {
      plain = plain c.one_judgement.ensures contents t spelled;
      table = t;
      spelled = spelled;
      none = subst (λ x. Rebuilds t (Err x)) same told;
    })

pub returns-in-HeadsMismatch : goal.returns-in-HeadsMismatch
returns-in-HeadsMismatch c = λ contents t is spelled told rest.
    let h = c.in-HeadsMismatch.hash in
    let same : c.args.fault ≡ rebuild_fault.HeadsMismatch h = search rules in
    let found : Rebuilds t (Err (rebuild_fault.HeadsMismatch h)) = subst (λ x. Rebuilds t (Err x)) same told in
    begins 0 (TellOtherHeads h) contents rest is (record {
      plain = plain c.one_judgement.ensures contents t spelled;
      table = t;
      spelled = spelled;
      cs = found.0;
      history = found.1.history;
      apart = found.2;
    })
