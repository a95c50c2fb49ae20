use Rattle.std.proofs.Common.{Bor, map}
use Rattle.am_types.specs.declared.Change.{Change}
use Rattle.std.proofs.lemmas.Result.{IfOk-weaker}
use Rattle.am_store.proofs.Enlarging.{merges, may_merge}
use Rattle.am_store.proofs.contents.larger_of.Goals as goal

pub doc_of-doc-requires : goal.doc_of-doc-requires
doc_of-doc-requires c = (c.requires.before, c.requires.larger.before)

pub merge-requires : goal.merge-requires
merge-requires c = may_merge c.args.contents.now (map (λ (x : Bor Change). x.now) c.args.joined.now) c.args.graph.now c.doc_of-doc.result c.doc_of-doc.ensures c.requires

pub returns : goal.returns
returns c =
    IfOk-weaker c.merge.result _ _
    (λ larger made C E is. made C E (merges c.args.contents.now (map (λ (x : Bor Change). x.now) c.args.joined.now) c.args.graph.now c.doc_of-doc.result c.doc_of-doc.ensures C E is))
    c.merge.ensures
