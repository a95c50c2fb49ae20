use Rattle.std.proofs.Common.{true, false, sym, subst}
use Rattle.am_frame.specs.Frames.{IsChunk, chunk_of}
use Rattle.am_store.specs.AnyFile.{IsTold}
use Rattle.am_store.proofs.FirstChunk.{kind_zero}
use Rattle.am_store.proofs.AnyFile.{document_here_is_told}
use Rattle.am_store.proofs.any_file.chunk_told.Goals as goal

pub change_told-requires : goal.change_told-requires
change_told-requires c = subst (λ k. IsChunk (chunk_of k c.args.contents.now)) c.if-kind-eq1.true c.requires

pub returns-then-kind-eq1 : goal.returns-then-kind-eq1
returns-then-kind-eq1 c = subst (λ k. IsTold c.args.only_changes (chunk_of k c.args.contents.now)) (sym c.if-kind-eq1.true) (c.change_told.ensures c.args.only_changes)

pub returns-then-only_changes : goal.returns-then-only_changes
returns-then-only_changes c =
    let zero = kind_zero c.args.kind c.requires.0 c.if-kind-eq1.false in
    subst (λ only. IsTold only (chunk_of c.args.kind c.args.contents.now)) (sym c.if-only_changes.true)
    (subst (λ k. IsTold true (chunk_of k c.args.contents.now)) (sym zero) (document_here_is_told c.args.contents.now (subst (λ k. IsChunk (chunk_of k c.args.contents.now)) zero c.requires)))

pub document_told-requires : goal.document_told-requires
document_told-requires c = subst (λ k. IsChunk (chunk_of k c.args.contents.now)) (kind_zero c.args.kind c.requires.0 c.if-kind-eq1.false) c.requires

pub returns : goal.returns
returns c =
    let zero = kind_zero c.args.kind c.requires.0 c.if-kind-eq1.false in
    subst (λ only. IsTold only (chunk_of c.args.kind c.args.contents.now)) (sym c.if-only_changes.false) (subst (λ k. IsTold false (chunk_of k c.args.contents.now)) (sym zero) c.document_told.ensures)
