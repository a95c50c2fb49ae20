use Rattle.std.proofs.Common.{rules, ◌≡◌, ◌∷◌, [], Err, inl, subst}
use Rattle.am_change.specs.declared.ChangeFault.TheVariants as change_fault
use Rattle.am_change.specs.Fronts.{IsCompressed}
use Rattle.am_change.specs.Judgement.{Judges}
use Rattle.am_store.specs.Files.{AreOfNoChange}
use Rattle.am_store.proofs.FirstChunk.{begins, gives_change}
use Rattle.am_store.proofs.chunk.push_change.Goals as goal

pub returns-in-Err-CompressedColumn-clause-bad : goal.returns-in-Err-CompressedColumn-clause-bad
returns-in-Err-CompressedColumn-clause-bad c = λ only rest.
    let contents = c.args.contents.now in
    let same : c.in-Err-CompressedColumn.field-0 ≡ change_fault.CompressedColumn = search rules in
    inl (begins 1 IsCompressed contents rest c.requires.is_chunk (subst (λ x. Judges contents (Err x)) same c.in-Err-CompressedColumn.ensures.judged))

pub returns-in-Err-BadChange-clause-bad : goal.returns-in-Err-BadChange-clause-bad
returns-in-Err-BadChange-clause-bad c = λ only rest.
    let contents = c.args.contents.now in
    let same : c.in-Err-BadChange.field-0 ≡ change_fault.BadChange = search rules in
    let judged : Judges contents (Err change_fault.BadChange) = subst (λ x. Judges contents (Err x)) same c.in-Err-BadChange.ensures.judged in
    begins 1 AreOfNoChange contents rest c.requires.is_chunk (record { plain = judged.0; none = judged.1 })

pub returns-clause-ok : goal.returns-clause-ok
returns-clause-ok c = λ only.
    let contents = c.args.contents.now in
    let h = c.args.hash in
    let change = c.in-Ok.change in
    let judged = c.in-Ok.ensures.judged in
    ((h, change) ∷ [], c.in_ok-push.ensures, gives_change only contents h change judged.0 judged.1 (c.requires.own change judged.1) c.hash_known.ensures)
