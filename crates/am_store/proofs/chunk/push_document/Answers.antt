use Rattle.std.proofs.Common.{rules, ◌≡◌, Ok, Err, vec_items, inr, refl, sym, subst, ap, ◌∙◌}
use Rattle.am_types.specs.Members.{changes}
use Rattle.am_types.specs.Operations.{all_operations}
use Rattle.am_types.specs.Rows.{rows}
use Rattle.am_doc.specs.declared.fault.DocFault.TheVariants as doc_fault
use Rattle.am_doc.specs.Fronts.{IsCompressed}
use Rattle.am_doc.specs.Spelling.{Judges}
use Rattle.am_rebuild.specs.Documents.{Rebuilds, changes_of}
use Rattle.am_store.specs.Files.{AreOfNoTable}
use Rattle.am_store.proofs.FirstChunk.{begins, plain}
use Rattle.am_store.proofs.chunk.push_document.Goals as goal

pub returns-in-Err-CompressedColumn-clause-bad : goal.returns-in-Err-CompressedColumn-clause-bad
returns-in-Err-CompressedColumn-clause-bad c = λ rest.
    let contents = c.args.contents.now in
    let same : c.in-Err-CompressedColumn.field-0 ≡ doc_fault.CompressedColumn = search rules in
    inr (begins 0 IsCompressed contents rest c.requires (subst (λ x. Judges contents (Err x)) same c.in-Err-CompressedColumn.ensures.judged))

pub returns-in-Err-BadDocument-clause-bad : goal.returns-in-Err-BadDocument-clause-bad
returns-in-Err-BadDocument-clause-bad c = λ rest.
    let contents = c.args.contents.now in
    let same : c.in-Err-BadDocument.field-0 ≡ doc_fault.BadDocument = search rules in
    let judged : Judges contents (Err doc_fault.BadDocument) = subst (λ x. Judges contents (Err x)) same c.in-Err-BadDocument.ensures.judged in
    begins 0 AreOfNoTable contents rest c.requires (record { plain = judged.0; none = judged.1 })

pub returns-in-Err-clause-bad : goal.returns-in-Err-clause-bad
returns-in-Err-clause-bad c =
    c.not_rebuilt.ensures c.args.contents.now c.in-Ok.doc c.requires c.in-Ok.ensures.judged (subst (λ t. Rebuilds t (Err c.in-Err.fault)) c.again.ensures c.in-Err.ensures.judged)

pub returns-clause-ok : goal.returns-clause-ok
returns-clause-ok c =
    let contents = c.args.contents.now in
    let doc = c.in-Ok.doc in
    let spelled = c.in-Ok.ensures.judged in
    let document = c.in-Ok-rebuild_whole.document in
    let es = vec_items document.entries in
    let found : Rebuilds doc (Ok (changes_of es)) = subst (λ t. Rebuilds t (Ok (changes_of es))) c.again.ensures c.in-Ok-rebuild_whole.ensures.judged in (
      vec_items document.entries,
      c.in_ok-append.ensures,
      record {
        holds = inr (record {
          kind = refl;
          plain = plain c.one_judgement.ensures contents doc spelled;
          table = doc;
          spelled = spelled;
          history = found.0.history;
          heads_are = found.1;
        });
        own_hashes = c.in-Ok-rebuild_whole.ensures.own_hashes;
        may_come = c.in-Ok-rebuild_whole.ensures.may_come;
      },
    )

pub append-requires-clause-rows : goal.append-requires-clause-rows
append-requires-clause-rows c =
    let es = vec_items c.in-Ok-rebuild_whole.document.entries in
    let found : Rebuilds c.in-Ok.doc (Ok (changes_of es)) = subst (λ t. Rebuilds t (Ok (changes_of es))) c.again.ensures c.in-Ok-rebuild_whole.ensures.judged in
    found.0.history.rows ∙ ap (λ C. rows (all_operations (changes C))) (sym c.in-Ok-rebuild_whole.ensures.own_hashes)
