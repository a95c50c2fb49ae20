use Rattle.std.proofs.Common.{◌≡◌, ◌++◌, ◌∙◌}
use Rattle.std.proofs.lemmas.Result.{IfOk-weaker}
use Rattle.am_types.specs.Documents.{used_actors}
use Rattle.am_types.specs.Rows.{rows as rows_of}
use Rattle.am_colmeta.specs.Metadata.{metadata, listing, body as columns_body}
use Rattle.am_doccols.specs.Columns.{written_rows}
use Rattle.am_merge.specs.Laws.{operations_of}
use Rattle.am_merge.proofs.Merged.{grows, joins, once}
use Rattle.am_merge.proofs.documents.merge.Goals as goal

pub rows_text-requires : goal.rows_text-requires
rows_text-requires c =
    let C = c.requires.before in
    let E = c.requires.added in
    let m = c.requires.merges in
    (C, E, grows _ _ _ C E m (c.sets_are_writable.ensures (C ++ E) m.grown.valid) c.as_slice.result.now (c.as_slice.ensures ∙ once c.authors_of_larger.ensures _ c.args.added.now _ C E m _ c.in_ok-actors.ensures) c.rows.result c.rows.ensures)

pub merged_with-requires : goal.merged_with-requires
merged_with-requires c =
    let C = c.requires.before in
    let E = c.requires.added in
    let m = c.requires.merges in
    record {
      before = C;
      added = E;
      joins = joins _ _ _ C E m c.as_slice-2.result.now (c.as_slice-2.ensures ∙ once c.authors_of_larger.ensures _ c.args.added.now _ C E m _ c.in_ok-actors.ensures) c.metas.result c.metas.ensures;
    }

pub returns : goal.returns
returns c = IfOk-weaker c.merged_with.result _ _
    (λ bytes h C E m.
    let listed = once c.authors_of_larger.ensures _ c.args.added.now _ C E m _ c.in_ok-actors.ensures in
    let actors : c.as_slice.result.now ≡ used_actors (C ++ E) = c.as_slice.ensures ∙ listed in
    let grown = grows _ _ _ C E m (c.sets_are_writable.ensures (C ++ E) m.grown.valid) c.as_slice.result.now actors c.rows.result c.rows.ensures in
    h C E (joins _ _ _ C E m c.as_slice-2.result.now (c.as_slice-2.ensures ∙ listed) c.metas.result c.metas.ensures)
    (c.in_ok-rows.ensures.metadata C E grown ∙ (λ i. metadata (listing (written_rows (actors i) (rows_of (operations_of (C ++ E)))))))
    (c.in_ok-rows.ensures.body C E grown ∙ (λ i. columns_body (written_rows (actors i) (rows_of (operations_of (C ++ E)))))))
    c.merged_with.ensures
