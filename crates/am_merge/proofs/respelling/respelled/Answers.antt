use Rattle.std.proofs.Common.{◌≡◌, [], ◌∙◌}
use Rattle.std.proofs.lemmas.Result.{IfOk-weaker}
use Rattle.am_types.specs.Documents.{used_actors}
use Rattle.am_types.specs.Rows.{rows as rows_of}
use Rattle.am_colmeta.specs.Metadata.{metadata, listing, body as columns_body}
use Rattle.am_doccols.specs.Columns.{written_rows as columns_of}
use Rattle.am_merge.specs.Laws.{operations_of}
use Rattle.am_merge.proofs.Merged.{from_nothing, rows_written}
use Rattle.am_merge.proofs.respelling.respelled.Goals as goal

pub rows_over-requires-clause-fit : goal.rows_over-requires-clause-fit
rows_over-requires-clause-fit c =
    let C = c.requires.set in
    let m = c.requires.respells in
    let j = from_nothing _ c.args.changes.now _ C m c.authors_of_larger.ensures c.as_slice.result.now (c.as_slice.ensures ∙ c.in_ok-actors.ensures) in
    (rows_written _ _ _ C m (c.sets_are_writable.ensures C m.valid) _ j.used _ c.rows.ensures).fit

pub rows_over-requires-clause-few : goal.rows_over-requires-clause-few
rows_over-requires-clause-few c =
    let C = c.requires.set in
    let m = c.requires.respells in
    let j = from_nothing _ c.args.changes.now _ C m c.authors_of_larger.ensures c.as_slice.result.now (c.as_slice.ensures ∙ c.in_ok-actors.ensures) in
    (rows_written _ _ _ C m (c.sets_are_writable.ensures C m.valid) _ j.used _ c.rows.ensures).few

pub rows_over-requires-clause-few_succs : goal.rows_over-requires-clause-few_succs
rows_over-requires-clause-few_succs c =
    let C = c.requires.set in
    let m = c.requires.respells in
    let j = from_nothing _ c.args.changes.now _ C m c.authors_of_larger.ensures c.as_slice.result.now (c.as_slice.ensures ∙ c.in_ok-actors.ensures) in
    (rows_written _ _ _ C m (c.sets_are_writable.ensures C m.valid) _ j.used _ c.rows.ensures).few_succs

pub merged_with-requires : goal.merged_with-requires
merged_with-requires c =
    let C = c.requires.set in
    let j = from_nothing _ c.args.changes.now _ C c.requires.respells c.authors_of_larger.ensures c.as_slice-2.result.now (c.as_slice-2.ensures ∙ c.in_ok-actors.ensures) in
    record { before = []; added = C; joins = record { change_rows = c.behind_all.ensures ∙ j.change_rows; used = j.used; grown = j.grown } }

pub returns : goal.returns
returns c = IfOk-weaker c.merged_with.result _ _
    (λ bytes h C m.
    let j = from_nothing _ c.args.changes.now _ C m c.authors_of_larger.ensures c.as_slice-2.result.now (c.as_slice-2.ensures ∙ c.in_ok-actors.ensures) in
    let k = from_nothing _ c.args.changes.now _ C m c.authors_of_larger.ensures c.as_slice.result.now (c.as_slice.ensures ∙ c.in_ok-actors.ensures) in
    let actors : c.as_slice.result.now ≡ used_actors C = k.used in
    let same : c.rows.result ≡ rows_of (operations_of C) = c.rows.ensures ∙ m.same_rows in
    h [] C (record { change_rows = c.behind_all.ensures ∙ j.change_rows; used = j.used; grown = j.grown })
    (c.in_ok-rows.ensures.metadata ∙ (λ i. metadata (listing (columns_of (actors i) (same i)))))
    (c.in_ok-rows.ensures.body ∙ (λ i. columns_body (columns_of (actors i) (same i)))))
    c.merged_with.ensures
