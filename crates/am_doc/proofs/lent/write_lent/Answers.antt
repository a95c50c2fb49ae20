use Rattle.std.proofs.Common.{◌≡◌, ap, ◌∙◌, ℕ, List}
use Rattle.std.proofs.lemmas.Result.{IfOk-weaker}
use Rattle.am_types.specs.declared.Meta.{Meta}
use Rattle.am_types.specs.declared.Table.{Table}
use Rattle.am_colmeta.specs.Metadata.{metadata, listing, body as columns_body}
use Rattle.am_colmeta.specs.Actors.{actors_bytes}
use Rattle.am_doccols.specs.Columns.{written_rows, written_metas}
use Rattle.am_change.specs.Contents.{hashes_bytes}
use Rattle.am_doc.specs.Lent.{lent_table}
use Rattle.am_doc.proofs.Bodies.{body_is}
use Rattle.am_doc.proofs.Writers.{both_same}
use Rattle.am_doc.proofs.lent.write_lent.Goals as goal

pub returns : goal.returns
returns c =
    let t : Table = lent_table c.args.table.now in
    let actors = c.as_slice-actors.ensures in
    let metas : written_metas c.as_slice-actors.result.now c.as_slice.result.now ≡ written_metas t.actors t.metas = both_same {X = Meta} written_metas actors c.as_slice.ensures in
    let rows : written_rows c.as_slice-actors.result.now c.args.table.now.rows ≡ written_rows t.actors t.rows = ap (λ (a : List (List ℕ)). written_rows a c.args.table.now.rows) actors in
    IfOk-weaker c.joined.result _ _
    (λ bytes e. e ∙ body_is t (actors_bytes c.as_slice-actors.result.now) (hashes_bytes c.as_slice-2.result.now) c.in_ok-metas.metas.0 c.in_ok-rows.rows.0 c.in_ok-metas.metas.1 c.in_ok-rows.rows.1
    (ap actors_bytes actors)
    (ap hashes_bytes c.as_slice-2.ensures)
    (c.in_ok-metas.ensures.metadata ∙ ap (λ x. metadata (listing x)) metas)
    (c.in_ok-rows.ensures.metadata ∙ ap (λ x. metadata (listing x)) rows)
    (c.in_ok-metas.ensures.body ∙ ap columns_body metas)
    (c.in_ok-rows.ensures.body ∙ ap columns_body rows))
    c.joined.ensures
