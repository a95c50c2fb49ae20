use Rattle.std.proofs.Common.{◌≡◌, Some, ◌++◌, take, ap, subst, ◌∙◌}
use Rattle.std.specs.Prelude.{IfSome}
use Rattle.std.proofs.Math.Seq.{take-length}
use Rattle.am_colmeta.specs.Metadata.{metadata, listing, body}
use Rattle.am_doccols.specs.Columns.{written_rows}
use Rattle.am_fields.proofs.WriteLaws.{OnOk-then}
use Rattle.am_merge.proofs.RowsText.{is_text, text_after}
use Rattle.am_merge.proofs.respelling.text_of.Goals as goal

pub returns-clause-metadata : goal.returns-clause-metadata
returns-clause-metadata c =
    let rows = c.args.from.now in
    let all : take c.left-count.result rows ≡ rows = ap (λ n. take n rows) c.left-count.ensures ∙ take-length rows in
    text_after c.take-all.result c.finish.result c.and.result _ _ c.and.ensures
    (OnOk-then c.take-all.result _ _
    (λ ok text h. is_text (λ a rs. metadata (listing (written_rows a rs))) text.0 c.args.actors.now c.take-all.new.self.0 c.take-all.new.self.1 (take c.left-count.result rows) rows (c.take-all.ensures.actors ∙ c.in_ok-writer.ensures.actors)
    (subst (λ w. IfSome w (λ rs. c.take-all.new.self.1 ≡ Some (rs ++ take c.left-count.result rows))) c.in_ok-writer.ensures.rows ok) all h)
    c.take-all.ensures.ok)
    c.finish.ensures.metadata

pub returns-clause-body : goal.returns-clause-body
returns-clause-body c =
    let rows = c.args.from.now in
    let all : take c.left-count.result rows ≡ rows = ap (λ n. take n rows) c.left-count.ensures ∙ take-length rows in
    text_after c.take-all.result c.finish.result c.and.result _ _ c.and.ensures
    (OnOk-then c.take-all.result _ _
    (λ ok text h. is_text (λ a rs. body (written_rows a rs)) text.1 c.args.actors.now c.take-all.new.self.0 c.take-all.new.self.1 (take c.left-count.result rows) rows (c.take-all.ensures.actors ∙ c.in_ok-writer.ensures.actors)
    (subst (λ w. IfSome w (λ rs. c.take-all.new.self.1 ≡ Some (rs ++ take c.left-count.result rows))) c.in_ok-writer.ensures.rows ok) all h)
    c.take-all.ensures.ok)
    c.finish.ensures.body
