use Rattle.std.proofs.Common.{◌∙◌, [], map, refl}
use Rattle.std.proofs.lemmas.Result.{IfOk-weaker}
use Rattle.am_types.specs.Limits.{most_operations}
use Rattle.am_places.specs.Numbered.{operation_of}
use Rattle.am_colmeta.specs.Metadata.{metadata, listing, body}
use Rattle.am_doccols.specs.Columns.{written_rows}
use Rattle.am_merge.specs.Plans.{carried}
use Rattle.am_merge.specs.Walk.{beginning, walk_out}
use Rattle.am_merge.proofs.Carried.{can_start}
use Rattle.am_merge.proofs.RowsText.{is_text}
use Rattle.am_merge.proofs.fresh.fresh_text.Goals as goal

pub put_all-all-requires : goal.put_all-all-requires
put_all-all-requires c =
    let A = map operation_of c.args.operations.now in
    record {
      rise = c.requires.rise;
      few = c.requires.few;
      ascends = c.requires.ascends;
      distinct = c.requires.distinct;
      named = c.in_ok-known.ensures.named;
      hung = c.in_ok-known.ensures.hung;
      places = c.in_ok-known.ensures.places;
      within = c.in_ok-known.ensures.within;
      start = c.in_ok-writer.ensures.rows;
      can = can_start c.args.actors.now c.in_ok-writer.writer.0 c.in_ok-writer.writer.1 (walk_out A most_operations (beginning A)) [] [] c.in_ok-writer.ensures.actors c.in_ok-writer.ensures.rows refl c.requires.can;
    }

pub returns-in-Ok-clause-metadata : goal.returns-in-Ok-clause-metadata
returns-in-Ok-clause-metadata c =
    let A = map operation_of c.args.operations.now in
    let rows = carried (walk_out A most_operations (beginning A)) [] in
    IfOk-weaker c.finish-text.result _ _
    (λ text h. is_text (λ a rs. metadata (listing (written_rows a rs))) text.0 c.args.actors.now c.put_all-all.new.writer.0 c.put_all-all.new.writer.1 rows rows (c.in-Ok.ensures.actors ∙ c.in_ok-writer.ensures.actors) c.in-Ok.ensures.rows refl h)
    c.finish-text.ensures.metadata

pub returns-in-Ok-clause-body : goal.returns-in-Ok-clause-body
returns-in-Ok-clause-body c =
    let A = map operation_of c.args.operations.now in
    let rows = carried (walk_out A most_operations (beginning A)) [] in
    IfOk-weaker c.finish-text.result _ _
    (λ text h. is_text (λ a rs. body (written_rows a rs)) text.1 c.args.actors.now c.put_all-all.new.writer.0 c.put_all-all.new.writer.1 rows rows (c.in-Ok.ensures.actors ∙ c.in_ok-writer.ensures.actors) c.in-Ok.ensures.rows refl h)
    c.finish-text.ensures.body
