use Rattle.std.proofs.Common.{◌∙◌, ◌++◌, ap}
use Rattle.std.proofs.lemmas.Result.{IfOk-weaker}
use Rattle.am_colmeta.specs.Metadata.{metadata, listing, body}
use Rattle.am_doccols.specs.Columns.{written_rows}
use Rattle.am_merge.specs.Plans.{carried}
use Rattle.am_merge.specs.Stops.{copies, events_of}
use Rattle.am_merge.proofs.Carried.{can_start}
use Rattle.am_merge.proofs.RowsText.{is_text}
use Rattle.am_merge.proofs.carry.carried_text.Goals as goal

pub carry_all-all-requires : goal.carry_all-all-requires
carry_all-all-requires c = record {
  start = c.in_ok-writer.ensures.rows;
  can = can_start c.args.actors.now c.in_ok-writer.writer.0 c.in_ok-writer.writer.1 (events_of c.args.named.now c.args.stops.now ++ copies c.args.rest) c.args.rows.now c.again-from.result c.in_ok-writer.ensures.actors c.in_ok-writer.ensures.rows c.again-from.ensures c.requires;
}

pub returns-in-Ok-clause-metadata : goal.returns-in-Ok-clause-metadata
returns-in-Ok-clause-metadata c =
    let es = events_of c.args.named.now c.args.stops.now ++ copies c.args.rest in
    IfOk-weaker c.finish-text.result _ _
    (λ text h. is_text (λ a rs. metadata (listing (written_rows a rs))) text.0 c.args.actors.now c.carry_all-all.new.writer.0 c.carry_all-all.new.writer.1 (carried es c.again-from.result) (carried es c.args.rows.now) (c.in-Ok.ensures.actors ∙ c.in_ok-writer.ensures.actors) c.in-Ok.ensures.rows (ap (carried es) c.again-from.ensures) h)
    c.finish-text.ensures.metadata

pub returns-in-Ok-clause-body : goal.returns-in-Ok-clause-body
returns-in-Ok-clause-body c =
    let es = events_of c.args.named.now c.args.stops.now ++ copies c.args.rest in
    IfOk-weaker c.finish-text.result _ _
    (λ text h. is_text (λ a rs. body (written_rows a rs)) text.1 c.args.actors.now c.carry_all-all.new.writer.0 c.carry_all-all.new.writer.1 (carried es c.again-from.result) (carried es c.args.rows.now) (c.in-Ok.ensures.actors ∙ c.in_ok-writer.ensures.actors) c.in-Ok.ensures.rows (ap (carried es) c.again-from.ensures) h)
    c.finish-text.ensures.body
