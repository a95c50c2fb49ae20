use Rattle.std.proofs.Common.{◌++◌, map, sym, ap, ◌∙◌}
use Rattle.std.specs.Prelude.{filter}
use Rattle.am_colmeta.specs.Metadata.{metadata}
use Rattle.am_colmeta.specs.Writing.{has_length}
use Rattle.am_colmeta.proofs.Entries.{listing-kept, body-not_empty}
use Rattle.am_fields.specs.Columns.{spellings}
use Rattle.am_opcols.specs.Columns.{op_columns}
use Rattle.am_opcols.proofs.write.text_of.Goals as goal

pub returns-clause-metadata : goal.returns-clause-metadata
returns-clause-metadata g c =
    let columns = spellings c.args.actors.now (op_columns (map g.O.ReadOp.op c.args.ops.now)) in
    let listed = c.as_slice.ensures.value ∙ c.in_ok-push_columns.ensures.1 in
    c.from.ensures
    ∙ c.in_ok-push_metadata.ensures.written
    ∙ (λ j. c.in_ok-metadata.ensures.items j ++ metadata (filter has_length (listed j)))
    ∙ ap metadata (listing-kept columns)

pub returns-clause-body : goal.returns-clause-body
returns-clause-body g c =
    let columns = spellings c.args.actors.now (op_columns (map g.O.ReadOp.op c.args.ops.now)) in
    c.from-2.ensures ∙ c.in_ok-push_columns.ensures.0 ∙ sym (body-not_empty columns)
