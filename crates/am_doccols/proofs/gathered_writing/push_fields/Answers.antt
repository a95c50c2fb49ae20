use Rattle.am_doccols.proofs.GivenRows.{fields_given}
use Rattle.am_doccols.proofs.gathered_writing.push_fields.Goals as goal

pub returns : goal.returns
returns c =
    fields_given c.args.actors.now c.args.rows.now c.args.fields.now _ (record {
      object_places = c.in_ok-push_column.ensures;
      object_counters = c.in_ok-push_column-2.ensures;
      key_places = c.in_ok-push_column-3.ensures;
      key_counters = c.in_ok-push_key_counters.ensures;
      key_names = c.in_ok-push_column-4.ensures;
      inserts = c.in_ok-push_column-5.ensures;
      actions = c.in_ok-push_column-6.ensures;
      values = c.in_ok-push_values.ensures;
      expands = c.in_ok-push_column-7.ensures;
      marks = c.in_ok-push_column-8.ensures;
    })
