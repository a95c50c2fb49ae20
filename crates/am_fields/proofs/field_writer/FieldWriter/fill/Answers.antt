use Rattle.std.proofs.Common.{arith}
use Rattle.std.proofs.lemmas.List.{length-map}
use Rattle.am_fields.specs.Layout.{key_counter}
use Rattle.am_fields.proofs.WriteLaws.{some_where}
use Rattle.am_fields.proofs.CanonicalLaws.{numbers_canonical, texts_canonical, deltas_canonical, flags_canonical, maybe_canonical, values_canonical}
use Rattle.am_fields.proofs.field_writer.FieldWriter.fill.Goals as goal

pub returns-clause-ok : goal.returns-clause-ok
returns-clause-ok c actors x held fit =
    let values = values_canonical _ _ _ _ held.value fit.values fit.few_values c.in_ok-finish_values.ensures.ok in
    record {
      object_actor = numbers_canonical _ _ _ held.object_actor c.in_ok-finish_items.ensures.ok;
      object_counter = numbers_canonical _ _ _ held.object_counter c.in_ok-finish_items-2.ensures.ok;
      key_actor = numbers_canonical _ _ _ held.key_actor c.in_ok-finish_items-3.ensures.ok;
      key_counter = deltas_canonical _ _ _ held.key_counter fit.keys (omega (arith, fit.few_keys, length-map x.keys key_counter)) c.in_ok-finish_deltas.ensures.ok;
      key_name = texts_canonical _ _ _ held.key_name c.in_ok-finish_items-4.ensures.ok;
      insert = flags_canonical _ _ _ held.insert fit.few_inserts c.in_ok-finish_plain.ensures.ok;
      action = numbers_canonical _ _ _ held.action c.in_ok-finish_items-5.ensures.ok;
      numbers = values.0;
      raw = values.1;
      expand = maybe_canonical _ _ _ held.expand fit.few_expands c.in_ok-finish_maybe.ensures.ok;
      mark = texts_canonical _ _ _ held.mark c.in_ok-finish_items-6.ensures.ok;
    }

pub returns-clause-failed : goal.returns-clause-failed
returns-clause-failed c = record {
  object_actor = some_where _ c.in_ok-finish_items.ensures.failed;
  object_counter = some_where _ c.in_ok-finish_items-2.ensures.failed;
  key_actor = some_where _ c.in_ok-finish_items-3.ensures.failed;
  key_counter = some_where _ c.in_ok-finish_deltas.ensures.failed;
  key_name = some_where _ c.in_ok-finish_items-4.ensures.failed;
  insert = some_where _ c.in_ok-finish_plain.ensures.failed;
  action = some_where _ c.in_ok-finish_items-5.ensures.failed;
  value = some_where _ c.in_ok-finish_values.ensures.failed;
  expand = some_where _ c.in_ok-finish_maybe.ensures.failed;
  mark = some_where _ c.in_ok-finish_items-6.ensures.failed;
}
