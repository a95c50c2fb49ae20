use Rattle.std.proofs.Common.{Some, option_map, refl}
use Rattle.std.proofs.lemmas.List.{map-append}
use Rattle.am_fields.specs.Columns.{place_of}
use Rattle.am_fields.specs.Layout.{object_actor, object_counter, key_actor, key_counter, key_string}
use Rattle.am_fields.proofs.WriteLaws.{wrote_all, map2-append, OnOk-then}
use Rattle.am_fields.proofs.field_writer.FieldWriter.take.Goals as goal

pub returns-clause-fields : goal.returns-clause-fields
returns-clause-fields c = OnOk-then c.take.result _ _ (λ last x before.
    let place = option_map (place_of c.args.actors.now) in
    record {
      object_actor = wrote_all _ _ _ _ _ _ before.object_actor c.in_ok-copy_to.ensures.places refl (map2-append place object_actor x.objects _);
      object_counter = wrote_all _ _ _ _ _ _ before.object_counter c.in_ok-copy_to.ensures.counters refl (map-append object_counter x.objects _);
      key_actor = wrote_all _ _ _ _ _ _ before.key_actor c.in_ok-copy_to-2.ensures.places refl (map2-append place key_actor x.keys _);
      key_counter = wrote_all _ _ _ _ _ _ before.key_counter c.in_ok-copy_to-2.ensures.counters refl (map-append key_counter x.keys _);
      key_name = wrote_all _ _ _ _ _ _ before.key_name c.in_ok-copy_to-2.ensures.names refl (map-append key_string x.keys _);
      insert = wrote_all _ _ _ _ _ _ before.insert c.in_ok-copy_to-3.ensures.ok refl refl;
      action = wrote_all _ _ _ _ _ _ before.action c.in_ok-copy_to-4.ensures.ok refl (map-append Some x.actions _);
      value = wrote_all _ _ _ _ _ _ before.value c.in_ok-copy_to-5.ensures.ok refl refl;
      expand = wrote_all _ _ _ _ _ _ before.expand c.in_ok-copy_to-6.ensures.ok refl refl;
      mark = wrote_all _ _ _ _ _ _ before.mark last refl refl;
    }) c.take.ensures.ok

pub returns-clause-behind : goal.returns-clause-behind
returns-clause-behind c = OnOk-then c.take.result _ _ (λ last. record {
  objects = c.in_ok-copy_to.ensures.behind;
  keys = c.in_ok-copy_to-2.ensures.behind;
  inserts = c.in_ok-copy_to-3.ensures.behind;
  actions = c.in_ok-copy_to-4.ensures.behind;
  values = c.in_ok-copy_to-5.ensures.behind;
  expands = c.in_ok-copy_to-6.ensures.behind;
  marks = last;
}) c.take.ensures.behind
