use Rattle.std.proofs.Common.{Some, option_map, refl, ap}
use Rattle.am_fields.specs.Columns.{place_of}
use Rattle.am_fields.specs.Layout.{object_actor, object_counter, key_actor, key_counter, key_string}
use Rattle.am_fields.proofs.WriteLaws.{wrote, map-next, map2-next, OnOk-then}
use Rattle.am_fields.proofs.field_writer.FieldWriter.push.Goals as goal

pub returns : goal.returns
returns c = OnOk-then c.push-10.result _ _ (λ last x before.
    let actors = c.args.actors.now in
    record {
      object_actor = wrote _ _ _ _ _ _ before.object_actor c.in_ok-push.ensures.ok c.object_place.ensures (map2-next (option_map (place_of actors)) object_actor x.objects _);
      object_counter = wrote _ _ _ _ _ _ before.object_counter c.in_ok-push-2.ensures.ok c.object_counter.ensures (map-next object_counter x.objects _);
      key_actor = wrote _ _ _ _ _ _ before.key_actor c.in_ok-push-3.ensures.ok c.key_place.ensures (map2-next (option_map (place_of actors)) key_actor x.keys _);
      key_counter = wrote _ _ _ _ _ _ before.key_counter c.in_ok-push-4.ensures.ok c.key_counter.ensures.value (map-next key_counter x.keys _);
      key_name = wrote _ _ _ _ _ _ before.key_name c.in_ok-push-5.ensures.ok c.key_name.ensures (map-next key_string x.keys _);
      insert = wrote _ _ _ _ _ _ before.insert c.in_ok-push-6.ensures.ok refl refl;
      action = wrote _ _ _ _ _ _ before.action c.in_ok-push-7.ensures.ok (ap Some c.from.ensures) (map-next Some x.actions _);
      value = wrote _ _ _ _ _ _ before.value c.in_ok-push-8.ensures.ok refl refl;
      expand = wrote _ _ _ _ _ _ before.expand c.in_ok-push-9.ensures.ok refl refl;
      mark = wrote _ _ _ _ _ _ before.mark last refl refl;
    }) c.push-10.ensures.ok
