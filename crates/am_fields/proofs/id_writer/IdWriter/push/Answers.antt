use Rattle.std.proofs.Common.{option_map, refl}
use Rattle.am_fields.specs.Columns.{place_of}
use Rattle.am_fields.specs.Layout.{id_actor, id_counter}
use Rattle.am_fields.proofs.WriteLaws.{wrote, map-next, map2-next, OnOk-both}
use Rattle.am_fields.proofs.id_writer.IdWriter.push.Goals as goal

pub returns : goal.returns
returns c = OnOk-both c.push_id.result _ _ _ (λ placed counted ids before.
    let actors = c.args.actors.now in
    record {
      places = wrote _ _ _ _ _ _ before.places placed refl (map2-next (option_map (place_of actors)) id_actor ids _);
      counters = wrote _ _ _ _ _ _ before.counters counted refl (map-next id_counter ids _);
    }) c.push_id.ensures.places c.push_id.ensures.counters
