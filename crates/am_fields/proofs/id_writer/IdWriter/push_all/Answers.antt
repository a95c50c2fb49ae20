use Rattle.std.proofs.Common.{map, option_map, refl, ap, ◌∙◌}
use Rattle.std.proofs.lemmas.List.{map-append}
use Rattle.am_fields.specs.Columns.{place_of}
use Rattle.am_fields.specs.Layout.{id_actor, id_counter}
use Rattle.am_fields.proofs.WriteLaws.{wrote_all, OnOk-both}
use Rattle.am_fields.proofs.id_writer.IdWriter.push_all.Goals as goal

pub returns : goal.returns
returns c = OnOk-both c.push_ids.result _ _ _ (λ placed counted before held.
    let actors = c.args.actors.now in
    let ids = c.args.ids.now in
    record {
      places = wrote_all _ _ _ _ _ _ held.places placed refl (ap (map (option_map (place_of actors))) (map-append id_actor before ids) ∙ map-append (option_map (place_of actors)) (map id_actor before) (map id_actor ids));
      counters = wrote_all _ _ _ _ _ _ held.counters counted refl (map-append id_counter before ids);
    }) c.push_ids.ensures.places c.push_ids.ensures.counters
