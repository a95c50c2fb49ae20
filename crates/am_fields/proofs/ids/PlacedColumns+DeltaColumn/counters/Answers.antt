use Rattle.std.proofs.Common.{map, sym, ap, ◌∙◌, subst}
use Rattle.am_types.specs.declared.OpId.{OpId}
use Rattle.am_fields.specs.Fields.{id_at as id_there}
use Rattle.am_fields.specs.Layout.{id_actor, id_counter}
use Rattle.am_fields.specs.Limits.{IsWithin}
use Rattle.am_fields.specs.RowLaws.{ids_read}
use Rattle.am_fields.specs.Wholes.{wholes, AreWhole}
use Rattle.am_fields.proofs.Readings.{reads_from}
use Rattle.am_fields.proofs.Stretches.{counters_whole, counters_are}
use Rattle.am_fields.proofs.ids.PlacedColumns+DeltaColumn.counters.Goals as goal

pub of-requires : goal.of-requires
of-requires c =
    let at = c.self.inside in
    let from = reads_from at.actors (id_there at.actors) id_actor id_counter IsWithin (ids_read at.actors) at.actor at.beside c.self.invariant in
    subst AreWhole (sym (c.again.ensures ∙ from.numbers)) (counters_whole _)

pub returns : goal.returns
returns c =
    let at = c.self.inside in
    let from = reads_from at.actors (id_there at.actors) id_actor id_counter IsWithin (ids_read at.actors) at.actor at.beside c.self.invariant in
    c.of.ensures ∙ ap wholes (c.again.ensures ∙ from.numbers) ∙ counters_are _ ∙ ap (map (λ (i : OpId). i.counter)) c.self.view_is
