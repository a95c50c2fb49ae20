use Rattle.std.proofs.Common.{arith}
use Rattle.std.proofs.lemmas.List.{length-map}
use Rattle.am_fields.specs.Layout.{id_counter}
use Rattle.am_fields.proofs.CanonicalLaws.{numbers_canonical, deltas_canonical}
use Rattle.am_fields.proofs.id_writer.IdWriter.finish.Goals as goal

pub returns-clause-ok : goal.returns-clause-ok
returns-clause-ok c actors ids held fit = record {
  places = numbers_canonical _ _ _ held.places c.in_ok-finish_items.ensures.ok;
  counters = deltas_canonical _ _ _ held.counters fit.counters (omega (arith, fit.few, length-map ids id_counter)) c.in_ok-finish_deltas.ensures.ok;
}
