use Rattle.std.proofs.Common.{sym, subst}
use Rattle.am_delta.specs.Deltas.{AreMiddling}
use Rattle.am_fields.proofs.IdLaws.{ids_between}
use Rattle.am_fields.proofs.Moves.{counters_middling}
use Rattle.am_fields.proofs.ids.DeltaColumnCounters.copy_to.Goals as goal

pub copy_to-requires-clause-values : goal.copy_to-requires-clause-values
copy_to-requires-clause-values c = subst AreMiddling (sym c.requires.within.1) (counters_middling _ (ids_between c.requires.within.0 c.requires.within.2))
