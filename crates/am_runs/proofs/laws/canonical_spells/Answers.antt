use Rattle.am_runs.proofs.Spellings.{Spells-from_canon}
use Rattle.am_runs.proofs.laws.canonical_spells.Goals as goal

pub returns : goal.returns
returns g c = Spells-from_canon _
