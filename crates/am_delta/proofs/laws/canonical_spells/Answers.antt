use Rattle.am_delta.proofs.Spellings as spellings
use Rattle.am_delta.proofs.laws.canonical_spells.Goals as goal

pub returns : goal.returns
returns c = spellings.SpellsDeltas-from_canon
