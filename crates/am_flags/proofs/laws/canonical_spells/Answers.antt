use Rattle.am_flags.proofs.Spellings as spellings
use Rattle.am_flags.proofs.laws.canonical_spells.Goals as goal

pub returns-clause-plain : goal.returns-clause-plain
returns-clause-plain c = spellings.JoinsFlags-from_canon

pub returns-clause-maybe : goal.returns-clause-maybe
returns-clause-maybe c = spellings.SpellsFlags-from_canon
