use Rattle.am_store.proofs.Unambiguous as law
use Rattle.am_store.proofs.laws.one_reading.Goals as goal

pub returns : goal.returns
returns c = law.one_reading c.one_fault.ensures.one c.one_fault.ensures.none c.one_reading.ensures.file c.one_judgement.ensures c.one_judgement-2.ensures c.one_history.ensures
