use Rattle.am_histories.proofs.HistoryOrNot as proved
use Rattle.am_histories.proofs.laws.history_or_none.Goals as goal

pub returns : goal.returns
returns c = proved.history_or_none
