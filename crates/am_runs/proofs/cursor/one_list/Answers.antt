use Rattle.am_runs.proofs.Unique as unique
use Rattle.am_runs.proofs.cursor.one_list.Goals as goal

pub returns : goal.returns
returns g c = unique.one_list _ g.met.K.Item.reads
