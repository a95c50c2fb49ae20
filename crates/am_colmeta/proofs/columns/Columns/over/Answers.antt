use Rattle.std.proofs.Common.{arith}
use Rattle.am_colmeta.proofs.Cutting.{cut_is_cut}
use Rattle.am_colmeta.proofs.columns.Columns.over.Goals as goal

pub returns : goal.returns
returns c =
    let good = c.in-Some.ensures.good in
    record { judged = (good.0, good.1, good.2, cut_is_cut _ _ (let sum = good.3 in omega arith)) }

pub returns-in_default : goal.returns-in_default
returns-in_default c = record { judged = c.fault_of.ensures c.args.body.now }
