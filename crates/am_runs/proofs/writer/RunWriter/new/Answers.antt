use Rattle.std.proofs.Common.{refl, arith, ap, Some, length}
use Rattle.am_runs.proofs.Entries.{entries-none}
use Rattle.am_runs.proofs.writer.RunWriter.new.Goals as goal

pub invariant_of-result : goal.invariant_of-result
invariant_of-result g c = let e = entries-none g.K.Item.end_of 0 _ refl in (ap length e, (c.new.ensures.items, e, refl), omega arith)

pub returns : goal.returns
returns g c = ap Some (entries-none _ 0 _ refl)
