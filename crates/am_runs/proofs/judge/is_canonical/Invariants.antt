use Rattle.std.proofs.Common.{◌↔◌, length, false, None}
use Rattle.std.specs.Option.{option_map}
use Rattle.am_runs.proofs.Onward.{Onward}
use Rattle.am_runs.specs.Positions.{sight_in}
use Rattle.am_runs.proofs.judge.is_canonical.Given as goal

abbrev pub invariant-loop-rest : goal.invariant-loop-rest
invariant-loop-rest g l =
    Onward g.K.Item.end_of (option_map sight_in l.before) l.seen l.left l.rest
    ↔ Onward g.K.Item.end_of None false l.most l.bytes

abbrev pub decreases-loop-rest : goal.decreases-loop-rest
decreases-loop-rest g l = length l.rest
