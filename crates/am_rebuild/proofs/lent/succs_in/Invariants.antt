use Rattle.std.proofs.Common.{◌≡◌, ◌++◌, length, map}
use Rattle.am_types.specs.Views.{id_of}
use Rattle.am_rebuild.proofs.lent.succs_in.Given as goal

abbrev pub invariant-loop-id : goal.invariant-loop-id
invariant-loop-id l = map id_of l.lent.items ++ l.succs ≡ l.fn.succs

abbrev pub decreases-loop-id : goal.decreases-loop-id
decreases-loop-id l = length l.succs
