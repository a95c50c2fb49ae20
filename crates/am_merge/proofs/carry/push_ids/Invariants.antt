use Rattle.std.proofs.Common.{◌≡◌, ◌++◌, map, take}
use Rattle.am_types.specs.Views.{id_of}
use Rattle.am_merge.specs.Carrying.{ids_of}
use Rattle.am_merge.proofs.carry.push_ids.Given as goal

abbrev pub invariant-loop-i : goal.invariant-loop-i
invariant-loop-i l = map id_of l.ids.items ≡ map id_of l.initial.ids.items ++ ids_of (take l.i l.added)
