use Rattle.std.proofs.Common.{[], map, take}
use Rattle.std.specs.List.{flat_map}
use Rattle.am_opcols.specs.Noted.{Notes}
use Rattle.am_opcols.specs.Others.{actors_of}
use Rattle.am_opcols.proofs.others.noted_in.Given as goal

abbrev pub invariant-loop-op : goal.invariant-loop-op
invariant-loop-op g l = Notes l.author (flat_map actors_of (take l.op-index (map g.O.ReadOp.op l.ops))) [] (map (λ a. a.now) l.noted.items)
