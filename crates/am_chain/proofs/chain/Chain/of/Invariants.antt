use Rattle.std.proofs.Common.{◌≡◌, [], drop, map, take}
use Rattle.am_chain.specs.Insertions.{AreInTurn, id_inserted, walked}
use Rattle.am_chain.proofs.chain.Chain.of.Given as goal

abbrev pub invariant-loop-i : goal.invariant-loop-i
invariant-loop-i l = record {
  nodes : l.chain.nodes ≡ map id_inserted (take l.i l.insertions);
  turn : AreInTurn l.chain.nodes (drop l.i l.insertions);
  walk : walked l.chain.nodes l.chain.walk (drop l.i l.insertions) ≡ walked [] [] l.insertions;
}
