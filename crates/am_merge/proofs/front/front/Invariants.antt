use Rattle.std.proofs.Common.{◌≡◌, ◌<◌, ◌≤◌, ◌-◌, ◌^◌, drop}
use Rattle.am_merge.specs.Fronts.{front_of, spelled}
use Rattle.am_merge.proofs.front.front.Given as goal

abbrev pub invariant-loop-i : goal.invariant-loop-i
invariant-loop-i l = record {
  bound : l.i ≤ 16;
  low : l.word < 256 ^ l.i;
  word : spelled l.word (16 - l.i) (drop l.i l.bytes) ≡ front_of l.bytes;
}
