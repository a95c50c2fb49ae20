use Rattle.std.proofs.Common.{◌≡◌, ◌<◌, ◌≤◌, ◌^◌, drop, length}
use Rattle.am_graph.specs.Numbers.{word_from}
use Rattle.am_graph.proofs.text_key.key_of.Given as goal

abbrev pub invariant-loop-i : goal.invariant-loop-i
invariant-loop-i l = record {
  bound : l.i ≤ length l.text;
  low : l.word < 256 ^ l.i;
  word : word_from l.word (drop l.i l.text) ≡ word_from 0 l.text;
}
