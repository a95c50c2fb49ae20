use Rattle.std.proofs.Common.{◌≡◌, ◌≤◌, map, filter, not, take, length}
use Rattle.am_rebuild.specs.Mentions.{mention_of}
use Rattle.am_rebuild.proofs.group.count_named.Given as goal

abbrev pub invariant-loop-named : goal.invariant-loop-named
invariant-loop-named l = record {
  few : l.count ≤ l.named-index;
  is : l.count ≡ length (filter (λ n. not n.own) (map mention_of (take l.named-index l.group)));
}
