use Rattle.std.proofs.Common.{◌≡◌, map, take}
use Rattle.am_rows.proofs.ranked.kept_of.Given as goal

abbrev pub invariant-loop-i : goal.invariant-loop-i
invariant-loop-i l = l.kept.items ≡ map (λ r. r.kept) (take l.i l.ranked)
