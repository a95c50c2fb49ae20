use Rattle.std.proofs.Common.{◌≡◌, map, filter, not, take}
use Rattle.am_rebuild.specs.Mentions.{mention_of}
use Rattle.am_rebuild.proofs.group.naming_rows.Given as goal

abbrev pub invariant-loop-named : goal.invariant-loop-named
invariant-loop-named l = map (λ r. r.now.id) l.rows.items ≡ map (λ n. n.row.id) (filter (λ n. not n.own) (map mention_of (take l.named-index l.group)))
