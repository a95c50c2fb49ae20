use Rattle.std.proofs.Common.{◌≡◌, ◌++◌, List, map, take, option_map}
use Rattle.am_types.specs.Canonical.{order}
use Rattle.am_types.specs.Members.{Member, hashes}
use Rattle.am_merge.specs.ChangeRows.{turns}
use Rattle.am_merge.specs.Grown.{HasGrown}
use Rattle.am_merge.proofs.order.turns_of.Given as goal

abbrev pub invariant-loop-hash : goal.invariant-loop-hash
invariant-loop-hash l = (C E : List Member) → HasGrown l.after l.count (map (λ c. c.now) l.added) C E → l.ordered ≡ hashes (order (C ++ E))
    → map (option_map (λ c. c.now)) l.found.items ≡ turns C (take l.hash-index (order (C ++ E)))
