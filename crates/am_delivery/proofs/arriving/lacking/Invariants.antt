use Rattle.std.proofs.Common.{◌≡◌, filter, not, take, vec_items}
use Rattle.am_types.specs.Members.{holds}
use Rattle.am_delivery.proofs.arriving.lacking.Given as goal

abbrev pub invariant-loop-dep : goal.invariant-loop-dep
invariant-loop-dep g l = vec_items l.found ≡ filter (λ h. not (holds (g.S.Closed.members l.closed) h)) (take l.dep-index l.deps)
