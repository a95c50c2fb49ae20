use Rattle.std.proofs.Common.{◌≡◌, ◌≤◌, ◌-◌, ◌*◌, ◌↔◌, drop}
use Rattle.am_values.specs.Cutting.{AreAlikeCut, width}
use Rattle.am_values.proofs.cutting.behind_each.Given as goal

abbrev pub invariant-loop-left : goal.invariant-loop-left
invariant-loop-left l = (l.left ≤ l.fn.count) × (AreAlikeCut l.left l.fn.number l.rest ↔ AreAlikeCut l.fn.count l.fn.number l.fn.raw) × (l.rest ≡ drop ((l.fn.count - l.left) * width l.fn.number) l.fn.raw)

abbrev pub decreases-loop-left : goal.decreases-loop-left
decreases-loop-left l = l.left
