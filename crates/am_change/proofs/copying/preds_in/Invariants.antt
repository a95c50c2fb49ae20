use Rattle.std.proofs.Common.{◌≡◌, ◌++◌, length}
use Rattle.std.specs.List.{AllByRecursion}
use Rattle.am_fields.specs.Limits.{IsWithin}
use Rattle.am_change.proofs.copying.preds_in.Given as goal

abbrev pub invariant-loop-id : goal.invariant-loop-id
invariant-loop-id l = (AllByRecursion IsWithin l.preds) × (l.copy.items ++ l.preds ≡ l.fn.preds)

abbrev pub decreases-loop-id : goal.decreases-loop-id
decreases-loop-id l = length l.preds
