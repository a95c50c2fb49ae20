use Rattle.std.proofs.Common.{◌≡◌, false}
use Rattle.std.specs.List.{AllWithin}
use Rattle.am_types.specs.Same.{same_bytes}
use Rattle.am_fits.proofs.ancestors.known.Given as goal

abbrev pub invariant-loop-other : goal.invariant-loop-other
invariant-loop-other l = AllWithin (λ a. same_bytes a.actor.now l.actor ≡ false) l.others 0 l.other-index
