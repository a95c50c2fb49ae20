use Rattle.std.proofs.Common.{◌≡◌, ◌<◌, All, List, drop, length, map}
use Rattle.am_types.specs.Operations.{Operation}
use Rattle.am_merge.specs.Aims.{stacked_at}
use Rattle.am_merge.specs.Starts.{Stands}
use Rattle.am_merge.proofs.Aimed.{operation_in}
use Rattle.am_merge.proofs.added.places_of.Given as goal

abbrev pub invariant-loop-i : goal.invariant-loop-i
invariant-loop-i l = (A : List Operation) → All (Stands A) l.starts → (stacked_at A l.all.items ≡ map operation_in (drop l.i l.starts)) × All (λ k. k < length A) l.all.items
