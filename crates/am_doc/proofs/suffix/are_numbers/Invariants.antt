use Rattle.std.proofs.Common.{◌≡◌, ◌<◌}
use Rattle.std.specs.List.{AllByRecursion}
use Rattle.am_colmeta.specs.Reading.{behind, parts, first_number}
use Rattle.am_doc.proofs.suffix.are_numbers.Given as goal

abbrev pub invariant-loop-left : goal.invariant-loop-left
invariant-loop-left l =
    (behind first_number l.left l.rest ≡ behind first_number l.fn.count l.fn.bytes)
    × (AllByRecursion (λ i. i < l.fn.end) (parts first_number l.left l.rest) → AllByRecursion (λ i. i < l.fn.end) (parts first_number l.fn.count l.fn.bytes))
    × (AllByRecursion (λ i. i < l.fn.end) (parts first_number l.fn.count l.fn.bytes) → AllByRecursion (λ i. i < l.fn.end) (parts first_number l.left l.rest))

abbrev pub decreases-loop-left : goal.decreases-loop-left
decreases-loop-left l = l.left
