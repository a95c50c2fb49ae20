-- Stacks of operations.
--     stacked ns     the operations of a stack whose top is last, the top first
use Rattle.std.specs.Prelude.{List, map, reverse}
use Rattle.am_types.specs.Operations.{Operation}
use Rattle.am_places.specs.Numbered.{operation_of}
use Rattle.am_places.specs.declared.numbered.Numbered.{Numbered}

abbrev pub stacked : List Numbered → List Operation
stacked ns = reverse (map operation_of ns)
