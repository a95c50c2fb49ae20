-- A law over the definitions, which is the contract of the function of the same name, which does nothing.
use Rattle.std.specs.Prelude.{◌≡◌, List, [], IsPermutation}
use Rattle.std.specs.List.{AllByRecursion}
use Rattle.am_types.specs.declared.ObjId.{ObjId}
use Rattle.am_types.specs.Operations.{Operation, OneOperationPerId}
use Rattle.am_types.specs.Elements.{elements}
use Rattle.am_chain.specs.Passing.{into, put_in_turn, IsAboveReference, RefersBack}

-- the insertions into o, in any order in which none comes before its reference, give the elements of o
abbrev pub OrderIsFree : Type 0
OrderIsFree = (A : List Operation) (o : ObjId) (xs : List Operation)
    → OneOperationPerId (into o A) → IsPermutation (into o A) xs → RefersBack xs → AllByRecursion IsAboveReference xs
    → put_in_turn [] xs ≡ elements A o
