use Rattle.std.proofs.Common.{◌≡◌, ◌++◌, Some, None, map, take}
use Rattle.std.specs.Prelude.{IfSome, IfNone}
use Rattle.am_fields.specs.Layout.{whole}
use Rattle.am_doccols.proofs.meta_columns.push_places.Given as goal

abbrev pub invariant-loop-place : goal.invariant-loop-place
invariant-loop-place l =
    IfSome l.initial.column (λ xs. l.column ≡ Some (xs ++ map whole (take l.place-index l.places)))
    × IfNone l.initial.column (l.column ≡ None)
