use Rattle.std.proofs.Common.{◌≡◌, ◌++◌, Some, None, map, option_map, take}
use Rattle.std.specs.Prelude.{IfSome, IfNone}
use Rattle.am_types.specs.Views.{id_of}
use Rattle.am_fields.specs.Columns.{place_of}
use Rattle.am_fields.specs.Layout.{id_actor, id_counter}
use Rattle.am_doccols.proofs.row_writer.push_lent_ids.Given as goal

abbrev pub invariant-loop-id : goal.invariant-loop-id
invariant-loop-id l =
    IfSome l.initial.places (λ xs. l.places ≡ Some (xs ++ map (option_map (place_of l.actors)) (map (λ i. id_actor (id_of i)) (take l.id-index l.ids))))
    × IfSome l.initial.counters (λ xs. l.counters ≡ Some (xs ++ map (λ i. id_counter (id_of i)) (take l.id-index l.ids)))
    × IfNone l.initial.places (l.places ≡ None)
    × IfNone l.initial.counters (l.counters ≡ None)
