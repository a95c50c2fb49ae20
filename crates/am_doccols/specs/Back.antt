-- Rows out of the columns that were written. The places name the actors.
--     held x                            the list, or none after want of memory
--     objects_back, keys_back, ids_back     the fields that the cells stand for
--     rows_back                         the rows
--     actor_at, natural                 the actor at a place, and the number of a delta
use Rattle.std.specs.Prelude.{ℕ, ℤ, pos, negsuc, List, [], ◌∷◌, Option, Some, None, slice_get, unwrap_or}
use Rattle.am_types.specs.declared.OpId.{OpId}
use Rattle.am_types.specs.declared.ObjId.{ObjId}
use Rattle.am_types.specs.declared.Key.{Key}
use Rattle.am_types.specs.declared.Row.{Row}
use Rattle.am_types.specs.declared.ObjId.TheVariants.{Root, Made}
use Rattle.am_types.specs.declared.Key.TheVariants.{Name, Head, Elem}
use Rattle.am_fields.specs.Groups.{counts, parts}
use Rattle.am_fields.specs.declared.field_writer.FieldWriter.{FieldWriter}
use Rattle.am_fields.specs.declared.id_writer.IdWriter.{IdWriter}
use Rattle.am_doccols.specs.Rows.{rows_from}

abbrev pub held : {A : Type 0} → Option (List A) → List A
held None = []
held (Some xs) = xs

abbrev pub actor_at : List (List ℕ) → Option ℕ → List ℕ
actor_at actors None = []
actor_at actors (Some place) = unwrap_or (slice_get actors place) []

abbrev pub natural : Option ℤ → ℕ
natural None = 0
natural (Some (pos n)) = n
natural (Some (negsuc n)) = 0

abbrev pub object_back : List (List ℕ) → Option ℕ → Option ℕ → ObjId
object_back actors None counter = Root
object_back actors (Some place) counter = Made (record { counter = unwrap_or counter 0; actor = actor_at actors (Some place) })

abbrev pub key_back : List (List ℕ) → Option ℕ → Option ℤ → Option (List ℕ) → Key
key_back actors place counter (Some name) = Name name
key_back actors None counter None = Head
key_back actors (Some place) counter None = Elem (record { counter = natural counter; actor = actor_at actors (Some place) })

abbrev pub id_back : List (List ℕ) → Option ℕ → Option ℤ → OpId
id_back actors place counter = record { counter = natural counter; actor = actor_at actors place }

abbrev pub objects_back : List (List ℕ) → List (Option ℕ) → List (Option ℕ) → List ObjId
objects_back actors [] ys = []
objects_back actors (x ∷ xs) [] = []
objects_back actors (x ∷ xs) (y ∷ ys) = object_back actors x y ∷ objects_back actors xs ys

abbrev pub ids_back : List (List ℕ) → List (Option ℕ) → List (Option ℤ) → List OpId
ids_back actors [] ys = []
ids_back actors (x ∷ xs) [] = []
ids_back actors (x ∷ xs) (y ∷ ys) = id_back actors x y ∷ ids_back actors xs ys

abbrev pub keys_back : List (List ℕ) → List (Option ℕ) → List (Option ℤ) → List (Option (List ℕ)) → List Key
keys_back actors [] ys zs = []
keys_back actors (x ∷ xs) [] zs = []
keys_back actors (x ∷ xs) (y ∷ ys) [] = []
keys_back actors (x ∷ xs) (y ∷ ys) (z ∷ zs) = key_back actors x y z ∷ keys_back actors xs ys zs

abbrev pub rows_back : List (List ℕ) → FieldWriter → IdWriter → Option (List (Option ℕ)) → IdWriter → List Row
rows_back actors fields ids lengths succs =
    rows_from
    (objects_back actors (held fields.object_actor) (held fields.object_counter))
    (keys_back actors (held fields.key_actor) (held fields.key_counter) (held fields.key_name))
    (ids_back actors (held ids.places) (held ids.counters))
    (held fields.insert)
    (counts (held fields.action))
    (held fields.value)
    (parts (counts (held lengths)) (ids_back actors (held succs.places) (held succs.counters)))
    (held fields.expand)
    (held fields.mark)
