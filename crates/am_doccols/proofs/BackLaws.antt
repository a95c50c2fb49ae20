-- What was written comes back.
use Rattle.std.proofs.Common.{◌≡◌, ℕ, List, [], ◌∷◌, ◌++◌, length, map, take, drop, Option, Some, Bool, refl, ap, ◌∙◌}
use Rattle.std.specs.Prelude.{unwrap_or}
use Rattle.std.specs.Option.{option_map}
use Rattle.std.specs.List.{AllByRecursion}
use Rattle.am_types.specs.declared.OpId.{OpId}
use Rattle.am_types.specs.declared.ObjId.{ObjId}
use Rattle.am_types.specs.declared.ObjId.TheVariants.{Root, Made}
use Rattle.am_types.specs.declared.Key.{Key}
use Rattle.am_types.specs.declared.Key.TheVariants.{Name, Head, Elem}
use Rattle.am_types.specs.declared.Row.{Row}
use Rattle.am_fields.specs.Actors.{IsListed, IfListed}
use Rattle.am_fields.specs.Columns.{place_of}
use Rattle.am_fields.specs.Groups.{counts, parts}
use Rattle.am_fields.specs.Layout.{object_actor, object_counter, key_actor, key_counter, key_string, id_actor, id_counter, flat}
use Rattle.am_fields.proofs.Lists.{all-append}
use Rattle.am_fields.proofs.PlaceLaws.{found}
use Rattle.am_doccols.specs.Conditions.{IsIdFor, IsRowFor}
use Rattle.am_doccols.specs.Rows.{rows_from}
use Rattle.am_types.specs.declared.RawValue.{RawValue}
use Rattle.am_types.specs.Fine.{IsId, IsKey}
use Rattle.am_values.specs.Columns.{AllGood}
use Rattle.am_fields.specs.declared.field_writer.FieldWriter.{FieldWriter}
use Rattle.am_fields.specs.declared.id_writer.IdWriter.{IdWriter}
use Rattle.am_doccols.specs.Writing.{RowsHeld}
use Rattle.am_doccols.specs.Back.{held, rows_back, actor_at, object_back, key_back, id_back, objects_back, keys_back, ids_back}

pub actor_back : (actors : List (List ℕ)) (a : List ℕ) → IsListed actors a → actor_at actors (Some (place_of actors a)) ≡ a
actor_back actors a h = ap (λ x. unwrap_or x []) (found actors a h)

abbrev made : ℕ → List ℕ → OpId
made counter actor = record { counter = counter; actor = actor }

-- each part

object_again : (actors : List (List ℕ)) (o : ObjId) → IfListed actors (object_actor o) → object_back actors (option_map (place_of actors) (object_actor o)) (object_counter o) ≡ o
object_again actors Root h = refl
object_again actors (Made id) h = ap (λ a. Made (made id.counter a)) (actor_back actors id.actor h)

key_again : (actors : List (List ℕ)) (k : Key) → IfListed actors (key_actor k) → key_back actors (option_map (place_of actors) (key_actor k)) (key_counter k) (key_string k) ≡ k
key_again actors (Name n) h = refl
key_again actors Head h = refl
key_again actors (Elem id) h = ap (λ a. Elem (made id.counter a)) (actor_back actors id.actor h)

id_again : (actors : List (List ℕ)) (id : OpId) → IsListed actors id.actor → id_back actors (option_map (place_of actors) (id_actor id)) (id_counter id) ≡ id
id_again actors id h = ap (made id.counter) (actor_back actors id.actor h)

-- lists of them

pub cons_same : {A : Type 0} (x y : A) (xs ys : List A) → x ≡ y → xs ≡ ys → x ∷ xs ≡ y ∷ ys
cons_same x y xs ys e f = ap (λ z. z ∷ xs) e ∙ ap (λ zs. y ∷ zs) f

objects_again : (actors : List (List ℕ)) (rows : List Row) → AllByRecursion (IsRowFor actors) rows
    → objects_back actors (map (option_map (place_of actors)) (map object_actor (map (λ r. r.obj) rows))) (map object_counter (map (λ r. r.obj) rows)) ≡ map (λ r. r.obj) rows
objects_again actors [] all = refl
objects_again actors (r ∷ rows) all = cons_same _ _ _ _ (object_again actors r.obj (all.0).object_listed) (objects_again actors rows all.1)

keys_again : (actors : List (List ℕ)) (rows : List Row) → AllByRecursion (IsRowFor actors) rows
    → keys_back actors (map (option_map (place_of actors)) (map key_actor (map (λ r. r.key) rows))) (map key_counter (map (λ r. r.key) rows)) (map key_string (map (λ r. r.key) rows)) ≡ map (λ r. r.key) rows
keys_again actors [] all = refl
keys_again actors (r ∷ rows) all = cons_same _ _ _ _ (key_again actors r.key (all.0).key_listed) (keys_again actors rows all.1)

ids_again : (actors : List (List ℕ)) (ids : List OpId) → AllByRecursion (IsIdFor actors) ids
    → ids_back actors (map (option_map (place_of actors)) (map id_actor ids)) (map id_counter ids) ≡ ids
ids_again actors [] all = refl
ids_again actors (id ∷ ids) all = cons_same _ _ _ _ (id_again actors id (all.0).listed) (ids_again actors ids all.1)

pub row_ids : (actors : List (List ℕ)) (rows : List Row) → AllByRecursion (IsRowFor actors) rows → AllByRecursion (IsIdFor actors) (map (λ r. r.id) rows)
row_ids actors [] all = tt
row_ids actors (r ∷ rows) all = ((all.0).id, row_ids actors rows all.1)

pub row_succs : (actors : List (List ℕ)) (rows : List Row) → AllByRecursion (IsRowFor actors) rows → AllByRecursion (IsIdFor actors) (flat (map (λ r. r.succs) rows))
row_succs actors [] all = tt
row_succs actors (r ∷ rows) all = all-append (IsIdFor actors) r.succs (flat (map (λ r. r.succs) rows)) (all.0).succs (row_succs actors rows all.1)

pub counts_again : (ns : List ℕ) → counts (map Some ns) ≡ ns
counts_again [] = refl
counts_again (n ∷ ns) = ap (λ zs. n ∷ zs) (counts_again ns)

take_front : {A : Type 0} (xs ys : List A) → take (length xs) (xs ++ ys) ≡ xs
take_front [] ys = refl
take_front (x ∷ xs) ys = ap (λ zs. x ∷ zs) (take_front xs ys)

drop_front : {A : Type 0} (xs ys : List A) → drop (length xs) (xs ++ ys) ≡ ys
drop_front [] ys = refl
drop_front (x ∷ xs) ys = drop_front xs ys

pub parts_again : {A : Type 0} (groups : List (List A)) → parts (map length groups) (flat groups) ≡ groups
parts_again [] = refl
parts_again (g ∷ groups) = cons_same _ _ _ _ (take_front g (flat groups)) (ap (parts (map length groups)) (drop_front g (flat groups)) ∙ parts_again groups)

row_again : (rows : List Row)
    → rows_from (map (λ r. r.obj) rows) (map (λ r. r.key) rows) (map (λ r. r.id) rows) (map (λ r. r.insert) rows) (map (λ r. r.action) rows) (map (λ r. r.value) rows) (map (λ r. r.succs) rows) (map (λ r. r.expand) rows) (map (λ r. r.mark) rows) ≡ rows
row_again [] = refl
row_again (r ∷ rows) = ap (λ zs. r ∷ zs) (row_again rows)

pub lists_again : (rows : List Row) → {o : List ObjId} {k : List Key} {i : List OpId} {n : List Bool} {a : List ℕ} {v : List RawValue} {s : List (List OpId)} {e : List Bool} {m : List (Option (List ℕ))}
    → o ≡ map (λ r. r.obj) rows → k ≡ map (λ r. r.key) rows → i ≡ map (λ r. r.id) rows → n ≡ map (λ r. r.insert) rows → a ≡ map (λ r. r.action) rows → v ≡ map (λ r. r.value) rows → s ≡ map (λ r. r.succs) rows → e ≡ map (λ r. r.expand) rows → m ≡ map (λ r. r.mark) rows
    → rows_from o k i n a v s e m ≡ rows
lists_again rows e1 e2 e3 e4 e5 e6 e7 e8 e9 = rw (e1, e2, e3, e4, e5, e6, e7, e8, e9) (row_again rows)

-- rows that are held come back
pub rows_again : (actors : List (List ℕ)) (rows : List Row) (f : FieldWriter) (i : IdWriter) (l : Option (List (Option ℕ))) (s : IdWriter)
    → RowsHeld actors rows f i l s → rows_back actors f i l s ≡ rows
rows_again actors rows f i l s h =
    let all = h.all in
    let lengths : counts (held l) ≡ map length (map (λ r. r.succs) rows) = ap (λ x. counts (held x)) h.lengths_are ∙ counts_again (map length (map (λ r. r.succs) rows)) in
    let succs : ids_back actors (held s.places) (held s.counters) ≡ flat (map (λ r. r.succs) rows) =
    rw ((h.succs_are).places, (h.succs_are).counters) (ids_again actors (flat (map (λ r. r.succs) rows)) (row_succs actors rows all)) in
    lists_again rows
    (rw ((h.fields_are).object_actor, (h.fields_are).object_counter) (objects_again actors rows all))
    (rw ((h.fields_are).key_actor, (h.fields_are).key_counter, (h.fields_are).key_name) (keys_again actors rows all))
    (rw ((h.ids_are).places, (h.ids_are).counters) (ids_again actors (map (λ r. r.id) rows) (row_ids actors rows all)))
    (ap held (h.fields_are).insert)
    (ap (λ x. counts (held x)) (h.fields_are).action ∙ counts_again (map (λ r. r.action) rows))
    (ap held (h.fields_are).value)
    (rw (lengths, succs) (parts_again (map (λ r. r.succs) rows)))
    (ap held (h.fields_are).expand)
    (ap held (h.fields_are).mark)

-- what a row must meet, field by field

pub row_keys : (actors : List (List ℕ)) (rows : List Row) → AllByRecursion (IsRowFor actors) rows → AllByRecursion IsKey (map (λ r. r.key) rows)
row_keys actors [] all = tt
row_keys actors (r ∷ rows) all = ((all.0).key, row_keys actors rows all.1)

pub row_values : (actors : List (List ℕ)) (rows : List Row) → AllByRecursion (IsRowFor actors) rows → AllGood (map (λ r. r.value) rows)
row_values actors [] all = tt
row_values actors (r ∷ rows) all = ((all.0).value, row_values actors rows all.1)

pub ids_within : (actors : List (List ℕ)) (ids : List OpId) → AllByRecursion (IsIdFor actors) ids → AllByRecursion IsId ids
ids_within actors [] all = tt
ids_within actors (i ∷ ids) all = ((all.0).within, ids_within actors ids all.1)
