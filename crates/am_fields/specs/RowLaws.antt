-- Ids, objects and keys are read of the places and cells that they have, and of no others.
use Rattle.std.proofs.Common.{◌≡◌, ℕ, zero, suc, ◌<◌, ◌≤◌, List, length, Option, Some, None, Bool, true, false, cond, refl, arith, sym, ap, ◌∙◌, subst, slice_get}
use Rattle.std.specs.Prelude.{IsSome, ℤ, pos, negsuc, option_and_then}
use Rattle.std.specs.Option.{option_map}
use Rattle.std.proofs.lemmas.Bool.Decides.{nat_tests}
use Rattle.am_types.specs.declared.OpId.{OpId}
use Rattle.am_types.specs.declared.ObjId.{ObjId}
use Rattle.am_types.specs.declared.Key.{Key}
use Rattle.am_types.specs.declared.ObjId.TheVariants.{Root, Made}
use Rattle.am_types.specs.declared.Key.TheVariants.{Head, Elem}
use Rattle.am_types.specs.declared.Key.TheVariants as types
use Rattle.am_types.specs.Limits.{counter_end, longest_actor}
use Rattle.am_fields.specs.Layout.{object_actor, object_counter, key_actor, key_counter, key_string, id_actor, id_counter}
use Rattle.am_fields.specs.Limits.{IsWithin, IsObjectWithin, IsKeyWithin}
use Rattle.am_fields.specs.Reading.{Rows, IsReading}
use Rattle.am_fields.specs.Fields.{is_within, id_with, id_from, id_at, object_at, key_at, key_read}

id_of : ℕ → List ℕ → OpId
id_of counter actor = record { counter = counter; actor = actor }

within_limits : (counter : ℕ) (actor : List ℕ) → is_within counter actor ≡ true → (1 ≤ counter) × (counter < counter_end) × (1 ≤ length actor) × (length actor ≤ longest_actor)
within_limits counter actor e = (grind (arith, nat_tests), grind (arith, nat_tests), grind (arith, nat_tests), grind (arith, nat_tests))

limits_within : (counter : ℕ) (actor : List ℕ) → 1 ≤ counter → counter < counter_end → 1 ≤ length actor → length actor ≤ longest_actor → is_within counter actor ≡ true
limits_within counter actor a b c d = grind (arith, nat_tests)

-- what an id was made of
id_with-is : (counter : ℕ) (actor : List ℕ) (id : OpId) → id_with counter actor ≡ Some id → (id.actor ≡ actor) × (id.counter ≡ counter) × IsWithin id
unfolding id_of
id_with-is counter actor id e = by_test (is_within counter actor) refl e
  where
    by_test : (b : Bool) → is_within counter actor ≡ b → cond b (Some (id_of counter actor)) None ≡ Some id → (id.actor ≡ actor) × (id.counter ≡ counter) × IsWithin id
    by_test true t e =
        let same : id_of counter actor ≡ id = cc in
        let w = within_limits counter actor t in
        let P : OpId → Type 0 = λ i. (i.actor ≡ actor) × (i.counter ≡ counter) × IsWithin i in
        subst P same (refl, refl, record { low = w.0; high = w.1; some = w.2; few = w.3 })
    by_test false t e = absurd (cc)

pub id_from-is : (actors : List (List ℕ)) (place counter : ℕ) (id : OpId) → id_from actors place counter ≡ Some id → (slice_get actors place ≡ Some id.actor) × (id.counter ≡ counter) × IsWithin id
id_from-is actors place counter id e = by_actor (slice_get actors place) refl e
  where
    by_actor : (o : Option (List ℕ)) → slice_get actors place ≡ o → option_and_then (id_with counter) o ≡ Some id → (slice_get actors place ≡ Some id.actor) × (id.counter ≡ counter) × IsWithin id
    by_actor None there e = absurd (cc)
    by_actor (Some actor) there e =
        let w = id_with-is counter actor id e in
        (there ∙ ap Some (sym w.0), w.1, w.2)

pub id_from-back : (actors : List (List ℕ)) (place : ℕ) (id : OpId) → slice_get actors place ≡ Some id.actor → IsWithin id → id_from actors place id.counter ≡ Some id
id_from-back actors place id there within =
    let t : is_within id.counter id.actor ≡ true = limits_within id.counter id.actor within.low within.high within.some within.few in
    ap (option_and_then (id_with id.counter)) there ∙ ap (λ b. cond b (Some id) None) t

mapped_some : {A B : Type 0} (f : A → B) (o : Option A) (b : B) → option_map f o ≡ Some b → (a : A) × (o ≡ Some a) × (f a ≡ b)
mapped_some f None b e = absurd (cc)
mapped_some f (Some a) b e = (a, refl, cc)

pub ids_read : (actors : List (List ℕ)) → IsReading actors (id_at actors) id_actor id_counter IsWithin
ids_read actors = record { is = is; back = back }
  where
    is : (x : Option ℕ) (y : Option ℤ) (id : OpId) → id_at actors x y ≡ Some id → (option_map (slice_get actors) x ≡ option_map Some (id_actor id)) × (y ≡ id_counter id) × IsWithin id
    is None y id e = absurd (cc)
    is (Some place) None id e = absurd (cc)
    is (Some place) (Some (negsuc n)) id e = absurd (cc)
    is (Some place) (Some (pos counter)) id e =
        let w = id_from-is actors place counter id e in
        (ap Some w.0, ap (λ n. Some (pos n)) (sym w.1), w.2)

    back : (x : Option ℕ) (id : OpId) → option_map (slice_get actors) x ≡ option_map Some (id_actor id) → IsWithin id → IsSome (id_at actors x (id_counter id))
    back None id e within = absurd (cc)
    back (Some place) id e within =
        let there : slice_get actors place ≡ Some id.actor = cc in
        rw (id_from-back actors place id there within) refl

pub objects_read : (actors : List (List ℕ)) → IsReading actors (object_at actors) object_actor object_counter IsObjectWithin
objects_read actors = record { is = is; back = back }
  where
    is : (x : Option ℕ) (y : Option ℕ) (o : ObjId) → object_at actors x y ≡ Some o → (option_map (slice_get actors) x ≡ option_map Some (object_actor o)) × (y ≡ object_counter o) × IsObjectWithin o
    is None None Root e = (refl, refl, tt)
    is None None (Made id) e = absurd (cc)
    is None (Some counter) o e = absurd (cc)
    is (Some place) None o e = absurd (cc)
    is (Some place) (Some counter) o e =
        let found = mapped_some Made (id_from actors place counter) o e in
        let w = id_from-is actors place counter found.0 found.1 in
        let P : ObjId → Type 0 = λ v. (option_map (slice_get actors) (Some place) ≡ option_map Some (object_actor v)) × (Some counter ≡ object_counter v) × IsObjectWithin v in
        subst P found.2 (ap Some w.0, ap Some (sym w.1), w.2)

    back : (x : Option ℕ) (o : ObjId) → option_map (slice_get actors) x ≡ option_map Some (object_actor o) → IsObjectWithin o → IsSome (object_at actors x (object_counter o))
    back None Root e within = refl
    back (Some place) Root e within = absurd (cc)
    back None (Made id) e within = absurd (cc)
    back (Some place) (Made id) e within =
        let there : slice_get actors place ≡ Some id.actor = cc in
        rw (id_from-back actors place id there within) refl

abbrev pub key_numbers : Key → Option ℤ × Option (List ℕ)
key_numbers k = (key_counter k, key_string k)

pub keys_read : (actors : List (List ℕ)) → IsReading actors (key_read actors) key_actor key_numbers IsKeyWithin
keys_read actors = record { is = λ x y k e. is x y.0 y.1 k e; back = back }
  where
    is : (x : Option ℕ) (y : Option ℤ) (z : Option (List ℕ)) (k : Key) → key_at actors x y z ≡ Some k → (option_map (slice_get actors) x ≡ option_map Some (key_actor k)) × (◌≡◌ {A = Option ℤ × Option (List ℕ)} (y, z) (key_counter k, key_string k)) × IsKeyWithin k
    is None None None k e = absurd (cc)
    is None None (Some name) k e =
        let same : types.Name name ≡ k = cc in
        let P : Key → Type 0 = λ v. (option_map (slice_get actors) None ≡ option_map Some (key_actor v)) × (◌≡◌ {A = Option ℤ × Option (List ℕ)} (None, Some name) (key_counter v, key_string v)) × IsKeyWithin v in
        subst P same (refl, refl, tt)
    is None (Some (pos zero)) None k e =
        let same : types.Head ≡ k = cc in
        let P : Key → Type 0 = λ v. (option_map (slice_get actors) None ≡ option_map Some (key_actor v)) × (◌≡◌ {A = Option ℤ × Option (List ℕ)} (Some (pos 0), None) (key_counter v, key_string v)) × IsKeyWithin v in
        subst P same (refl, refl, tt)
    is None (Some (pos zero)) (Some name) k e = absurd (cc)
    is None (Some (pos (suc n))) z k e = absurd (cc)
    is None (Some (negsuc n)) z k e = absurd (cc)
    is (Some place) None z k e = absurd (cc)
    is (Some place) (Some (negsuc n)) z k e = absurd (cc)
    is (Some place) (Some (pos counter)) (Some name) k e = absurd (cc)
    is (Some place) (Some (pos counter)) None k e =
        let found = mapped_some types.Elem (id_from actors place counter) k e in
        let w = id_from-is actors place counter found.0 found.1 in
        let P : Key → Type 0 = λ v. (option_map (slice_get actors) (Some place) ≡ option_map Some (key_actor v)) × (◌≡◌ {A = Option ℤ × Option (List ℕ)} (Some (pos counter), None) (key_counter v, key_string v)) × IsKeyWithin v in
        subst P found.2 (ap Some w.0, ap (λ n. (Some (pos n), None)) (sym w.1), w.2)

    back : (x : Option ℕ) (k : Key) → option_map (slice_get actors) x ≡ option_map Some (key_actor k) → IsKeyWithin k → IsSome (key_at actors x (key_counter k) (key_string k))
    back None (types.Name n) e within = refl
    back (Some place) (types.Name n) e within = absurd (cc)
    back None types.Head e within = refl
    back (Some place) types.Head e within = absurd (cc)
    back None (types.Elem id) e within = absurd (cc)
    back (Some place) (types.Elem id) e within =
        let there : slice_get actors place ≡ Some id.actor = cc in
        rw (id_from-back actors place id there within) refl

-- how the rows of each are read

abbrev pub id_rows : Rows OpId (Option ℤ)
id_rows = record { read = id_at; actor_of = id_actor; cell_of = id_counter; Within = IsWithin }

abbrev pub object_rows : Rows ObjId (Option ℕ)
object_rows = record { read = object_at; actor_of = object_actor; cell_of = object_counter; Within = IsObjectWithin }

abbrev pub key_rows : Rows Key (Option ℤ × Option (List ℕ))
key_rows = record { read = key_read; actor_of = key_actor; cell_of = key_numbers; Within = IsKeyWithin }
