-- The actors that operations within their limits name are within theirs.
--     short_at         one of actors that each have 1 to 1,024 bytes has so many
--     short_others     so have those that operations name, without the author
use Rattle.std.proofs.Common.{ℕ, ◌<◌, List, [], ◌∷◌, ◌++◌, length, map, get_or, sym, subst, Bor, inl, inr, ⊎_elim}
use Rattle.std.specs.List.{flat_map, AllByRecursion}
use Rattle.std.specs.Option.{option_to_list}
use Rattle.am_types.specs.declared.OpId.{OpId}
use Rattle.am_types.specs.declared.ObjId.{ObjId}
use Rattle.am_types.specs.declared.ObjId.TheVariants.{Root, Made}
use Rattle.am_types.specs.declared.Key.{Key}
use Rattle.am_types.specs.declared.Key.TheVariants as keys
use Rattle.am_types.specs.declared.Op.{Op}
use Rattle.am_fields.specs.Actors.{IsListed}
use Rattle.am_fields.specs.Layout.{object_actor, key_actor, flat}
use Rattle.am_fields.specs.Limits.{IsWithin, IsObjectWithin, IsKeyWithin, IsShortActor}
use Rattle.am_fields.proofs.Lists.{all-append}
use Rattle.am_opcols.specs.Columns.{AreOpsWithin}
use Rattle.am_opcols.specs.Others.{actors_of, others}
use Rattle.am_opcols.proofs.NamedAlone.{others_alone}
use Rattle.am_opcols.proofs.NotedLaws.{at_each, at_listed}

object_short : (object : ObjId) → IsObjectWithin object → AllByRecursion IsShortActor (option_to_list (object_actor object))
object_short Root h = tt
object_short (Made id) h = ((h.some, h.few), tt)

key_short : (key : Key) → IsKeyWithin key → AllByRecursion IsShortActor (option_to_list (key_actor key))
key_short (keys.Name n) h = tt
key_short keys.Head h = tt
key_short (keys.Elem id) h = ((h.some, h.few), tt)

ids_short : (ids : List OpId) → AllByRecursion IsWithin ids → AllByRecursion IsShortActor (map (λ id. id.actor) ids)
ids_short [] all = tt
ids_short (id ∷ ids) all = (((all.0).some, (all.0).few), ids_short ids all.1)

parted : {A : Type 0} (P : A → Type 0) (xs ys : List A) → AllByRecursion P (xs ++ ys) → AllByRecursion P xs × AllByRecursion P ys
parted P [] ys all = (tt, all)
parted P (x ∷ xs) ys all = let more = parted P xs ys all.1 in ((all.0, more.0), more.1)

each_short : (ops : List Op) → AllByRecursion IsObjectWithin (map (λ o. o.obj) ops) → AllByRecursion IsKeyWithin (map (λ o. o.key) ops) → AllByRecursion IsWithin (flat (map (λ o. o.preds) ops)) → AllByRecursion IsShortActor (flat_map actors_of ops)
each_short [] objects keys preds = tt
each_short (o ∷ ops) objects keys preds =
    let p = parted IsWithin o.preds (flat (map (λ o. o.preds) ops)) preds in
    let named = all-append IsShortActor (option_to_list (object_actor o.obj)) (option_to_list (key_actor o.key)) (object_short o.obj objects.0) (key_short o.key keys.0) in
    let own = all-append IsShortActor (option_to_list (object_actor o.obj) ++ option_to_list (key_actor o.key)) (map (λ id. id.actor) o.preds) named (ids_short o.preds p.0) in
    all-append IsShortActor (actors_of o) (flat_map actors_of ops) own (each_short ops objects.1 keys.1 p.1)

short_actors : (ops : List Op) → AreOpsWithin ops → AllByRecursion IsShortActor (flat_map actors_of ops)
short_actors ops within = each_short ops within.objects within.keys within.preds

all_listed : (P : List ℕ → Type 0) (xs : List (List ℕ)) (a : List ℕ) → AllByRecursion P xs → IsListed xs a → P a
all_listed P [] a all h = absurd h
all_listed P (x ∷ xs) a all (inl e) = subst P (sym e) all.0
all_listed P (x ∷ xs) a all (inr h) = all_listed P xs a all.1 h

pub short_at : (xs : List (Bor (List ℕ))) → AllByRecursion IsShortActor (map (λ (a : Bor (List ℕ)). a.now) xs) → (i : ℕ) (d : Bor (List ℕ)) → i < length xs → IsShortActor ((get_or xs i d).now)
short_at xs all i d n = all_listed IsShortActor (map (λ (a : Bor (List ℕ)). a.now) xs) ((get_or xs i d).now) all (at_listed xs i d n)

pub short_others : (author : List ℕ) (ops : List Op) → AreOpsWithin ops → AllByRecursion IsShortActor (others author ops)
short_others author ops within =
    at_each IsShortActor (others author ops)
    (λ a h. ⊎_elim (λ w. all_listed IsShortActor (flat_map actors_of ops) a (short_actors ops within) w.0) (λ z. absurd z) (others_alone author (flat_map actors_of ops) [] a h))
