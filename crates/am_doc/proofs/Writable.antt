-- A table within the limits of a document, whose actors are listed, can be written.
use Rattle.std.proofs.Common.{ℕ, zero, suc, get_or, ◌≡◌, ◌+◌, ◌<◌, ◌≤◌, ◌^◌, List, [], ◌∷◌, ◌++◌, length, map, sum_by, false, ◌||◌, Contains, IsTrue, refl, sym, ap, ◌∙◌, inl, inr, arith, length-append}
use Rattle.std.proofs.lemmas.Bool.{cases_Bool, both_ways}
use Rattle.std.proofs.lemmas.List.Elements.{All-contains, recursion_from_All, Contains-append_left, Contains-append_right}
use Rattle.std.proofs.lemmas.List.Sums.{sum_by-cons}
use Rattle.std.proofs.lemmas.Map.Lookups.{exact_bytes}
use Rattle.std.proofs.lemmas.Map.Views.{tells_apart}
use Rattle.am_types.specs.declared.OpId.{OpId}
use Rattle.am_types.specs.declared.ObjId.{ObjId}
use Rattle.am_types.specs.declared.ObjId.TheVariants.{Root, Made}
use Rattle.am_types.specs.declared.Key.{Key}
use Rattle.am_types.specs.declared.Key.TheVariants.{Name, Head, Elem}
use Rattle.am_types.specs.declared.Row.{Row}
use Rattle.am_types.specs.declared.Meta.{Meta}
use Rattle.am_types.specs.declared.Table.{Table}
use Rattle.am_types.specs.Bytes.{IsBytes}
use Rattle.am_types.specs.Order.{bytes_cmp, among, same}
use Rattle.am_types.specs.Values.{Good}
use Rattle.am_types.specs.Fine.{IsId}
use Rattle.am_types.specs.Documents.{object_actors, key_actors}
use Rattle.am_types.proofs.Lists.{all_of, Contains-head, Contains-tail}
use Rattle.am_laws.specs.Tables as tables
use Rattle.am_fields.specs.Actors.{IsListed, IfListed}
use Rattle.am_fields.specs.Extras.{extra_value}
use Rattle.am_fields.specs.Layout.{object_actor, key_actor, flat}
use Rattle.am_doccols.specs.Conditions.{IsIdFor, IsRowFor, IsPlace, IsMetaFor}
use Rattle.am_doc.specs.Conditions.{IsWritable}

listed_from : (actors : List (List ℕ)) (a : List ℕ) → IsTrue (among bytes_cmp actors a) → IsListed actors a
listed_from [] a e = absurd (both_ways false refl e)
listed_from (x ∷ xs) a e =
    let again : IsTrue (among bytes_cmp xs a) → IsListed xs a = listed_from xs a in
    elim (cases_Bool (same bytes_cmp a x)) [
      | inl t ↦ inl (tells_apart exact_bytes a x t)
      | inr f ↦ inr (again (sym (ap (λ b. b || among bytes_cmp xs a) f) ∙ e))
    ]

object_listed : (actors : List (List ℕ)) (o : ObjId) → ((a : List ℕ) → Contains (object_actors o) a → IsTrue (among bytes_cmp actors a)) → IfListed actors (object_actor o)
object_listed actors Root f = tt
object_listed actors (Made i) f = listed_from actors i.actor (f i.actor (Contains-head i.actor []))

key_listed : (actors : List (List ℕ)) (k : Key) → ((a : List ℕ) → Contains (key_actors k) a → IsTrue (among bytes_cmp actors a)) → IfListed actors (key_actor k)
key_listed actors (Name n) f = tt
key_listed actors Head f = tt
key_listed actors (Elem i) f = listed_from actors i.actor (f i.actor (Contains-head i.actor []))

in_map : {X Y : Type 0} (f : X → Y) (xs : List X) (x : X) → Contains xs x → Contains (map f xs) (f x)
in_map {X = X} f xs x c = go xs c.0 c.1 c.2
  where
    go : (ys : List X) (k : ℕ) → k < length ys → get_or ys k x ≡ x → Contains (map f ys) (f x)
    go [] k l e = absurd (omega arith)
    go (y ∷ ys) zero l e = (0, omega arith, ap f e)
    go (y ∷ ys) (suc k) l e = let again = go ys k (omega arith) e in (suc again.0, (let m = again.1 in omega arith), again.2)

flat_count : {X Y : Type 0} (f : X → List Y) (xs : List X) → length (flat (map f xs)) ≡ sum_by (λ x. length (f x)) xs
flat_count f [] = refl
flat_count f (x ∷ xs) =
    let a = length-append (f x) (flat (map f xs)) in
    let b = flat_count f xs in
    let c = sum_by-cons (λ x. length (f x)) x xs in
    a ∙ ap (λ n. length (f x) + n) b ∙ sym c

row_for : (actors : List (List ℕ)) (r : Row) → tables.RowWithin actors r → IsRowFor actors r
row_for actors r w =
    let objects : List (List ℕ) = object_actors r.obj in
    let keys : List (List ℕ) = key_actors r.key in
    let ids : List (List ℕ) = map (λ (i : OpId). i.actor) r.succs in
    let all : (a : List ℕ) → Contains (r.id.actor ∷ (objects ++ (keys ++ ids))) a → IsTrue (among bytes_cmp actors a) = λ a c. All-contains (tables.IsListed actors) (r.id.actor ∷ (objects ++ (keys ++ ids))) a w.listed c in
    let behind : (a : List ℕ) → Contains (objects ++ (keys ++ ids)) a → IsTrue (among bytes_cmp actors a) = λ a c. all a (Contains-tail r.id.actor (objects ++ (keys ++ ids)) a c) in
    record {
      object = w.object;
      object_listed = object_listed actors r.obj (λ a c. behind a (Contains-append_left objects (keys ++ ids) a c));
      key = w.key;
      key_listed = key_listed actors r.key (λ a c. behind a (Contains-append_right objects (keys ++ ids) a (Contains-append_left keys ids a c)));
      id = record { within = w.id; listed = listed_from actors r.id.actor (all r.id.actor (Contains-head r.id.actor (objects ++ (keys ++ ids)))) };
      value = w.value;
      succs = recursion_from_All (IsIdFor actors) r.succs (all_of (IsIdFor actors) r.succs (λ s c. record {
        within = All-contains IsId r.succs s w.succs c;
        listed = listed_from actors s.actor (behind s.actor (Contains-append_right objects (keys ++ ids) s.actor (Contains-append_right keys ids s.actor (in_map (λ (i : OpId). i.actor) r.succs s c))));
      }));
    }

extra_good : (extra : List ℕ) → IsBytes extra → length extra < 2 ^ 60 → Good (extra_value extra)
extra_good extra b s = record {
  kind = omega arith;
  short = s;
  bytes = b;
  empty = λ h. absurd (omega arith);
  unsigned = λ e. absurd (omega arith);
  signed = λ e. elim e [ inl a ↦ absurd (omega arith) | inr f ↦ elim f [ inl a ↦ absurd (omega arith) | inr a ↦ absurd (omega arith) ] ];
  float = λ e. absurd (omega arith);
  text = λ e. absurd (omega arith);
}

meta_for : (actors : List (List ℕ)) (count : ℕ) (m : Meta) → count ≤ 2 ^ 20 → tables.MetaWithin actors count m → IsMetaFor actors m
meta_for actors count m few w = record {
  actor = listed_from actors m.actor w.actor;
  seq = w.seq.1;
  max = w.max;
  time = w.time;
  deps = recursion_from_All IsPlace m.deps (all_of IsPlace m.deps (λ i c. let l = All-contains (λ i. i < count) m.deps i w.deps c in omega arith));
  extra = extra_good m.extra w.extra w.short_extra;
}

pub writable : (t : Table) → tables.TableWithin t → IsWritable t
writable t w = record {
  metas = recursion_from_All (IsMetaFor t.actors) t.metas (all_of (IsMetaFor t.actors) t.metas (λ m c. meta_for t.actors (length t.metas) m w.few_metas (All-contains (tables.MetaWithin t.actors (length t.metas)) t.metas m w.metas c)));
  few_metas = w.few_metas;
  few_deps = (let a = flat_count (λ (m : Meta). m.deps) t.metas in let b = w.few_deps in omega arith);
  rows = recursion_from_All (IsRowFor t.actors) t.rows (all_of (IsRowFor t.actors) t.rows (λ r c. row_for t.actors r (All-contains (tables.RowWithin t.actors) t.rows r w.rows c)));
  few_rows = w.few_rows;
  few_succs = (let a = flat_count (λ (r : Row). r.succs) t.rows in let b = w.few_succs in omega arith);
}
