-- What is rebuilt uses only actors that the rows and metas name.
use Rattle.std.proofs.Common.{ℕ, ◌≡◌, List, [], ◌∷◌, ◌++◌, map, filter, Bool, true, false, cond, Option, Some, None, option_map, refl, sym, ap, ◌∙◌, subst, inl, inr, ◌⊎◌, Contains}
use Rattle.std.specs.List.{flat_map, filter_map, cons_option, find}
use Rattle.std.specs.Option.{option_or}
use Rattle.std.proofs.lemmas.Bool.{cases_Bool}
use Rattle.std.proofs.lemmas.Option.{none-some, same_Some}
use Rattle.std.proofs.lemmas.List.Elements.{Contains-append_left, Contains-append_right, Contains-append_cases}
use Rattle.am_types.specs.declared.OpId.{OpId}
use Rattle.am_types.specs.declared.Hash.{Hash}
use Rattle.am_types.specs.declared.Op.{Op}
use Rattle.am_types.specs.declared.Change.{Change}
use Rattle.am_types.specs.declared.Row.{Row}
use Rattle.am_types.specs.declared.Meta.{Meta}
use Rattle.am_types.specs.declared.Table.{Table}
use Rattle.am_types.specs.declared.Key.TheVariants.{Elem}
use Rattle.am_types.specs.Same.{same_id}
use Rattle.am_types.specs.Members.{Member}
use Rattle.am_types.specs.Documents.{object_actors, key_actors, op_actors, actors}
use Rattle.am_laws.proofs.Ancestry.{Contains-from_filter}
use Rattle.am_histories.specs.Rebuilt.{ids, is_within, is_replaced_by, preds_at, slot_of, op_of, deletion, op_at, last_max, change_at, rebuilt_after, rebuilt}
use Rattle.am_histories.specs.Laws.{row_actors, table_actors}
use Rattle.am_histories.proofs.Sorted.{Contains-cases, Contains-here, Contains-there, Contains-none}
use Rattle.am_histories.proofs.Contained.{Contains-from_map, Contains-flat_map, Contains-from_flat_map}
use Rattle.am_histories.proofs.Restored.{Contains-from_each_once}

found_in : {X : Type 0} (p : X → Bool) (xs : List X) (x : X) → find p xs ≡ Some x → Contains xs x
found_in p [] x e = absurd (none-some x e)
found_in p (y ∷ ys) x e =
    let again : find p ys ≡ Some x → Contains ys x = found_in p ys x in
    elim (cases_Bool (p y)) [
      | inl t ↦ subst (Contains (y ∷ ys)) (same_Some y x (simp t at e)) (Contains-here y ys)
      | inr t ↦ Contains-there y x ys (again (simp t at e))
    ]

from_filter_map : {X Y : Type 0} (f : X → Option Y) (xs : List X) (y : Y) → Contains (filter_map f xs) y → (x : X) × Contains xs x × (f x ≡ Some y)
from_filter_map f [] y c = absurd (Contains-none y c)
from_filter_map {X} {Y} f (x ∷ xs) y c = go (f x) refl c (from_filter_map f xs y)
  where
    go : (o : Option Y) → f x ≡ o → Contains (cons_option o (filter_map f xs)) y → (Contains (filter_map f xs) y → (z : X) × Contains xs z × (f z ≡ Some y)) → (z : X) × Contains (x ∷ xs) z × (f z ≡ Some y)
    go None e d again = let r = again d in (r.0, Contains-there x r.0 xs r.1, r.2)
    go (Some v) e d again = elim (Contains-cases v y (filter_map f xs) d) [
      | inl s ↦ (x, Contains-here x xs, e ∙ ap Some s)
      | inr h ↦ let r = again h in (r.0, Contains-there x r.0 xs r.1, r.2)
    ]

module _ (rs : List Row) where
  rows_actors : List (List ℕ)
  rows_actors = flat_map row_actors rs

  in_rows : (r : Row) (a : List ℕ) → Contains rs r → Contains (row_actors r) a → Contains rows_actors a
  unfolding rows_actors
  in_rows r a c d = Contains-flat_map row_actors rs r a c d

  of_object : (r : Row) (a : List ℕ) → Contains rs r → Contains (object_actors r.obj) a → Contains rows_actors a
  of_object r a c d = in_rows r a c (Contains-append_left (object_actors r.obj ++ key_actors r.key) _ a (Contains-append_left (object_actors r.obj) (key_actors r.key) a d))

  of_key : (r : Row) (a : List ℕ) → Contains rs r → Contains (key_actors r.key) a → Contains rows_actors a
  of_key r a c d = in_rows r a c (Contains-append_left (object_actors r.obj ++ key_actors r.key) _ a (Contains-append_right (object_actors r.obj) (key_actors r.key) a d))

  of_id : (r : Row) → Contains rs r → Contains rows_actors r.id.actor
  of_id r c = in_rows r r.id.actor c (Contains-append_right (object_actors r.obj ++ key_actors r.key) _ r.id.actor (Contains-here r.id.actor (map (λ (i : OpId). i.actor) r.succs)))

  of_slot : (r : Row) (a : List ℕ) → Contains rs r → Contains (key_actors (slot_of r)) a → Contains rows_actors a
  of_slot r a c d = go r.insert refl
    where
      go : (b : Bool) → r.insert ≡ b → Contains rows_actors a
      go true e = elim (Contains-cases r.id.actor a [] (subst (λ b. Contains (key_actors (cond b (Elem r.id) r.key)) a) e d)) [
        | inl s ↦ subst (Contains rows_actors) s (of_id r c)
        | inr n ↦ absurd (Contains-none a n)
      ]
      go false e = of_key r a c (subst (λ b. Contains (key_actors (cond b (Elem r.id) r.key)) a) e d)

  of_preds : (i : OpId) (a : List ℕ) → Contains (map (λ (j : OpId). j.actor) (preds_at rs i)) a → Contains rows_actors a
  of_preds i a c =
      let j = Contains-from_map (λ (j : OpId). j.actor) (preds_at rs i) a c in
      let r = Contains-from_map (λ (r : Row). r.id) (filter (is_replaced_by i) rs) j.0 (Contains-from_each_once _ j.0 j.1) in
      let f = Contains-from_filter (is_replaced_by i) rs r.0 r.1 in
      subst (Contains rows_actors) (ap (λ (k : OpId). k.actor) r.2 ∙ j.2) (of_id r.0 f.0)

  of_op : (i : OpId) (op : Op) (a : List ℕ) → op_at rs i ≡ Some op → Contains (op_actors op) a → Contains rows_actors a
  of_op i op a e c = go (find (λ r. same_id r.id i) rs) refl (find (is_replaced_by i) rs) refl e
    where
      parts : (obj key : List (List ℕ)) → Contains ((obj ++ key) ++ map (λ (j : OpId). j.actor) (preds_at rs i)) a
          → (Contains obj a → Contains rows_actors a) → (Contains key a → Contains rows_actors a) → Contains rows_actors a
      parts obj key d f g = elim (Contains-append_cases (obj ++ key) _ a d) [
        | inl h ↦ elim (Contains-append_cases obj key a h) [ inl k ↦ f k | inr k ↦ g k ]
        | inr h ↦ of_preds i a h
      ]

      go : (o : Option Row) → find (λ r. same_id r.id i) rs ≡ o → (p : Option Row) → find (is_replaced_by i) rs ≡ p
          → option_or (option_map (op_of (preds_at rs i)) o) (option_map (deletion (preds_at rs i)) p) ≡ Some op → Contains rows_actors a
      go (Some r) f p g e =
          let is : op ≡ op_of (preds_at rs i) r = sym (same_Some _ op e) in
          let there = found_in (λ r. same_id r.id i) rs r f in
          parts (object_actors r.obj) (key_actors r.key) (subst (λ (x : Op). Contains (op_actors x) a) is c) (of_object r a there) (of_key r a there)
      go None f (Some r) g e =
          let is : op ≡ deletion (preds_at rs i) r = sym (same_Some _ op e) in
          let there = found_in (is_replaced_by i) rs r g in
          parts (object_actors r.obj) (key_actors (slot_of r)) (subst (λ (x : Op). Contains (op_actors x) a) is c) (of_object r a there) (of_slot r a there)
      go None f None g e = absurd (none-some op e)

  of_change : (B : List Member) (meta : Meta) (a : List ℕ) → Contains (flat_map op_actors (change_at rs B meta).ops) a → Contains rows_actors a
  of_change B meta a c =
      let o = Contains-from_flat_map op_actors (change_at rs B meta).ops a c in
      let i = from_filter_map (op_at rs) (filter (is_within meta.actor (last_max B meta.actor) meta.max) (ids rs)) o.0 o.1 in
      of_op i.0 o.0 a i.2 o.2

  of_all : (hash_of : Change → Hash) (B : List Member) (metas : List Meta) (a : List ℕ) → Contains (actors (rebuilt_after hash_of rs B metas)) a → Contains (map (λ (m : Meta). m.actor) metas) a ⊎ Contains rows_actors a
  of_all hash_of B [] a c = absurd (Contains-none a c)
  of_all hash_of B (meta ∷ metas) a c =
      let b : Change = change_at rs B meta in
      let m : Member = record { hash = hash_of b; change = b } in
      let again : Contains (actors (rebuilt_after hash_of rs (B ++ m ∷ []) metas)) a → Contains (map (λ (m : Meta). m.actor) metas) a ⊎ Contains rows_actors a = of_all hash_of (B ++ m ∷ []) metas a in
      elim (Contains-append_cases (meta.actor ∷ flat_map op_actors b.ops) (actors (rebuilt_after hash_of rs (B ++ m ∷ []) metas)) a c) [
        | inl d ↦ elim (Contains-cases meta.actor a (flat_map op_actors b.ops) d) [
          | inl e ↦ inl (subst (Contains (map (λ (m : Meta). m.actor) (meta ∷ metas))) e (Contains-here meta.actor (map (λ (m : Meta). m.actor) metas)))
          | inr e ↦ inr (of_change B meta a e)
        ]
        | inr d ↦ elim (again d) [ inl e ↦ inl (Contains-there meta.actor a (map (λ (m : Meta). m.actor) metas) e) | inr e ↦ inr e ]
      ]

pub actors_named : (hash_of : Change → Hash) (t : Table) (a : List ℕ) → Contains (actors (rebuilt hash_of t)) a → Contains (table_actors t) a
unfolding rebuilt rows_actors
actors_named hash_of t a c = elim (of_all t.rows hash_of [] t.metas a c) [
  | inl d ↦ Contains-append_left (map (λ (m : Meta). m.actor) t.metas) _ a d
  | inr d ↦ Contains-append_right (map (λ (m : Meta). m.actor) t.metas) _ a d
]
