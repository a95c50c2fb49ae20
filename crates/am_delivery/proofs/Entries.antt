-- The waiting changes of a map enter the tracker one by one.
use Rattle.std.proofs.Common.{ℕ, ◌≡◌, ◌↔◌, ◌⊎◌, ◌==◌, ◌&&◌, ◌||◌, List, [], ◌∷◌, ◌++◌, length, map, filter, true, false, sym, ap, ◌∙◌, subst, inl, inr, Contains, BTreeSet, BTreeMap}
use Rattle.std.specs.Global.{Box}
use Rattle.std.specs.BTreeMap.{IsOrdered}
use Rattle.std.specs.BTreeSet.{contains}
use Rattle.std.proofs.lemmas.Bool.{or_cases, and_parts, and_from, or_left, or_right, eqb-true, eq-eqb}
use Rattle.std.proofs.lemmas.List.{map-append}
use Rattle.std.proofs.lemmas.Map.Views.{btree_set_contains_iff}
use Rattle.am_types.specs.declared.Hash.{Hash}
use Rattle.am_types.specs.declared.Change.{Change}
use Rattle.am_types.specs.Order.{hash_cmp, same}
use Rattle.am_types.specs.Fine.{Fine}
use Rattle.am_types.specs.Members.{Member, holds}
use Rattle.am_types.proofs.Orders.{hash_total, hash_exact, same_hash-true, same_hash_itself}
use Rattle.am_delivery.specs.Tracking.{Tracker, Tracks}
use Rattle.am_delivery.specs.Waiting.{member_of, members_of, unboxed, waiting_of}
use Rattle.am_delivery.proofs.Members.{Once, fresh_from_once, once_from_distinct}
use Rattle.am_delivery.proofs.Tracking.{deps_apart, enters_tracks}
use Rattle.am_delivery.proofs.Entering.{absent, enters}
use Rattle.am_delivery.proofs.Steps.{distinct}

-- a set's test as membership
module _ (old new : BTreeSet Hash) (h : Hash) (n : ℕ) (says : (g : Hash) → contains hash_cmp new g ≡ (contains hash_cmp old g || same hash_cmp h g && n == 0)) where
  pub told : (g : Hash) → Contains new.keys g ↔ (Contains old.keys g ⊎ ((g ≡ h) × (n ≡ 0)))
  told g =
      let is_new = btree_set_contains_iff hash_total hash_exact new g in
      let is_old = btree_set_contains_iff hash_total hash_exact old g in (
        λ c. elim (or_cases (contains hash_cmp old g) (same hash_cmp h g && n == 0) (sym (says g) ∙ is_new.1 c)) [
          | inl o ↦ inl (is_old.0 o)
          | inr b ↦ let p = and_parts (same hash_cmp h g) (n == 0) b in inr (sym (same_hash-true h g p.0), eqb-true n 0 p.1)
        ],
        λ c. is_new.0 (says g ∙ elim c [
          | inl o ↦ or_left _ _ (is_old.1 o)
          | inr b ↦ or_right (contains hash_cmp old g) _ (and_from _ _ (subst (λ k. same hash_cmp h k ≡ true) (sym b.0) (same_hash_itself h)) (eq-eqb n 0 b.1))
        ]),
      )

-- the next entry of an ordered map is fresh among those before it
pub next_is_fresh : (w : BTreeMap Hash (Box Change)) → IsOrdered hash_cmp w → (ys rest : List (Hash × Change)) (x : Hash × Change) → unboxed w.entries ≡ ys ++ x ∷ rest → holds (members_of ys) x.0 ≡ false
next_is_fresh w ordered ys rest x e =
    let split : waiting_of w ≡ members_of ys ++ member_of x ∷ members_of rest = ap members_of e ∙ map-append member_of ys (x ∷ rest) in
    fresh_from_once (members_of ys) (member_of x) (members_of rest) (subst Once split (once_from_distinct (waiting_of w) (distinct w ordered)))

pub enters_next : (C : List Member) (ys : List (Hash × Change)) (t u : Tracker) → Tracks C (members_of ys) t → (x : Hash × Change) → holds (members_of ys) x.0 ≡ false → Fine x.1
    → (lacks : List Hash) → lacks ≡ absent C x.1
    → u.missing x.0 ≡ length lacks
    → ((g : Hash) → same hash_cmp x.0 g ≡ false → u.missing g ≡ t.missing g)
    → ((d : Hash) → u.waiting_for d ≡ t.waiting_for d ++ map (λ g. x.0) (filter (same hash_cmp d) lacks))
    → ((g : Hash) → Contains u.ready g ↔ (Contains t.ready g ⊎ ((g ≡ x.0) × (length lacks ≡ 0))))
    → Tracks C (members_of (ys ++ x ∷ [])) u
enters_next C ys t u tracks x fresh fine lacks is count others names ready =
    let m = member_of x in
    let entered = enters C (members_of ys) t u tracks m fresh (deps_apart x.1 fine)
    (count ∙ ap length is) others
    (λ d. names d ∙ ap (λ l. t.waiting_for d ++ map (λ (g : Hash). x.0) (filter (same hash_cmp d) l)) is)
    (λ g. subst (λ l. Contains u.ready g ↔ (Contains t.ready g ⊎ ((g ≡ x.0) × (length l ≡ 0)))) is (ready g)) in
    subst (λ W. Tracks C W u) (sym (map-append member_of ys (x ∷ []))) (enters_tracks C (members_of ys) t tracks m fresh u entered)
