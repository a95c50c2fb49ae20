use Rattle.std.proofs.Common.{◌≡◌, ◌↔◌, ◌⊎◌, ◌+◌, ◌==◌, ◌&&◌, ◌||◌, ℕ, [], Result, Ok, Err, OnOk, List, Contains, count_by, option_map, unwrap_or, vec_items, sym, ap, ◌∙◌, subst, inl, inr, BTreeSet}
use Rattle.std.specs.List.{list_any}
use Rattle.std.specs.Map.{count_at}
use Rattle.std.specs.BTreeSet.{contains}
use Rattle.std.specs.HashMap.{get}
use Rattle.std.proofs.lemmas.Bool.{or_cases, and_parts, and_from, or_left, or_right, eqb-true, eq-eqb, false_from_ne_true}
use Rattle.std.proofs.lemmas.Map.Views.{btree_set_contains_iff}
use Rattle.am_types.specs.declared.Hash.{Hash}
use Rattle.am_types.specs.Order.{hash_cmp, same}
use Rattle.am_types.proofs.Orders.{hash_total, hash_exact, same_hash-true}
use Rattle.am_delivery.proofs.Members.{among_from, from_among}
use Rattle.am_delivery.specs.Views.{is_equal, tracker}
use Rattle.am_delivery.proofs.pending.Pending.release.Goals as goal

both_ok : {T E : Type 0} (r : Result T E) (P Q R : Type 0) → (P → Q → R) → OnOk r P → OnOk r Q → OnOk r R
both_ok (Ok x) P Q R f p q = f p q
both_ok (Err e) P Q R f p q = tt

-- a set's test as membership
module _ (old new : BTreeSet Hash) (ws : List Hash) (n : Hash → ℕ) (says : (g : Hash) → contains hash_cmp new g ≡ (contains hash_cmp old g || list_any (same hash_cmp g) ws && n g == 0)) where
  told : (g : Hash) → Contains new.keys g ↔ (Contains old.keys g ⊎ (Contains ws g × (n g ≡ 0)))
  told g =
      let is_new = btree_set_contains_iff hash_total hash_exact new g in
      let is_old = btree_set_contains_iff hash_total hash_exact old g in (
        λ c. elim (or_cases (contains hash_cmp old g) (list_any (same hash_cmp g) ws && n g == 0) (sym (says g) ∙ is_new.1 c)) [
          | inl o ↦ inl (is_old.0 o)
          | inr b ↦ let p = and_parts (list_any (same hash_cmp g) ws) (n g == 0) b in inr (from_among ws g p.0, eqb-true (n g) 0 p.1)
        ],
        λ c. is_new.0 (says g ∙ elim c [
          | inl o ↦ or_left _ _ (is_old.1 o)
          | inr b ↦ or_right (contains hash_cmp old g) _ (and_from _ _ (among_from ws g b.0) (eq-eqb (n g) 0 b.1))
        ]),
      )

pub returns : goal.returns
returns c =
    let h = c.args.h.now in
    let ws = c.as_slice.result.now in
    let named : ws ≡ (tracker c.args.self.now).waiting_for h = c.as_slice.ensures.value ∙ ap (λ o. unwrap_or (option_map vec_items o) []) (sym c.in-Some.is ∙ c.remove.ensures.value) in
    both_ok c.release.result _ _ _
    (λ counts ready. record {
      counts = λ g. subst (λ l. count_at (get is_equal c.release.new.missing) g + count_by (same hash_cmp g) l ≡ count_at (get is_equal c.args.self.now.missing) g) named (counts g);
      names = λ g ne. ap (λ o. unwrap_or (option_map vec_items o) []) (c.remove.ensures.updates.2 g (false_from_ne_true _ (λ t. ne (sym (same_hash-true h g t)))));
      ready = λ g. subst (λ l. Contains c.release.new.ready.keys g ↔ (Contains c.args.self.now.ready.keys g ⊎ (Contains l g × (count_at (get is_equal c.release.new.missing) g ≡ 0)))) named
          (told c.args.self.now.ready c.release.new.ready ws (count_at (get is_equal c.release.new.missing)) ready g);
    })
    c.release.ensures.counts c.release.ensures.ready
