-- A valid set with a valid part that is listed first: its rows, and what tells the part.
use Rattle.std.proofs.Common.{suc, ◌≡◌, ◌&&◌, List, [], ◌∷◌, ◌++◌, Bool, true, false, not, ◌==◌, sym, ap, ◌∙◌, subst, inl, inr, All, AllPairs, Contains, arith}
use Rattle.std.proofs.lemmas.Bool.{both_ways, false_from_ne_true, and_parts}
use Rattle.std.proofs.lemmas.List.Elements.{All-contains, All-map, Contains-append_right}
use Rattle.std.proofs.lemmas.List.Folds.{Any-from_list_any}
use Rattle.std.proofs.lemmas.List.Sums.{AllPass-from_list_all}
use Rattle.am_types.specs.declared.OpId.{OpId}
use Rattle.am_types.specs.declared.Hash.{Hash}
use Rattle.am_types.specs.Actions as actions
use Rattle.am_types.specs.Order.{id_cmp, same}
use Rattle.am_types.specs.Same.{same_id, same_object, same_key}
use Rattle.am_types.specs.Operations.{Operation, slot, OneOperationPerId}
use Rattle.am_types.specs.Members.{Member, hashes, holds}
use Rattle.am_types.specs.Ancestors.{is_named, ancestor_hashes, ancestors}
use Rattle.am_types.specs.References.{pred_known}
use Rattle.am_types.specs.ValidSets.{Valid}
use Rattle.am_types.specs.Elements.{elements, part, RespectsReferences}
use Rattle.am_types.specs.Clocks.{covers}
use Rattle.am_types.specs.Rows.{rows}
use Rattle.am_laws.proofs.Ancestry.{ancestors_named, Contains-from_filter}
use Rattle.am_laws.proofs.Agreement.{held_member}
use Rattle.am_laws.proofs.Covered.{filter_whole, covers_told, to_ancestors, operations_part, anchored}
use Rattle.am_laws.proofs.DistinctIds.{ancestor_is_member, operation_of}
use Rattle.am_laws.proofs.Grounds.{Grounds, placed}
use Rattle.am_laws.proofs.Growth.{ancestors_stay}
use Rattle.am_laws.proofs.Listed.{holds_own}
use Rattle.am_laws.proofs.ListingLaws.{one_per_id}
use Rattle.am_types.proofs.Lists.{all_of}
use Rattle.am_types.proofs.Orders.{same_id-true}
use Rattle.am_laws.proofs.References.{operation_in}
use Rattle.am_laws.proofs.Rules.{distinct_hashes}
use Rattle.am_laws.proofs.SameMembers.{Contains-cons_cases}
use Rattle.am_laws.proofs.ValidSetLaws.{grounds_valid}
use Rattle.am_merge.specs.Laws.{operations_of}
use Rattle.am_merge.specs.Merge.{rows_within, merged}
use Rattle.am_merge.proofs.StackLaw.{operations_both}
use Rattle.am_merge.proofs.Within.{names, rows_part}
use Rattle.am_merge.proofs.RowsMerged.{Extends, rows_merged}

-- of one in the first list and one in the second
pub pairs_across : {X : Type 0} (R : X → X → Type 0) (xs ys : List X) → AllPairs R (xs ++ ys) → (x y : X) → Contains xs x → Contains ys y → R x y
pairs_across R [] ys all x y cx cy = absurd (omega (arith, cx.1))
pairs_across R (z ∷ xs) ys all x y cx cy =
    elim (Contains-cons_cases z xs x cx) [
      | inl e ↦ let c = Contains-append_right xs ys y cy in
          let l = c.1 in
          subst (λ w. R w y) e (subst (R z) c.2 (all 0 (suc c.0) y (omega arith) (omega arith)))
      | inr d ↦ pairs_across R xs ys (λ i j k p q. all (suc i) (suc j) k (omega arith) (omega arith)) x y d cy
    ]

-- each member is its own ancestor
ancestors_whole : (C : List Member) → ancestors C (hashes C) ≡ C
unfolding ancestors
ancestors_whole C =
    filter_whole (is_named (ancestor_hashes C (hashes C))) C
    (λ m c. (Contains-from_filter (is_named (ancestor_hashes C (hashes C))) C m (ancestors_named C (hashes C) m c (holds_own C m c))).1)

-- what an operation of a set names is there
named_at : (C : List Member) → Grounds C → (y : Operation) → Contains (operations_of C) y → (i : OpId) → names y i ≡ true → (z : Operation) × Contains (operations_of C) z × (z.id ≡ i)
named_at C g y cy i t =
    let p = placed C g y cy in
    let all = AllPass-from_list_all (pred_known p.before.seen y) y.op.preds (and_parts _ _ p.before.good).1 in
    let n = Any-from_list_any (same id_cmp i) y.op.preds t in
    let known : pred_known p.before.seen y n.1 ≡ true = All-contains (λ j. pred_known p.before.seen y j ≡ true) y.op.preds n.1 all (n.0, n.2, n.3) in
    let a = Any-from_list_any (λ z. same_id z.id n.1 && not (z.op.action == actions.del) && same_object z.op.obj y.op.obj && same_key (slot z) (slot y)) p.before.seen known in
    let z = a.1 in
    let first = and_parts _ _ (and_parts _ _ (and_parts _ _ a.4).0).0 in (
      z,
      elim (p.before.from z (a.0, a.2, a.3)).0 [
        | inl k ↦ let o = operation_of (ancestors C p.of.change.deps) z k in operation_in C o.0 z (ancestor_is_member C p.of.change.deps o.0 o.1) o.2
        | inr o ↦ operation_in C p.of z p.is_member o
      ],
      same_id-true z.id n.1 first.0 ∙ sym (same_id-true i n.1 n.4),
    )

module _ (C E : List Member) (v : Valid C) (w : Valid (C ++ E)) where
  abbrev D : List Member
  D = C ++ E

  abbrev hs : List Hash
  hs = hashes C

  g : Grounds C
  g = grounds_valid C v

  d : Grounds (C ++ E)
  d = grounds_valid (C ++ E) w

  pub one_apart : (m : Member) → Contains E m → holds C m.hash ≡ false
  one_apart m c = false_from_ne_true (holds C m.hash) (λ t.
      let n = held_member C m.hash t in
      pairs_across (λ (x y : Member). x.hash ≡ y.hash → ⊥) C E (distinct_hashes (C ++ E) w) n.0 m n.1 c n.2)

  pub apart : All (λ m. holds C m.hash ≡ false) E
  apart = all_of (λ m. holds C m.hash ≡ false) E one_apart

  held : All (λ h. holds C h ≡ true) hs
  held = All-map (λ h. holds C h ≡ true) (λ (m : Member). m.hash) C (all_of (λ (m : Member). holds C m.hash ≡ true) C (holds_own C))

  pub ancestors_old : ancestors (C ++ E) (hashes C) ≡ C
  ancestors_old = ancestors_stay C E hs g.facts.closed held apart ∙ ancestors_whole C

  abbrev q : OpId → Bool
  q = covers (ancestors D hs)

  pub old_part : part (covers (ancestors (C ++ E) (hashes C))) (operations_of (C ++ E)) ≡ operations_of C
  old_part = sym (operations_part D d hs) ∙ ap (λ A. operations_of A) ancestors_old

  pub old_covered : (x : Operation) → Contains (operations_of C) x → covers (ancestors (C ++ E) (hashes C)) x.id ≡ true
  old_covered x c = (Contains-from_filter (λ (x : Operation). q x.id) (operations_of D) x (subst (λ l. Contains l x) (sym old_part) c)).1

  pub new_not : (x : Operation) → Contains (operations_of E) x → covers (ancestors (C ++ E) (hashes C)) x.id ≡ false
  new_not x c =
      let o = operation_of E x c in
      let m = o.0 in
      let cm : Contains D m = Contains-append_right C E m o.1 in
      covers_told D d hs m cm x o.2
      ∙ false_from_ne_true _ (λ t. both_ways (holds C m.hash) (one_apart m o.1)
      (holds_own C m (subst (λ A. Contains A m) ancestors_old (to_ancestors D d hs m cm t))))

  pub extends : Extends (covers (ancestors (C ++ E) (hashes C))) (operations_of C) (operations_of E)
  extends = record {
    one = subst (λ T. OneOperationPerId T) (operations_both C E) (one_per_id D w);
    respects = subst (λ T. RespectsReferences q T) (operations_both C E) (anchored D d hs);
    old = old_covered;
    new = new_not;
    unnamed = λ x y cx cy. false_from_ne_true _ (λ t.
        let n = named_at C g y cy x.id t in
        both_ways (q x.id) (new_not x cx) (subst (λ i. q i ≡ true) n.2 (old_covered n.0 n.1)));
  }

  pub rows_grown : rows (operations_of (C ++ E)) ≡ merged (elements (operations_of (C ++ E))) (rows (operations_of C)) (operations_of E)
  rows_grown =
      ap rows (operations_both C E) ∙ rows_merged q (operations_of C) (operations_of E) extends
      ∙ ap (λ T. merged (elements T) (rows (operations_of C)) (operations_of E)) (sym (operations_both C E))

  pub rows_of_old : rows_within (covers C) (rows (operations_of (C ++ E))) ≡ rows (operations_of C)
  rows_of_old =
      ap (λ A. rows_within (covers A) (rows (operations_of D))) (sym ancestors_old)
      ∙ rows_part q (operations_of D) (anchored D d hs) ∙ ap rows old_part
