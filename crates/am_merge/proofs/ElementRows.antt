-- The rows of elements in the smaller set, among the new operations, and in the larger set.
use Rattle.std.proofs.Common.{suc, ◌≡◌, ◌≢◌, List, [], ◌∷◌, ◌++◌, map, true, false, None, refl, sym, ap, ◌∙◌, subst, Contains, arith}
use Rattle.std.specs.Ordering.{is_gt}
use Rattle.std.specs.declared.cmp.Ordering.{Ordering}
use Rattle.std.specs.declared.cmp.Ordering.TheVariants.{Less}
use Rattle.std.proofs.lemmas.Bool.{and_parts}
use Rattle.std.proofs.lemmas.List.Elements.{Contains-append_right}
use Rattle.std.proofs.lemmas.List.Sorted.{Contains-permutation, IsPermutation-sym}
use Rattle.am_types.specs.declared.OpId.{OpId}
use Rattle.am_types.specs.declared.ObjId.{ObjId}
use Rattle.am_types.specs.declared.ObjId.TheVariants.{Root}
use Rattle.am_types.specs.declared.Key.{Key}
use Rattle.am_types.specs.declared.Key.TheVariants.{Name, Head, Elem}
use Rattle.am_types.specs.declared.Row.{Row}
use Rattle.am_types.specs.Fine.{IsListPlace}
use Rattle.am_types.specs.Order.{id_cmp}
use Rattle.am_types.specs.Same.{same_object}
use Rattle.am_types.specs.Operations.{Operation, operation_cmp, ascending, DistinctIds}
use Rattle.am_types.specs.Members.{Member}
use Rattle.am_types.specs.ValidSets.{Valid}
use Rattle.am_types.specs.Elements.{elements, insertions}
use Rattle.am_types.proofs.Lists.{Contains-head}
use Rattle.am_types.proofs.SameLaws.{same_object-true}
use Rattle.am_laws.proofs.DistinctOperations.{distinct_ids_valid}
use Rattle.am_laws.proofs.Following.{follow_references}
use Rattle.am_laws.proofs.References.{fine_op, refers}
use Rattle.am_laws.proofs.ValidSetLaws.{grounds_valid}
use Rattle.am_merge.specs.Laws.{operations_of}
use Rattle.am_merge.specs.Merge.{extended, merge}
use Rattle.am_merge.specs.Plans.{Slot, new_in}
use Rattle.am_merge.specs.Walk.{name_in}
use Rattle.am_merge.proofs.Hanging.{vals, is_value}
use Rattle.am_merge.proofs.Larger.{extends, pairs_across}
use Rattle.am_merge.proofs.ListWalk.{IsElement, IsInto}
use Rattle.am_merge.proofs.PlanLaws.{by_id}
use Rattle.am_merge.proofs.SlotLaws.{from_map}
use Rattle.am_merge.proofs.SlotRows.{new_in_is, extended_ascending, new_row_ascending, slot_merged, values_alone, insertion_first}
use Rattle.am_merge.proofs.Sorts.{Contains-from_sorted_by}
use Rattle.am_merge.proofs.StackLaw.{operations_both, inserted, is_inserted}
use Rattle.am_merge.proofs.Chains.{insertion_stays}
use Rattle.am_merge.proofs.Within.{row, stays}

abbrev pub first_row : List Row → Row
first_row [] = record { obj = Root; key = Head; id = record { counter = 0; actor = [] }; insert = false; action = 0; value = record { kind = 0; raw = [] }; succs = []; expand = false; mark = None }
first_row (r ∷ rs) = r

low_first : (a : Row) (os bs : List Row) → ((b : Row) → Contains bs b → is_gt (id_cmp a.id b.id) ≡ false) → merge by_id (a ∷ os) bs ≡ a ∷ merge by_id os bs
low_first a os [] h = refl
low_first a os (b ∷ bs) h = let f = h b (Contains-head b bs) in simp f refl

not_above : (r : Ordering) → r ≡ Less → is_gt r ≡ false
not_above r e = rw e refl

nameless : (k : Key) → IsListPlace k → name_in k ≡ []
nameless (Name n) p = absurd p
nameless Head p = refl
nameless (Elem e) p = refl

-- of a valid set
module _ (D : List Member) (v : Valid D) where
  abbrev A : List Operation
  A = operations_of D

  pub record Inserts (o : ObjId) (x : Operation) : Type 0 where
    pub among : Contains (operations_of D) x
    pub obj : x.op.obj ≡ o
    pub inserts : x.op.insert ≡ true
    pub nameless : name_in x.op.key ≡ []
    pub shown : stays x ≡ true

  pub insertion_is : (o : ObjId) (x : Operation) → Contains (insertions (operations_of D) o) x → Inserts o x
  insertion_is o x c =
      let i = inserted A o x c in
      let p = and_parts x.op.insert (same_object x.op.obj o) i.into_it in
      record {
        among = i.among;
        obj = same_object-true x.op.obj o p.1;
        inserts = p.0;
        nameless = nameless x.op.key ((fine_op D (grounds_valid D v) x i.among).insertion p.0).place;
        shown = insertion_stays D v o x c;
      }

  pub insertion_of : (o : ObjId) (f : OpId) → Contains (elements (operations_of D) o) f → (x : Operation) × Contains (insertions (operations_of D) o) x × (x.id ≡ f)
  insertion_of o f c =
      from_map (λ (x : Operation). x.id) (insertions A o) f
      (Contains-permutation (elements A o) (map (λ (x : Operation). x.id) (insertions A o)) f (IsPermutation-sym (map (λ (x : Operation). x.id) (insertions A o)) (elements A o) (follow_references D v o).ids) c)

  pub value_above : (e : OpId) (y : Operation) → Contains (operations_of D) y → y.op.key ≡ Elem e → id_cmp e y.id ≡ Less
  value_above e y c k = (refers D (grounds_valid D v) y c e k).lower

module _ (C E : List Member) (v : Valid C) (w : Valid (C ++ E)) (o : ObjId) where
  abbrev S : List Operation
  S = operations_of C

  abbrev N : List Operation
  N = operations_of E

  abbrev T : List Operation
  T = operations_of (C ++ E)

  distinct : DistinctIds (S ++ N)
  distinct = subst DistinctIds (operations_both C E) (distinct_ids_valid (C ++ E) w)

  pub apart : (x y : Operation) → Contains (operations_of C) x → Contains (operations_of E) y → x.id ≢ y.id
  apart x y cx cy = pairs_across (λ (x y : Operation). x.id ≢ y.id) S N distinct x y cx cy

  distinct_right : (xs ys : List Operation) → DistinctIds (xs ++ ys) → DistinctIds ys
  distinct_right [] ys d = d
  distinct_right (x ∷ xs) ys d = distinct_right xs ys (λ i j k p q. d (suc i) (suc j) k (omega arith) (omega arith))

  pub distinct_new : DistinctIds (operations_of E)
  distinct_new = distinct_right S N distinct

  pub new_inside : (y : Operation) → Contains (operations_of E) y → Contains (operations_of (C ++ E)) y
  new_inside y c = subst (λ l. Contains l y) (sym (operations_both C E)) (Contains-append_right S N y c)

  pub slot_is : (s : Slot) → new_in (operations_of (C ++ E)) s ≡ merge by_id (map (extended (operations_of E)) (new_in (operations_of C) s)) (new_in (operations_of E) s)
  slot_is s = ap (λ A. new_in A s) (operations_both C E) ∙ slot_merged _ S N (extends C E v w) s

  abbrev pub own : OpId → Row
  own f = first_row (new_in (operations_of C) (o, Elem f))

  abbrev pub olds : OpId → List Row
  olds f = map (row (operations_of C)) (vals (operations_of C) o f)

  abbrev pub outs : OpId → List Row
  outs e = new_in (operations_of (C ++ E)) (o, Elem e)

  -- the new rows of an old element are values
  new_values : (x : Operation) → Contains S x → new_in N (o, Elem x.id) ≡ map (row N) (vals N o x.id)
  new_values x c = new_in_is N (o, Elem x.id) ∙ ap (map (row N)) (values_alone N o x.id (λ y cy t e. apart x y c cy (sym e)))

  pub old_rows : (x : Operation) → Contains (insertions S o) x → new_in S (o, Elem x.id) ≡ row S x ∷ map (row S) (vals S o x.id)
  old_rows x c =
      let i = insertion_is C v o x c in
      new_in_is S (o, Elem x.id)
      ∙ ap (map (row S)) (insertion_first S o x (inserted S o x c).into_it i.shown i.among (distinct_ids_valid C v) (λ y cy k. value_above C v x.id y cy k))

  old_element : (x : Operation) → Contains (insertions S o) x → IsElement N o outs (own x.id) (olds x.id) x.id
  old_element x c =
      let i = insertion_is C v o x c in
      let rows_are = old_rows x c in
      let own_is : own x.id ≡ row S x = ap first_row rows_are in
      let value_at : (r : Row) → Contains (olds x.id) r → (y : Operation) × Contains (vals S o x.id) y × (row S y ≡ r) = λ r d. from_map (row S) (vals S o x.id) r d in
      let grown : outs x.id ≡ extended N (row S x) ∷ merge by_id (map (extended N) (olds x.id)) (map (row N) (vals N o x.id)) =
      slot_is (o, Elem x.id)
      ∙ (λ j. merge by_id (map (extended N) (rows_are j)) (new_values x i.among j))
      ∙ low_first (extended N (row S x)) (map (extended N) (olds x.id)) (map (row N) (vals N o x.id))
      (λ b d. let f = from_map (row N) (vals N o x.id) b d in
      let u = is_value N o x.id f.0 f.1 in
      let z : Operation = f.0 in
      subst (λ (q : Row). is_gt (id_cmp x.id q.id) ≡ false) f.2
      (not_above (id_cmp x.id z.id) (value_above (C ++ E) w x.id z (new_inside z (Contains-from_sorted_by operation_cmp N z u.among)) u.key))) in
      record {
        id = ap (λ (r : Row). r.id) own_is;
        obj = ap (λ (r : Row). r.obj) own_is ∙ i.obj;
        inserts = ap (λ (r : Row). r.insert) own_is ∙ i.inserts;
        nameless = ap (λ (r : Row). name_in r.key) own_is ∙ i.nameless;
        olds_obj = λ r d. let f = value_at r d in subst (λ (q : Row). q.obj ≡ o) f.2 (is_value S o x.id f.0 f.1).obj;
        olds_plain = λ r d. let f = value_at r d in subst (λ (q : Row). q.insert ≡ false) f.2 (is_value S o x.id f.0 f.1).plain;
        olds_key = λ r d. let f = value_at r d in subst (λ (q : Row). q.key ≡ Elem x.id) f.2 (is_value S o x.id f.0 f.1).key;
        rows =
            let first : extended (ascending N) (own x.id) ≡ extended N (row S x) = extended_ascending N (own x.id) ∙ ap (extended N) own_is in
            grown ∙ sym (λ j. first j ∷ merge by_id (map (λ r. extended_ascending N r j) (olds x.id)) (map (λ y. new_row_ascending N y j) (vals N o x.id)));
      }

  pub element_is : (f : OpId) → Contains (elements (operations_of C) o) f → IsElement (operations_of E) o outs (own f) (olds f) f
  element_is f c =
      let i = insertion_of C v o f c in
      subst (λ e. IsElement N o outs (own e) (olds e) e) i.2 (old_element i.0 i.1)

  -- an old element has no rows in the slot of a new one
  no_old_rows : (y : Operation) → Contains N y → new_in S (o, Elem y.id) ≡ []
  no_old_rows y cy =
      new_in_is S (o, Elem y.id)
      ∙ ap (map (row S)) (
      values_alone S o y.id (λ x cx t e. apart x y cx cy e)
      ∙ none (vals S o y.id) (λ z d.
      let u = is_value S o y.id z d in
      let r = refers C (grounds_valid C v) z (Contains-from_sorted_by operation_cmp S z u.among) y.id u.key in
      apart r.insertion y r.is_among cy r.has_id))
    where
      none : (zs : List Operation) → ((z : Operation) → Contains zs z → ⊥) → zs ≡ []
      none [] h = refl
      none (z ∷ zs) h = absurd (h z (Contains-head z zs))

  pub insertion_into : (y : Operation) → Contains (insertions (operations_of E) o) y → IsInto (operations_of E) o outs y
  insertion_into y c =
      let n = inserted N o y c in
      let i = insertion_is (C ++ E) w o y (is_inserted T o y (new_inside y n.among) n.into_it) in
      let mine : new_in N (o, Elem y.id) ≡ row N y ∷ map (row N) (vals N o y.id) =
      new_in_is N (o, Elem y.id)
      ∙ ap (map (row N)) (insertion_first N o y n.into_it i.shown n.among (distinct_right S N distinct) (λ z cz k. value_above (C ++ E) w y.id z (new_inside z cz) k)) in
      record {
        obj = i.obj;
        inserts = i.inserts;
        nameless = i.nameless;
        rows = slot_is (o, Elem y.id) ∙ (λ j. merge by_id (map (extended N) (no_old_rows y n.among j)) (mine j))
            ∙ sym (λ j. new_row_ascending N y j ∷ map (λ z. new_row_ascending N z j) (vals N o y.id));
      }
