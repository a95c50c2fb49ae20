-- The walk over the rows of the smaller set gives those of the larger.
use Rattle.std.proofs.Common.{ℕ, suc, ◌≡◌, List, [], ◌∷◌, ◌++◌, map, true, false, refl, sym, ◌∙◌, subst, inl, inr, AllPairs, Contains, arith}
use Rattle.std.specs.List.{flat_map}
use Rattle.std.specs.declared.cmp.Ordering.TheVariants.{Less}
use Rattle.std.proofs.lemmas.Bool.{and_from, and_parts, false_from_ne_true}
use Rattle.std.proofs.lemmas.Cmp.{nat_list_cmp_total, tied_itself}
use Rattle.std.proofs.lemmas.List.Elements.{Contains-append_cases, Contains-append_left}
use Rattle.std.proofs.lemmas.List.Sorted.{Contains-permutation, IsPermutation-map, IsPermutation-sym}
use Rattle.std.proofs.lemmas.Map.Lookups.{exact_bytes}
use Rattle.am_types.specs.declared.ObjId.{ObjId}
use Rattle.am_types.specs.declared.ObjId.TheVariants.{Root}
use Rattle.am_types.specs.declared.Key.TheVariants.{Name, Head, Elem}
use Rattle.am_types.specs.declared.Row.{Row}
use Rattle.am_types.specs.Fine.{IsListPlace}
use Rattle.am_types.specs.Order.{bytes_cmp, object_cmp}
use Rattle.am_types.specs.Same.{same_object, same_key}
use Rattle.am_types.specs.Operations.{Operation, operation_cmp, ascending}
use Rattle.am_types.specs.Members.{Member}
use Rattle.am_types.specs.ValidSets.{Valid}
use Rattle.am_types.specs.Elements.{elements, insertions, inserts_into}
use Rattle.am_types.specs.Rows.{rows}
use Rattle.am_types.proofs.Lists.{Contains-head}
use Rattle.am_types.proofs.SameLaws.{same_object-true}
use Rattle.am_types.proofs.Sorting.{IsPermutation-sorted_by}
use Rattle.am_laws.proofs.Ancestry.{Contains-from_filter}
use Rattle.am_laws.proofs.References.{fine_op}
use Rattle.am_laws.proofs.ValidSetLaws.{grounds_valid}
use Rattle.am_merge.specs.Laws.{operations_of, WalksRows}
use Rattle.am_merge.specs.Merge.{slot_of_row}
use Rattle.am_merge.specs.Plans.{Slot, is_in, new_in}
use Rattle.am_merge.specs.Slots.{each_once, name_of}
use Rattle.am_merge.specs.Turns.{children, named_by}
use Rattle.am_merge.specs.Walk.{beginning, is_first, is_next, Walks, ends}
use Rattle.am_merge.proofs.Beginning.{IsProper, beginning_is, object_later}
use Rattle.am_merge.proofs.Chains.{insertion_stays}
use Rattle.am_merge.proofs.ElementRows.{distinct_new, new_inside}
use Rattle.am_merge.proofs.Grouped.{HasAll, group, in_names, in_elements, rows_grouped}
use Rattle.am_merge.proofs.Lists.{Contains-map}
use Rattle.am_merge.proofs.NameWalk.{operation_is_at}
use Rattle.am_merge.proofs.ObjectWalk.{at_names, front, heads, object_walks}
use Rattle.am_merge.proofs.Once.{Once, once-permutation, once_distinct}
use Rattle.am_merge.proofs.Places.{object_total, object_exact}
use Rattle.am_merge.proofs.SlotLaws.{Contains-flat_map, from_flat_map, once_ascends, once_has}
use Rattle.am_merge.proofs.SlotRows.{ops_in}
use Rattle.am_merge.proofs.SlotWalk.{is_before}
use Rattle.am_merge.proofs.Stack.{pushed_permutes}
use Rattle.am_merge.proofs.StackLaw.{operations_both, is_inserted}
use Rattle.am_merge.proofs.WalkOrder.{object_before, object_after}
use Rattle.am_merge.proofs.Walked.{walked_is}

-- ---- which object

row_object : (A : List Operation) (s : Slot) (r : Row) → Contains (new_in A s) r → r.obj ≡ s.0
row_object A s r c = same_object-true r.obj s.0 (and_parts (same_object r.obj s.0) (same_key (slot_of_row r) s.1) (Contains-from_filter (is_in s) _ r c).1).0

group_object : (A : List Operation) (ns : List (List ℕ)) (o : ObjId) (r : Row) → Contains (group A ns o) r → r.obj ≡ o
group_object A ns o r c = elim (Contains-append_cases (in_names A ns o) (in_elements A o) r c) [
  | inl d ↦ let f = from_flat_map (λ n. new_in A (o, Name n)) ns r d in row_object A (o, Name f.0) r f.2
  | inr d ↦ let f = from_flat_map (λ e. new_in A (o, Elem e)) (elements A o) r d in row_object A (o, Elem f.0) r f.2
]

front_object : (N : List Operation) (ns : List (List ℕ)) (o : ObjId) (x : Operation) → Contains (front N ns o) x → x.op.obj ≡ o
front_object N ns o x c = elim (Contains-append_cases (at_names N ns o) (heads N o) x c) [
  | inl d ↦ let f = from_flat_map (λ n. ops_in N (o, Name n)) ns x d in (operation_is_at N o f.0 x f.2).obj
  | inr d ↦ elim (Contains-append_cases (children Head (insertions N o)) [] x (Contains-permutation (heads N o) (children Head (insertions N o) ++ []) x (IsPermutation-sym (children Head (insertions N o) ++ []) (heads N o) (pushed_permutes (children Head (insertions N o)) [])) d)) [
    | inl e ↦ let f = Contains-from_filter (named_by Head) (insertions N o) x e in
        let g = Contains-from_filter (inserts_into o) (ascending N) x f.0 in
        same_object-true x.op.obj o (and_parts x.op.insert (same_object x.op.obj o) g.1).1
    | inr e ↦ absurd (omega (arith, e.1))
  ]
]

before_each : (y : Operation) (rs : List Row) → ((r : Row) → Contains rs r → is_next y r ≡ true) → is_before y rs ≡ true
before_each y [] h = refl
before_each y (r ∷ rs) h = h r (Contains-head r rs)

first_of_none : (r : Row) (zs : List Operation) → ((z : Operation) → Contains zs z → is_next z r ≡ false) → is_first zs r ≡ false
first_of_none r [] h = refl
first_of_none r (z ∷ zs) h = h z (Contains-head z zs)

module _ (C E : List Member) (v : Valid C) (w : Valid (C ++ E)) where
  abbrev S : List Operation
  S = operations_of C

  abbrev N : List Operation
  N = operations_of E

  abbrev T : List Operation
  T = operations_of (C ++ E)

  abbrev A : List Operation
  A = ascending (operations_of E)

  -- ---- object after object

  objects_walk : (ns : List (List ℕ)) → AllPairs (λ a b. bytes_cmp a b ≡ Less) ns → (os : List ObjId) → AllPairs (λ a b. object_cmp a b ≡ Less) os
      → Walks A (flat_map (group S ns) os) (flat_map (front N ns) os) (flat_map (group T ns) os)
  objects_walk ns names [] ascend = ends
  objects_walk ns names (o ∷ os) ascend =
      let less : (p : ObjId) → Contains os p → object_cmp o p ≡ Less = λ p c. subst (λ q. object_cmp o q ≡ Less) c.2 (ascend 0 (suc c.0) p (omega arith) (let l = c.1 in omega arith)) in
      object_walks C E v w o (flat_map (group S ns) os) (flat_map (front N ns) os) (flat_map (group T ns) os)
      (λ y e. before_each y (flat_map (group S ns) os) (λ r c.
      let f = from_flat_map (group S ns) os r c in
      let is = group_object S ns f.0 r f.2 in
      object_after r y ((λ i. object_cmp (is i) (e i)) ∙ object_later o f.0 (less f.0 f.1))))
      (λ r e. first_of_none r (flat_map (front N ns) os) (λ z c.
      let f = from_flat_map (front N ns) os z c in
      let is = front_object N ns f.0 z f.2 in
      object_before r z ((λ i. object_cmp (e i) (is i)) ∙ less f.0 f.1)))
      ns names
      (objects_walk ns names os (λ i j d p q. ascend (suc i) (suc j) d (omega arith) (omega arith)))

  -- ---- all objects and names

  abbrev os : List ObjId
  os = each_once object_cmp (map (λ x. x.op.obj) T)

  abbrev ns : List (List ℕ)
  ns = each_once bytes_cmp (flat_map (λ x. name_of x.op.key) T)

  os_ascend : AllPairs (λ a b. object_cmp a b ≡ Less) os
  os_ascend = once_ascends object_cmp object_total object_exact (map (λ x. x.op.obj) T)

  ns_ascend : AllPairs (λ a b. bytes_cmp a b ≡ Less) ns
  ns_ascend = once_ascends bytes_cmp nat_list_cmp_total (λ a b t. exact_bytes a b t) (flat_map (λ x. name_of x.op.key) T)

  objects_there : (x : Operation) → Contains T x → Contains os x.op.obj
  objects_there x c = once_has object_cmp object_total object_exact (map (λ x. x.op.obj) T) x.op.obj (Contains-map (λ (x : Operation). x.op.obj) T x c)

  names_there : (x : Operation) → Contains T x → (n : List ℕ) → x.op.key ≡ Name n → Contains ns n
  names_there x c n e =
      once_has bytes_cmp nat_list_cmp_total (λ a b t. exact_bytes a b t) (flat_map (λ x. name_of x.op.key) T) n
      (Contains-flat_map (λ (x : Operation). name_of x.op.key) T x n c (subst (λ k. Contains (name_of k) n) (sym e) (Contains-head n [])))

  old_inside : (x : Operation) → Contains S x → Contains T x
  old_inside x c = subst (λ l. Contains l x) (sym (operations_both C E)) (Contains-append_left S N x c)

  all_of_larger : HasAll T os ns
  all_of_larger = record { os_ascend = os_ascend; ns_ascend = ns_ascend; objects = objects_there; names = names_there }

  all_of_smaller : HasAll S os ns
  all_of_smaller = record { os_ascend = os_ascend; ns_ascend = ns_ascend; objects = λ x c. objects_there x (old_inside x c); names = λ x c n e. names_there x (old_inside x c) n e }

  proper : (x : Operation) → Contains N x → IsProper x
  proper x c =
      let fine = fine_op (C ++ E) (grounds_valid (C ++ E) w) x (new_inside C E v w x.op.obj x c) in
      record {
        at_name = λ n e. false_from_ne_true x.op.insert (λ t. subst IsListPlace e (fine.insertion t).place);
        at_front = fine.head;
        shown = λ t. insertion_stays (C ++ E) w x.op.obj x
            (is_inserted T x.op.obj x (new_inside C E v w x.op.obj x c) (and_from x.op.insert (same_object x.op.obj x.op.obj) t (rw (tied_itself object_total x.op.obj) refl)));
      }

  once : Once (map (λ x. x.id) A)
  once = once-permutation (map (λ (x : Operation). x.id) N) (map (λ (x : Operation). x.id) A) (IsPermutation-map (λ (x : Operation). x.id) N A (IsPermutation-sorted_by operation_cmp N)) (once_distinct N (distinct_new C E v w (Root)))

  walk : Walks A (rows S) (beginning A) (rows T)
  walk =
      let all : Walks A (flat_map (group S ns) os) (flat_map (front N ns) os) (flat_map (group T ns) os) = objects_walk ns ns_ascend os os_ascend in
      let stack : flat_map (front N ns) os ≡ beginning A =
      sym (beginning_is N os ns os_ascend ns_ascend once proper (λ x c. objects_there x (new_inside C E v w x.op.obj x c)) (λ x c n e. names_there x (new_inside C E v w x.op.obj x c) n e)) in
      subst (λ l. l) (λ i. Walks A (sym (rows_grouped C v os ns all_of_smaller) i) (stack i) (sym (rows_grouped (C ++ E) w os ns all_of_larger) i)) all

pub walks_rows : WalksRows
walks_rows C E v w = record {
  walk = walk C E v w;
  told = λ n few. walked_is (ascending (operations_of E)) (rows (operations_of C)) (beginning (ascending (operations_of E))) (rows (operations_of (C ++ E))) (walk C E v w) n few;
}
