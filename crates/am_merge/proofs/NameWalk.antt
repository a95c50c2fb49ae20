-- The walk over what stands at the names of an object, and over one object after another.
use Rattle.std.proofs.Common.{ℕ, suc, ◌≡◌, List, [], ◌∷◌, ◌++◌, map, Bool, true, false, ◌&&◌, refl, sym, ap, ◌∙◌, subst, inl, inr, AllPairs, Contains, arith}
use Rattle.std.specs.List.{flat_map}
use Rattle.std.specs.Ordering.{ordering_reverse}
use Rattle.std.specs.declared.cmp.Ordering.{Ordering}
use Rattle.std.specs.declared.cmp.Ordering.TheVariants.{Less, Greater}
use Rattle.std.proofs.lemmas.Bool.{cases_Bool, and_parts}
use Rattle.std.proofs.lemmas.Cmp.{nat_list_cmp_total}
use Rattle.std.proofs.lemmas.List.{append_assoc}
use Rattle.am_types.specs.declared.OpId.{OpId}
use Rattle.am_types.specs.declared.ObjId.{ObjId}
use Rattle.am_types.specs.declared.Key.{Key}
use Rattle.am_types.specs.declared.Key.TheVariants.{Name, Elem}
use Rattle.am_types.specs.declared.Row.{Row}
use Rattle.am_types.specs.Order.{bytes_cmp}
use Rattle.am_types.specs.Same.{same_object, same_key}
use Rattle.am_types.specs.Operations.{Operation, ascending, slot}
use Rattle.am_laws.proofs.Ancestry.{Contains-from_filter}
use Rattle.am_types.proofs.Lists.{Contains-head}
use Rattle.am_types.proofs.SameLaws.{same_object-true, same_key-true}
use Rattle.am_merge.specs.Merge.{extended, merge, slot_of_row}
use Rattle.am_merge.specs.Plans.{is_in, new_in}
use Rattle.am_merge.specs.Walk.{is_first, is_next, new_row, Walks}
use Rattle.am_merge.proofs.PlanLaws.{by_id}
use Rattle.am_merge.proofs.SlotLaws.{from_flat_map}
use Rattle.am_merge.proofs.SlotRows.{ops_in, shows_in, new_in_is, extended_ascending, new_row_ascending}
use Rattle.am_merge.proofs.SlotWalk.{Meets, is_before, slot_walks}
use Rattle.am_merge.proofs.WalkOrder.{names_by_id, lesser_name, greater_name}
use Rattle.am_merge.proofs.Within.{stays}

-- ---- the first of lists

pub before_all : (y : Operation) (qs rs : List Row) → ((r : Row) → Contains qs r → is_next y r ≡ true) → is_before y rs ≡ true → is_before y (qs ++ rs) ≡ true
before_all y [] rs h t = t
before_all y (q ∷ qs) rs h t = h q (Contains-head q qs)

pub behind_all : (r : Row) (zs st : List Operation) → ((z : Operation) → Contains zs z → is_next z r ≡ false) → is_first st r ≡ false → is_first (zs ++ st) r ≡ false
behind_all r [] st h t = t
behind_all r (z ∷ zs) st h t = h z (Contains-head z zs)

-- ---- a name

not_elem : (n : List ℕ) (i : OpId) → Elem i ≡ Name n → ⊥
not_elem n i e = cc

-- what stands at a name is no insertion
pub record IsAtName (o : ObjId) (n : List ℕ) (p : ObjId) (b : Bool) (k : Key) : Type 0 where
  pub obj : p ≡ o
  pub plain : b ≡ false
  pub key : k ≡ Name n

pub row_at_name : (o : ObjId) (n : List ℕ) (r : Row) → is_in (o, Name n) r ≡ true → IsAtName o n r.obj r.insert r.key
row_at_name o n r t =
    let p = and_parts (same_object r.obj o) (same_key (slot_of_row r) (Name n)) t in
    let k = same_key-true (slot_of_row r) (Name n) p.1 in
    elim (cases_Bool r.insert) [
      | inl i ↦ let is : slot_of_row r ≡ Elem r.id = simp i refl in absurd (not_elem n r.id (sym is ∙ k))
      | inr f ↦ let is : slot_of_row r ≡ r.key = simp f refl in record { obj = same_object-true r.obj o p.0; plain = f; key = sym is ∙ k }
    ]

pub operation_at_name : (o : ObjId) (n : List ℕ) (x : Operation) → shows_in (o, Name n) x ≡ true → IsAtName o n x.op.obj x.op.insert x.op.key
operation_at_name o n x t =
    let s = and_parts (stays x) (same_object x.op.obj o && same_key (slot x) (Name n)) t in
    let p = and_parts (same_object x.op.obj o) (same_key (slot x) (Name n)) s.1 in
    let k = same_key-true (slot x) (Name n) p.1 in
    elim (cases_Bool x.op.insert) [
      | inl i ↦ let is : slot x ≡ Elem x.id = simp i refl in absurd (not_elem n x.id (sym is ∙ k))
      | inr f ↦ let is : slot x ≡ x.op.key = simp f refl in record { obj = same_object-true x.op.obj o p.0; plain = f; key = sym is ∙ k }
    ]

pub row_is_at : (A : List Operation) (o : ObjId) (n : List ℕ) (r : Row) → Contains (new_in A (o, Name n)) r → IsAtName o n r.obj r.insert r.key
row_is_at A o n r c = row_at_name o n r (Contains-from_filter (is_in (o, Name n)) _ r c).1

pub operation_is_at : (A : List Operation) (o : ObjId) (n : List ℕ) (x : Operation) → Contains (ops_in A (o, Name n)) x → IsAtName o n x.op.obj x.op.insert x.op.key
operation_is_at A o n x c = operation_at_name o n x (Contains-from_filter (shows_in (o, Name n)) (ascending A) x c).1

reversed : (r s : Ordering) → s ≡ ordering_reverse r → r ≡ Less → s ≡ Greater
reversed r s e f = rw (e, f) refl

name_after : (a b : List ℕ) → bytes_cmp a b ≡ Less → bytes_cmp b a ≡ Greater
name_after a b e = reversed (bytes_cmp a b) (bytes_cmp b a) (nat_list_cmp_total.antisymm b a) e

-- ---- the names of an object

module _ (S N T : List Operation) (o : ObjId) (merged : (n : List ℕ) → new_in T (o, Name n) ≡ merge by_id (map (extended N) (new_in S (o, Name n))) (new_in N (o, Name n))) where
  abbrev A : List Operation
  A = ascending N

  abbrev olds : List ℕ → List Row
  olds n = new_in S (o, Name n)

  abbrev ups : List ℕ → List Operation
  ups n = ops_in N (o, Name n)

  now_merged : (n : List ℕ) → merge by_id (map (extended (ascending N)) (olds n)) (map (new_row (ascending N)) (ups n)) ≡ new_in T (o, Name n)
  now_merged n =
      (λ i. merge by_id (map (λ r. extended_ascending N r i) (olds n)) (map (λ x. new_row_ascending N x i) (ups n)))
      ∙ ap (merge by_id (map (extended N) (olds n))) (sym (new_in_is N (o, Name n)))
      ∙ sym (merged n)

  module _ (rs : List Row) (st : List Operation) (out : List Row)
      (late_rows : (n : List ℕ) (y : Operation) → IsAtName o n y.op.obj y.op.insert y.op.key → is_before y rs ≡ true)
      (late_stack : (n : List ℕ) (r : Row) → IsAtName o n r.obj r.insert r.key → is_first st r ≡ false) where
    later_rows : (n : List ℕ) (ns : List (List ℕ)) → ((m : List ℕ) → Contains ns m → bytes_cmp n m ≡ Less) → (y : Operation) → IsAtName o n y.op.obj y.op.insert y.op.key → is_before y (flat_map olds ns ++ rs) ≡ true
    later_rows n ns less y a =
        before_all y (flat_map olds ns) rs
        (λ r c.
        let f = from_flat_map olds ns r c in
        let b = row_is_at S o f.0 r f.2 in
        greater_name o r y b.obj a.obj f.0 n (name_after n f.0 (less f.0 f.1)) b.plain b.key a.plain a.key)
        (late_rows n y a)

    later_stack : (n : List ℕ) (ns : List (List ℕ)) → ((m : List ℕ) → Contains ns m → bytes_cmp n m ≡ Less) → (r : Row) → IsAtName o n r.obj r.insert r.key → is_first (flat_map ups ns ++ st) r ≡ false
    later_stack n ns less r a =
        behind_all r (flat_map ups ns) st
        (λ z c.
        let f = from_flat_map ups ns z c in
        let b = operation_is_at N o f.0 z f.2 in
        lesser_name o r z a.obj b.obj n f.0 (less f.0 f.1) a.plain a.key b.plain b.key)
        (late_stack n r a)

    pub names_walk : Walks (ascending N) rs st out → (ns : List (List ℕ)) → AllPairs (λ a b. bytes_cmp a b ≡ Less) ns
        → Walks (ascending N) (flat_map olds ns ++ rs) (flat_map ups ns ++ st) (flat_map (λ n. new_in T (o, Name n)) ns ++ out)
    names_walk w [] ascend = w
    names_walk w (n ∷ ns) ascend =
        let again : Walks A (flat_map olds ns ++ rs) (flat_map ups ns ++ st) (flat_map (λ n. new_in T (o, Name n)) ns ++ out) = names_walk w ns (λ i j d p q. ascend (suc i) (suc j) d (omega arith) (omega arith)) in
        let less : (m : List ℕ) → Contains ns m → bytes_cmp n m ≡ Less = λ m c. subst (λ k. bytes_cmp n k ≡ Less) c.2 (ascend 0 (suc c.0) m (omega arith) (let l = c.1 in omega arith)) in
        let meets : Meets (olds n) (ups n) (flat_map olds ns ++ rs) (flat_map ups ns ++ st) = record {
          old_plain = λ r c. (row_is_at S o n r c).plain;
          new_plain = λ y c. (operation_is_at N o n y c).plain;
          quiet = λ r c. later_stack n ns less r (row_is_at S o n r c);
          early = λ y c. later_rows n ns less y (operation_is_at N o n y c);
          by_ids = λ r y c d. let a = row_is_at S o n r c in let b = operation_is_at N o n y d in names_by_id o r y a.obj b.obj n a.plain a.key b.plain b.key;
        } in
        let slot : Walks A (olds n ++ (flat_map olds ns ++ rs)) (ups n ++ (flat_map ups ns ++ st)) (merge by_id (map (extended A) (olds n)) (map (new_row A) (ups n)) ++ (flat_map (λ n. new_in T (o, Name n)) ns ++ out)) =
        slot_walks A (flat_map olds ns ++ rs) (flat_map ups ns ++ st) (flat_map (λ n. new_in T (o, Name n)) ns ++ out) again (olds n) (ups n) meets in
        moved (sym (append_assoc (olds n) (flat_map olds ns) rs)) (sym (append_assoc (ups n) (flat_map ups ns) st))
        (ap (λ l. l ++ (flat_map (λ n. new_in T (o, Name n)) ns ++ out)) (now_merged n) ∙ sym (append_assoc (new_in T (o, Name n)) (flat_map (λ n. new_in T (o, Name n)) ns) out)) slot
      where
        moved : {qs bs : List Row} {us vs : List Operation} {xs ys : List Row} → qs ≡ bs → us ≡ vs → xs ≡ ys → Walks (ascending N) qs us xs → Walks (ascending N) bs vs ys
        moved e f g w = subst (λ l. l) (λ i. Walks (ascending N) (e i) (f i) (g i)) w
