-- The operations of a set are read off its rows.
use Rattle.std.proofs.Common.{zero, suc, get_or, ◌≡◌, ◌+◌, List, [], ◌∷◌, map, filter, true, false, cond, ◌==◌, not, Some, None, option_map, refl, sym, ap, ◌∙◌, subst, inl, inr, Contains, arith}
use Rattle.std.specs.Cmp.{IsTotalOrder}
use Rattle.std.specs.List.{flat_map, find}
use Rattle.std.specs.List.Sorted.{IsStrictlySortedBy, IsSorted}
use Rattle.std.specs.Ordering.{on, is_gt, is_lt, ordering_reverse}
use Rattle.std.specs.declared.cmp.Ordering.{Ordering}
use Rattle.std.specs.declared.cmp.Ordering.TheVariants.{Less, Equal, Greater}
use Rattle.std.proofs.lemmas.Bool.{cases_Bool, both_ways, false_from_ne_true, not_from_false, not-true, eqb-true}
use Rattle.std.proofs.lemmas.Cmp.{eq_by_cmp_equiv}
use Rattle.std.proofs.lemmas.List.Sorted.{Contains-permutation, IsPermutation-sym}
use Rattle.std.proofs.lemmas.List.Elements.{All-from_recursion, Contains-get_or}
use Rattle.std.proofs.lemmas.List.Kept.{Contains-dedup, Contains-from_dedup, IsStrictlySortedBy-dedup}
use Rattle.std.proofs.lemmas.Map.Keys.{sorted_from_all_adjacent}
use Rattle.am_types.specs.declared.OpId.{OpId}
use Rattle.am_types.specs.declared.Row.{Row}
use Rattle.am_types.specs.declared.Key.TheVariants.{Elem}
use Rattle.std.specs.Option.{option_or}
use Rattle.am_types.specs.Actions as actions
use Rattle.am_types.specs.Order.{id_cmp, among, sorted_by, Ascends}
use Rattle.am_types.specs.Same.{same_id}
use Rattle.am_types.specs.Operations.{Operation, ascending, operation_cmp, slot}
use Rattle.am_types.specs.Elements.{elements}
use Rattle.am_types.specs.Places.{place_cmp}
use Rattle.am_types.specs.Rows.{succs, row_of, kept, rows, operation_place}
use Rattle.am_types.proofs.Orders.{id_total, id_exact, same_id-true, same_id_itself}
use Rattle.am_types.proofs.Rising.{Rises, Rises-sorted_by}
use Rattle.am_types.proofs.Sorting.{IsPermutation-sorted_by}
use Rattle.am_laws.proofs.Ancestry.{Contains-filter, Contains-from_filter}
use Rattle.am_histories.specs.Rebuilt.{each_once, ids, is_replaced_by, preds_at, op_of, deletion, op_at}
use Rattle.am_histories.proofs.Sorted.{same_sorted, Contains-cases, Contains-here, Contains-there}
use Rattle.am_histories.proofs.Contained.{Contains-map, Contains-from_map, Contains-flat_map, Contains-from_flat_map, any_from}
use Rattle.am_histories.proofs.Tests.{any_has, find-finds, find-misses}
use Rattle.am_histories.proofs.Operations.{SoundOps}

-- ---- sorting

module _ {X : Type 0} (R : X → X → Ordering) where
  pub Contains-sorted_by : (xs : List X) (x : X) → Contains xs x → Contains (sorted_by R xs) x
  Contains-sorted_by xs x c = Contains-permutation xs (sorted_by R xs) x (IsPermutation-sorted_by R xs) c

  pub Contains-from_sorted_by : (xs : List X) (x : X) → Contains (sorted_by R xs) x → Contains xs x
  Contains-from_sorted_by xs x c = Contains-permutation (sorted_by R xs) xs x (IsPermutation-sym xs (sorted_by R xs) (IsPermutation-sorted_by R xs)) c

module _ {X : Type 0} {R : X → X → Ordering} (total : IsTotalOrder R) where
  not_below : (o p : Ordering) → p ≡ ordering_reverse o → is_gt o ≡ false → is_lt p ≡ false
  not_below Less p e h = rw e
  not_below Equal p e h = rw e
  not_below Greater p e h = absurd (both_ways true h refl)

  pub sorted_from_rises : (xs : List X) → Rises total xs → IsSorted R xs
  sorted_from_rises [] r k d z h = absurd (omega arith)
  sorted_from_rises (x ∷ xs) r zero d z h = not_below (R x (get_or xs 0 d)) _ (total.antisymm (get_or xs 0 d) x) (All-from_recursion (λ y. is_gt (R x y) ≡ false) xs r.0 0 d (omega arith))
  sorted_from_rises (x ∷ xs) r (suc k) d z h =
      let e : suc k + 1 ≡ suc (k + 1) = omega arith in
      subst (λ n. is_lt (R (get_or (x ∷ xs) n d) (get_or xs k d)) ≡ false) (sym e) (sorted_from_rises xs r.1 k d (omega arith) (omega arith))

pub each_once-sorted : (is : List OpId) → IsStrictlySortedBy id_cmp (each_once is)
each_once-sorted is = IsStrictlySortedBy-dedup id_total (λ x y. refl) (sorted_by id_cmp is) (sorted_from_rises id_total (sorted_by id_cmp is) (Rises-sorted_by id_total is))

pub Contains-each_once : (is : List OpId) (i : OpId) → Contains is i → Contains (each_once is) i
Contains-each_once is i c = Contains-dedup (eq_by_cmp_equiv id_total) same_id-true (sorted_by id_cmp is) i (Contains-sorted_by id_cmp is i c)

pub Contains-from_each_once : (is : List OpId) (i : OpId) → Contains (each_once is) i → Contains is i
Contains-from_each_once is i c = Contains-from_sorted_by id_cmp is i (Contains-from_dedup same_id (sorted_by id_cmp is) i c)

pub each_once-is : (is js : List OpId) → IsStrictlySortedBy id_cmp js → ((i : OpId) → Contains is i → Contains js i) → ((i : OpId) → Contains js i → Contains is i) → each_once is ≡ js
each_once-is is js s f g = same_sorted id_total id_exact (each_once is) js (each_once-sorted is) s (λ i c. f i (Contains-from_each_once is i c)) (λ i c. Contains-each_once is i (g i c))

pub sorted_from_ascends : (js : List OpId) → Ascends id_cmp js → IsStrictlySortedBy id_cmp js
sorted_from_ascends js a = sorted_from_all_adjacent id_total js (record { counter = 0; actor = [] }) (λ k l. a k (record { counter = 0; actor = [] }) l)

-- ---- rows

module _ (A : List Operation) (s : SoundOps A) where
  abbrev row : Operation → Row
  row x = row_of (succs A x.id) x

  row_in : (x : Operation) → Contains A x → (x.op.action == actions.del) ≡ false → Contains (rows A) (row x)
  unfolding rows
  row_in x c e =
      Contains-map row _ x (Contains-sorted_by (on operation_place (place_cmp (elements A))) (kept A) x
      (Contains-filter (λ x. not (x.op.action == actions.del)) (ascending A) x (Contains-sorted_by operation_cmp A x c) (not_from_false _ e)))

  row_from : (r : Row) → Contains (rows A) r → (x : Operation) × Contains A x × ((x.op.action == actions.del) ≡ false) × (row x ≡ r)
  unfolding rows
  row_from r c =
      let x = Contains-from_map row _ r c in
      let k = Contains-from_filter (λ x. not (x.op.action == actions.del)) (ascending A) x.0 (Contains-from_sorted_by (on operation_place (place_cmp (elements A))) (kept A) x.0 x.1) in
      (x.0, Contains-from_sorted_by operation_cmp A x.0 k.0, not-true _ k.1, x.2)

  -- a succ of an id is an operation that names it as a pred
  pub succ_in : (x : Operation) (i : OpId) → Contains A x → Contains x.op.preds i → Contains (succs A i) x.id
  succ_in x i c d =
      Contains-map (λ (y : Operation). y.id) _ x (Contains-filter (λ (y : Operation). among id_cmp y.op.preds i) (ascending A) x (Contains-sorted_by operation_cmp A x c)
      (any_from (same_id i) x.op.preds i d (same_id_itself i)))

  pub succ_from : (i j : OpId) → Contains (succs A i) j → (x : Operation) × Contains A x × Contains x.op.preds i × (x.id ≡ j)
  succ_from i j c =
      let x = Contains-from_map (λ (y : Operation). y.id) _ j c in
      let k = Contains-from_filter (λ (y : Operation). among id_cmp y.op.preds i) (ascending A) x.0 x.1 in
      let p = any_has (same_id i) x.0.op.preds k.1 in
      (x.0, Contains-from_sorted_by operation_cmp A x.0 k.0, subst (Contains x.0.op.preds) (sym (same_id-true i p.0 p.2)) p.1, x.2)

  replaced-true : (x y : Operation) → Contains A x → is_replaced_by x.id (row y) ≡ true → Contains x.op.preds y.id
  replaced-true x y c e =
      let p = any_has (same_id x.id) (succs A y.id) e in
      let z = succ_from y.id p.0 p.1 in
      let same_one : z.0 ≡ x = s.distinct z.0 x z.1 c (z.3 ∙ sym (same_id-true x.id p.0 p.2)) in
      subst (λ (w : Operation). Contains w.op.preds y.id) same_one z.2

  replaced-from : (x y : Operation) → Contains A x → Contains x.op.preds y.id → is_replaced_by x.id (row y) ≡ true
  replaced-from x y c d = any_from (same_id x.id) (succs A y.id) x.id (succ_in x y.id c d) (same_id_itself x.id)

  pub preds_at-is : (x : Operation) → Contains A x → preds_at (rows A) x.id ≡ x.op.preds
  preds_at-is x c = each_once-is _ x.op.preds (sorted_from_ascends x.op.preds (s.fine x c).preds_ascend)
      (λ i d.
      let r = Contains-from_map (λ (r : Row). r.id) _ i d in
      let f = Contains-from_filter (is_replaced_by x.id) (rows A) r.0 r.1 in
      let y = row_from r.0 f.0 in
      let h = replaced-true x y.0 c (ap (is_replaced_by x.id) y.3 ∙ f.1) in
      let e : y.0.id ≡ i = ap (λ (r : Row). r.id) y.3 ∙ r.2 in
      subst (Contains x.op.preds) e h)
      (λ i d.
      let p = s.preds x i c d in
      let h = replaced-from x p.named c (subst (Contains x.op.preds) (sym p.id) d) in
      subst (Contains (map (λ (r : Row). r.id) (filter (is_replaced_by x.id) (rows A)))) p.id
      (Contains-map (λ (r : Row). r.id) _ (row p.named) (Contains-filter (is_replaced_by x.id) (rows A) (row p.named) (row_in p.named p.has p.kept) h)))

  first_pred : (x : Operation) → Contains A x → (x.op.action == actions.del) ≡ true → (p : OpId) × Contains x.op.preds p
  first_pred x c e =
      let f = ((s.fine x c).deletion (eqb-true _ _ e)).preds in
      let none : OpId = record { counter = 0; actor = [] } in
      (get_or x.op.preds 0 none, Contains-get_or x.op.preds 0 none f)

  pub ids-has : (x : Operation) → Contains A x → Contains (ids (rows A)) x.id
  ids-has x c = Contains-each_once (flat_map with_succs (rows A)) x.id (elim (cases_Bool (x.op.action == actions.del)) [
    | inl e ↦
        let f = first_pred x c e in
        let p = s.preds x f.0 c f.1 in
        Contains-flat_map with_succs (rows A) (row p.named) x.id (row_in p.named p.has p.kept)
        (Contains-there p.named.id x.id (succs A p.named.id) (succ_in x p.named.id c (subst (Contains x.op.preds) (sym p.id) f.1)))
    | inr e ↦ Contains-flat_map with_succs (rows A) (row x) x.id (row_in x c e) (Contains-here x.id (succs A x.id))
  ])
    where
      with_succs : Row → List OpId
      with_succs r = r.id ∷ r.succs

  pub ids-from : (i : OpId) → Contains (ids (rows A)) i → (x : Operation) × Contains A x × (x.id ≡ i)
  ids-from i c =
      let f = Contains-from_flat_map (λ (r : Row). r.id ∷ r.succs) (rows A) i (Contains-from_each_once _ i c) in
      let x = row_from f.0 f.1 in
      let d : Contains (x.0.id ∷ succs A x.0.id) i = subst (λ (r : Row). Contains (r.id ∷ r.succs) i) (sym x.3) f.2 in
      elim (Contains-cases x.0.id i (succs A x.0.id) d) [
        | inl e ↦ (x.0, x.1, e)
        | inr g ↦ let y = succ_from x.0.id i g in (y.0, y.1, y.3)
      ]

  -- its own row, where it has one
  kept_at : (x : Operation) → Contains A x → (x.op.action == actions.del) ≡ false → find (λ r. same_id r.id x.id) (rows A) ≡ Some (row x)
  kept_at x c e =
      let f = find-finds (λ r. same_id r.id x.id) (rows A) (row x) (row_in x c e) (same_id_itself x.id) in
      let y = row_from f.0 f.2 in
      let same_one : y.0 ≡ x = s.distinct y.0 x y.1 c (ap (λ (r : Row). r.id) y.3 ∙ same_id-true f.0.id x.id f.3) in
      f.1 ∙ ap Some (sym y.3 ∙ ap row same_one)

  deleted_at : (x : Operation) → Contains A x → (x.op.action == actions.del) ≡ true → find (λ r. same_id r.id x.id) (rows A) ≡ None
  deleted_at x c e = find-misses (λ r. same_id r.id x.id) (rows A) (λ r d.
      let y = row_from r d in
      false_from_ne_true _ (λ t.
      let same_one : y.0 ≡ x = s.distinct y.0 x y.1 c (ap (λ (r : Row). r.id) y.3 ∙ same_id-true r.id x.id t) in
      both_ways _ y.2 (ap (λ (z : Operation). z.op.action == actions.del) same_one ∙ e)))

  -- a deletion is told by its preds and what it deletes
  deletion-is : (x y : Operation) → Contains A x → (x.op.action == actions.del) ≡ true → y.op.obj ≡ x.op.obj → slot y ≡ slot x → deletion x.op.preds (row y) ≡ x.op
  deletion-is x y c e obj slots =
      let f = s.fine x c in
      let act : x.op.action ≡ actions.del = eqb-true _ _ e in
      let d = f.deletion act in
      let key : slot x ≡ x.op.key = ap (λ b. cond b (Elem x.id) x.op.key) d.insert in
      let zero_kind : x.op.value.kind ≡ 0 = d.value in
      let raw : x.op.value.raw ≡ [] = f.value.empty (omega arith) in
      λ i. record {
        obj = obj i;
        key = (slots ∙ key) i;
        insert = sym d.insert i;
        action = sym act i;
        value = record { kind = sym zero_kind i; raw = sym raw i };
        preds = x.op.preds;
        expand = sym d.expand i;
        mark = sym d.mark i;
      }

  -- what stands in the row that is found
  replaced_at : (x : Operation) → Contains A x → (x.op.action == actions.del) ≡ true → (y : Operation) × (find (is_replaced_by x.id) (rows A) ≡ Some (row y)) × (y.op.obj ≡ x.op.obj) × (slot y ≡ slot x)
  replaced_at x c e =
      let f = first_pred x c e in
      let p = s.preds x f.0 c f.1 in
      let one = replaced-from x p.named c (subst (Contains x.op.preds) (sym p.id) f.1) in
      let r = find-finds (is_replaced_by x.id) (rows A) (row p.named) (row_in p.named p.has p.kept) one in
      let y = row_from r.0 r.2 in
      let q = s.preds x y.0.id c (replaced-true x y.0 c (ap (is_replaced_by x.id) y.3 ∙ r.3)) in
      let same_one = s.distinct q.named y.0 q.has y.1 q.id in
      (y.0, r.1 ∙ ap Some (sym y.3), subst (λ (z : Operation). z.op.obj ≡ x.op.obj) same_one q.object, subst (λ (z : Operation). slot z ≡ slot x) same_one q.slots)

  pub op_at-is : (x : Operation) → Contains A x → op_at (rows A) x.id ≡ Some x.op
  op_at-is x c = elim (cases_Bool (x.op.action == actions.del)) [
    | inl e ↦
        let r = replaced_at x c e in
        let none = deleted_at x c e in
        let preds = preds_at-is x c in
        (λ i. option_or (option_map (op_of (preds i)) (none i)) (option_map (deletion (preds i)) (r.1 i)))
        ∙ ap Some (deletion-is x r.0 c e r.2 r.3)
    | inr e ↦
        let here = kept_at x c e in
        let preds = preds_at-is x c in
        λ i. option_or (option_map (op_of (preds i)) (here i)) (option_map (deletion (preds_at (rows A) x.id)) (find (is_replaced_by x.id) (rows A)))
  ]
