-- Rows agree with the operations of a valid set exactly where they are its rows.
use Rattle.std.proofs.Common.{suc, get_or, ◌≡◌, ◌≢◌, List, [], ◌∷◌, map, filter, Bool, false, ◌==◌, Option, Some, None, option_map, unwrap_or, refl, sym, ap, ◌∙◌, subst, inl, inr, ◌⊎◌, AllPairs, Contains, IsPermutation, arith}
use Rattle.std.specs.List.{AllByRecursion, IsDistinct, find, flat_map}
use Rattle.std.specs.List.Sorted.{IsStrictlySortedBy}
use Rattle.std.specs.Option.{option_or}
use Rattle.std.specs.Ordering.{is_gt}
use Rattle.std.specs.declared.cmp.Ordering.TheVariants.{Less}
use Rattle.std.proofs.lemmas.Bool.{cases_Bool, both_ways, not_from_false, not-true, eq-eqb, ne_eqb}
use Rattle.std.proofs.lemmas.List.Elements.{All-contains, Contains-get_or}
use Rattle.std.proofs.lemmas.List.Kept.{AllPairs-cons}
use Rattle.std.proofs.lemmas.List.Sorted.{IsPermutation-refl, IsPermutation-sym, IsPermutation-map, Contains-permutation}
use Rattle.std.proofs.lemmas.Map.Keys.{IsDistinct-head, IsDistinct-tail, IsDistinct-IsPermutation}
use Rattle.std.proofs.lemmas.Option.{none-some}
use Rattle.am_types.specs.Actions as actions
use Rattle.am_types.specs.declared.OpId.{OpId}
use Rattle.am_types.specs.declared.Op.{Op}
use Rattle.am_types.specs.declared.Row.{Row}
use Rattle.am_types.specs.Order.{id_cmp, among, sorted_by, Ascends}
use Rattle.am_types.specs.Same.{same_id}
use Rattle.am_types.specs.Operations.{Operation, all_operations, operation_cmp}
use Rattle.am_types.specs.Members.{Member, changes}
use Rattle.am_types.specs.ValidSets.{Valid}
use Rattle.am_types.specs.Rows.{succs, rows}
use Rattle.am_laws.proofs.Ancestry.{Contains-filter, Contains-from_filter}
use Rattle.am_laws.proofs.DistinctOperations.{distinct_ids_valid}
use Rattle.am_types.proofs.Lists.{all_of}
use Rattle.am_types.proofs.Orders.{id_total, id_exact, same_id-true, same_id_itself}
use Rattle.am_types.proofs.Permuted.{operation_total}
use Rattle.am_types.proofs.Rising.{Rises, Rises-sorted_by, filter-sorted_by}
use Rattle.am_laws.proofs.SameMembers.{NoRepeat, same_members}
use Rattle.am_types.proofs.Sorting.{IsPermutation-sorted_by}
use Rattle.am_histories.specs.Rebuilt.{ids, is_replaced_by, preds_at, op_of, deletion, op_at}
use Rattle.am_histories.specs.Agreement.{Agrees}
use Rattle.am_histories.specs.Laws.{RowsAreTold}
use Rattle.am_histories.proofs.Sorted.{same_sorted, Contains-here, Contains-there}
use Rattle.am_histories.proofs.Contained.{Contains-map, Contains-from_map, Contains-flat_map, any_from}
use Rattle.am_histories.proofs.Tests.{any_has, find-finds}
use Rattle.am_histories.proofs.Operations.{SoundOps, sound_ops, operations_in, operation_of}
use Rattle.am_histories.proofs.Restored.{Contains-each_once, Contains-from_each_once, sorted_from_ascends, succ_in, succ_from, op_at-is, ids-from}
use Rattle.am_histories.proofs.OfDocument.{ascends_from_sorted}
use Rattle.am_histories.proofs.ElementWalk.{flips, kept_distinct, below_next}
use Rattle.am_histories.proofs.KnownRows.{ApartRows}
use Rattle.am_histories.proofs.RowsTold.{row, S, kept_is, is_in, distinct, apart_rows, apart_one, told}

-- ---- rows whose ids differ

apart_from_pairs : (t : List Row) → AllPairs (λ (r s : Row). r.id ≢ s.id) t → ApartRows t
apart_from_pairs [] d = tt
apart_from_pairs (r ∷ t) d = (
  λ y c e. d 0 (suc c.0) y (omega arith) (omega (arith, c.1)) (e ∙ ap (λ (s : Row). s.id) (sym c.2)),
  apart_from_pairs t (λ i j e p q. d (suc i) (suc j) e (omega arith) (omega arith)),
)

pairs_from_apart : (t : List Row) → ApartRows t → AllPairs (λ (r s : Row). r.id ≢ s.id) t
pairs_from_apart [] a = λ i j d p q. absurd (omega arith)
pairs_from_apart (r ∷ t) a =
    AllPairs-cons (λ (r s : Row). r.id ≢ s.id) r t
    (λ k d l. a.0 (get_or t k d) (Contains-get_or t k d l))
    (pairs_from_apart t a.1)

no_repeats : (t : List Row) → ApartRows t → NoRepeat t
no_repeats [] a = tt
no_repeats (r ∷ t) a = (λ c. a.0 r c refl, no_repeats t a.1)

-- ---- what rows say of an id

module _ (t : List Row) where
  preds_told : (i : OpId) (op : Op) → op_at t i ≡ Some op → op.preds ≡ preds_at t i
  preds_told i op = go (find (λ r. same_id r.id i) t) (find (is_replaced_by i) t)
    where
      go : (f g : Option Row) → option_or (option_map (op_of (preds_at t i)) f) (option_map (deletion (preds_at t i)) g) ≡ Some op → op.preds ≡ preds_at t i
      go (Some r) g e = sym (ap (λ o. (unwrap_or o op).preds) e)
      go None (Some r) e = sym (ap (λ o. (unwrap_or o op).preds) e)
      go None None e = absurd (none-some op e)

  -- it deletes, or a row has the id
  kind_told : (i : OpId) (op : Op) → op_at t i ≡ Some op → (op.action ≡ actions.del) ⊎ ((r : Row) × Contains t r × (r.id ≡ i))
  kind_told i op = go (find (λ r. same_id r.id i) t) refl (find (is_replaced_by i) t)
    where
      go : (f : Option Row) → find (λ r. same_id r.id i) t ≡ f → (g : Option Row) → option_or (option_map (op_of (preds_at t i)) f) (option_map (deletion (preds_at t i)) g) ≡ Some op
          → (op.action ≡ actions.del) ⊎ ((r : Row) × Contains t r × (r.id ≡ i))
      go (Some r) s g e = inr (elim (cases_found t) [ inl f ↦ f | inr n ↦ absurd (none-some r (sym (sym s ∙ n))) ])
        where
          cases_found : (l : List Row) → ((r : Row) × Contains l r × (r.id ≡ i)) ⊎ (find (λ r. same_id r.id i) l ≡ None)
          cases_found [] = inr refl
          cases_found (x ∷ l) =
              let again = cases_found l in
              elim (cases_Bool (same_id x.id i)) [
                | inl b ↦ inl (x, Contains-here x l, same_id-true x.id i b)
                | inr b ↦ elim again [ inl f ↦ inl (f.0, Contains-there x f.0 l f.1, f.2) | inr n ↦ inr (simp b n) ]
              ]
      go None s (Some r) e = inl (sym (ap (λ o. (unwrap_or o op).action) e))
      go None s None e = absurd (none-some op e)

  -- the one row that has the id says it
  row_told : ApartRows t → (r : Row) → Contains t r → (op : Op) → op_at t r.id ≡ Some op → op ≡ op_of (preds_at t r.id) r
  row_told a r c op e =
      let f = find-finds (λ (s : Row). same_id s.id r.id) t r c (same_id_itself r.id) in
      let is : f.0 ≡ r = apart_one t a f.0 r f.2 c (same_id-true f.0.id r.id f.3) in
      let found : find (λ s. same_id s.id r.id) t ≡ Some r = f.1 ∙ ap Some is in
      let here : op_at t r.id ≡ Some (op_of (preds_at t r.id) r) = ap (λ o. option_or (option_map (op_of (preds_at t r.id)) o) (option_map (deletion (preds_at t r.id)) (find (is_replaced_by r.id) t))) found in
      sym (ap (λ o. unwrap_or o op) (sym here ∙ e))

  id_in : (r : Row) → Contains t r → Contains (ids t) r.id
  id_in r c = Contains-each_once (flat_map (λ (r : Row). r.id ∷ r.succs) t) r.id (Contains-flat_map (λ (r : Row). r.id ∷ r.succs) t r r.id c (Contains-here r.id r.succs))

  succ_named : (r : Row) → Contains t r → (j : OpId) → Contains r.succs j → Contains (ids t) j
  succ_named r c j d = Contains-each_once (flat_map (λ (r : Row). r.id ∷ r.succs) t) j (Contains-flat_map (λ (r : Row). r.id ∷ r.succs) t r j c (Contains-there r.id j r.succs d))

  pred_from : ApartRows t → (r : Row) → Contains t r → (j : OpId) → Contains (preds_at t j) r.id → Contains r.succs j
  pred_from a r c j d =
      let m = Contains-from_map (λ (s : Row). s.id) (filter (is_replaced_by j) t) r.id (Contains-from_each_once (map (λ (s : Row). s.id) (filter (is_replaced_by j) t)) r.id d) in
      let f = Contains-from_filter (is_replaced_by j) t m.0 m.1 in
      let is : m.0 ≡ r = apart_one t a m.0 r f.0 c m.2 in
      let h = any_has (same_id j) m.0.succs f.1 in
      subst (λ (s : Row). Contains s.succs j) is (subst (Contains m.0.succs) (sym (same_id-true j h.0 h.2)) h.1)

  pred_to : (r : Row) → Contains t r → (j : OpId) → Contains r.succs j → Contains (preds_at t j) r.id
  pred_to r c j d =
      Contains-each_once (map (λ (s : Row). s.id) (filter (is_replaced_by j) t)) r.id
      (Contains-map (λ (s : Row). s.id) (filter (is_replaced_by j) t) r (Contains-filter (is_replaced_by j) t r c (any_from (same_id j) r.succs j d (same_id_itself j))))

-- ---- operations in ascending order

ascending_ids : (xs : List Operation) → Rises operation_total xs → IsDistinct same_id (map (λ (x : Operation). x.id) xs) → IsStrictlySortedBy id_cmp (map (λ (x : Operation). x.id) xs)
unfolding IsStrictlySortedBy
ascending_ids [] r d = tt
ascending_ids (x ∷ xs) r d =
    let js : List OpId = map (λ (x : Operation). x.id) xs in
    (each xs r.0 (IsDistinct-head same_id x.id js d), ascending_ids xs r.1 (IsDistinct-tail same_id x.id js d))
  where
    each : (ys : List Operation) → AllByRecursion (λ y. is_gt (operation_cmp x y) ≡ false) ys → AllByRecursion (λ j. same_id x.id j ≡ false) (map (λ (x : Operation). x.id) ys) → AllByRecursion (λ j. id_cmp x.id j ≡ Less) (map (λ (x : Operation). x.id) ys)
    each [] a b = tt
    each (y ∷ ys) a b = (below_next x y a.0 b.0, each ys a.1 b.1)

-- ---- a valid set

module _ (C : List Member) (v : Valid C) where
  abbrev pub A : List Operation
  A = all_operations (changes C)

  pub sound : SoundOps A
  sound =
      let L : List Member = v.listing in
      let s = sound_ops L v.in_turn in
      let to : (x : Operation) → Contains A x → Contains (all_operations (changes L)) x = λ x c. let o = operation_of C x c in operations_in L o.0 x (Contains-permutation C L o.0 v.same o.1) o.2 in
      let back : (x : Operation) → Contains (all_operations (changes L)) x → Contains A x = λ x c. let o = operation_of L x c in operations_in C o.0 x (Contains-permutation L C o.0 (IsPermutation-sym C L v.same) o.1) o.2 in
      record {
        distinct = λ x y c d e. s.distinct x y (to x c) (to y d) e;
        preds = λ x p c d. let q = s.preds x p (to x c) d in record { named = q.named; has = back q.named q.has; id = q.id; kept = q.kept; object = q.object; slots = q.slots };
        fine = λ x c. s.fine x (to x c);
      }

  succs_sorted : (i : OpId) → IsStrictlySortedBy id_cmp (succs A i)
  succs_sorted i =
      let p : Operation → Bool = λ x. among id_cmp x.op.preds i in
      let F : List Operation = filter p A in
      let ids_in = λ (l : List Operation). map (λ (x : Operation). x.id) l in
      subst (λ l. IsStrictlySortedBy id_cmp (ids_in l)) (sym (filter-sorted_by operation_total p A))
      (ascending_ids (sorted_by operation_cmp F) (Rises-sorted_by operation_total F)
      (IsDistinct-IsPermutation same_id flips (ids_in F) (ids_in (sorted_by operation_cmp F)) (IsPermutation-map (λ (x : Operation). x.id) F (sorted_by operation_cmp F) (IsPermutation-sorted_by operation_cmp F)) (kept_distinct p A (distinct_ids_valid C v))))

  module _ (t : List Row) (g : Agrees t A) where
    apart : ApartRows t
    apart = apart_from_pairs t g.apart

    said : (x : Operation) → Contains A x → op_at t x.id ≡ Some x.op
    said x c = All-contains (λ (x : Operation). op_at t x.id ≡ Some x.op) A x g.told c

    succs_same : (r : Row) → Contains t r → (x : Operation) → x.id ≡ r.id → succs A x.id ≡ r.succs
    succs_same r c x e =
        same_sorted id_total id_exact (succs A x.id) r.succs (succs_sorted x.id) (sorted_from_ascends r.succs (All-contains (λ (r : Row). Ascends id_cmp r.succs) t r g.succs c))
        (λ j d.
        let y = succ_from A sound x.id j d in
        let named : Contains (preds_at t y.0.id) r.id = subst (Contains (preds_at t y.0.id)) e (subst (λ ps. Contains ps x.id) (preds_told t y.0.id y.0.op (said y.0 y.1)) y.2) in
        subst (Contains r.succs) y.3 (pred_from t apart r c y.0.id named))
        (λ j d.
        let y = All-contains (λ i. (x : Operation) × Contains A x × (x.id ≡ i)) (ids t) j g.known (succ_named t r c j d) in
        let there : Contains r.succs y.0.id = subst (Contains r.succs) (sym y.2) d in
        let named : Contains y.0.op.preds x.id = subst (Contains y.0.op.preds) (sym e) (subst (λ ps. Contains ps r.id) (sym (preds_told t y.0.id y.0.op (said y.0 y.1))) (pred_to t r c y.0.id there)) in
        subst (Contains (succs A x.id)) y.2 (succ_in A sound y.0 x.id y.1 named))

    row_same : (r : Row) → Contains t r → (x : Operation) → Contains A x → x.id ≡ r.id → row C v x ≡ r
    row_same r c x d e =
        let op : x.op ≡ op_of (preds_at t r.id) r = row_told t apart r c x.op (subst (λ i. op_at t i ≡ Some x.op) e (said x d)) in
        let ss = succs_same r c x e in
        λ i. record {
          obj = (op i).obj;
          key = (op i).key;
          id = e i;
          insert = (op i).insert;
          action = (op i).action;
          value = (op i).value;
          succs = ss i;
          expand = (op i).expand;
          mark = (op i).mark;
        }

    from_rows : (r : Row) → Contains (map (row C v) (S C v)) r → Contains t r
    from_rows r c =
        let x = Contains-from_map (row C v) (S C v) r c in
        let k = kept_is C v x.0 x.1 in
        elim (kind_told t x.0.id x.0.op (said x.0 k.0)) [
          | inl d ↦ absurd (both_ways (x.0.op.action == actions.del) (not-true _ k.1) (eq-eqb x.0.op.action actions.del d))
          | inr s ↦ subst (Contains t) (sym (row_same s.0 s.1 x.0 k.0 (sym s.2)) ∙ x.2) s.1
        ]

    to_rows : (r : Row) → Contains t r → Contains (map (row C v) (S C v)) r
    to_rows r c =
        let x = All-contains (λ i. (x : Operation) × Contains A x × (x.id ≡ i)) (ids t) r.id g.known (id_in t r c) in
        let is = row_same r c x.0 x.1 x.2 in
        let action : x.0.op.action ≡ r.action = ap (λ (s : Row). s.action) is in
        let keeps = not_from_false _ (ne_eqb x.0.op.action actions.del (λ d. All-contains (λ (r : Row). r.action ≢ actions.del) t r g.kept c (sym action ∙ d))) in
        subst (Contains (map (row C v) (S C v))) is (Contains-map (row C v) (S C v) x.0 (is_in C v x.0 x.1 keeps))

    moved : IsPermutation (map (row C v) (S C v)) t
    moved = same_members (map (row C v) (S C v)) t (no_repeats _ (apart_rows (map (row C v) (S C v)) (distinct C v))) (no_repeats t apart) from_rows to_rows

    are_rows : t ≡ map (row C v) (S C v)
    are_rows = (told C v t moved).1 g.in_order

  agree : Agrees (rows A) A
  unfolding rows
  agree = record {
    apart = pairs_from_apart (map (row C v) (S C v)) (apart_rows (map (row C v) (S C v)) (distinct C v));
    kept = all_of (λ (r : Row). r.action ≢ actions.del) (map (row C v) (S C v)) (λ r c d.
        let x = Contains-from_map (row C v) (S C v) r c in
        both_ways (x.0.op.action == actions.del) (not-true _ (kept_is C v x.0 x.1).1) (eq-eqb x.0.op.action actions.del (ap (λ (s : Row). s.action) x.2 ∙ d)));
    succs = all_of (λ (r : Row). Ascends id_cmp r.succs) (map (row C v) (S C v)) (λ r c.
        let x = Contains-from_map (row C v) (S C v) r c in
        subst (λ (s : Row). Ascends id_cmp s.succs) x.2 (ascends_from_sorted id_cmp (succs A x.0.id) (succs_sorted x.0.id)));
    known = all_of (λ i. (x : Operation) × Contains A x × (x.id ≡ i)) (ids (rows A)) (λ i c. ids-from A sound i c);
    told = all_of (λ (x : Operation). op_at (rows A) x.id ≡ Some x.op) A (λ x c. op_at-is A sound x c);
    in_order = (told C v (map (row C v) (S C v)) (IsPermutation-refl (map (row C v) (S C v)))).0 refl;
  }

pub rows_are_told : RowsAreTold
unfolding rows
rows_are_told C v t = (λ g. are_rows C v t g, λ e. subst (λ l. Agrees l (all_operations (changes C))) (sym e) (agree C v))
