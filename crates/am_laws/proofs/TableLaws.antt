-- The canonical table of a valid set is within the limits of one document.
use Rattle.std.proofs.Common.{ℕ, suc, ◌≡◌, ◌+◌, ◌<◌, ◌≤◌, ◌^◌, List, [], ◌∷◌, ◌++◌, length, map, filter, flat_map, Bool, true, false, not, ◌||◌, ◌==◌, cond, nat_lt, Option, Some, None, refl, sym, ap, ◌∙◌, inl, inr, subst, sum_by, Contains, IsPermutation, arith}
use Rattle.std.specs.Bool.{then_some}
use Rattle.std.specs.Option.{option_or}
use Rattle.std.specs.Ordering.{on}
use Rattle.std.specs.List.{dedup, list_any, position_or_len}
use Rattle.std.proofs.lemmas.Bool.{cases_Bool, both_ways}
use Rattle.std.proofs.lemmas.Bool.Decides.{nat_tests}
use Rattle.std.proofs.lemmas.Cmp.{nat_list_cmp_total, nat_list_eq_equiv, eq_by_cmp_equiv}
use Rattle.std.proofs.lemmas.List.{length-map}
use Rattle.std.proofs.lemmas.List.Elements.{All-contains, Contains-append_left, Contains-append_right, Contains-append_cases}
use Rattle.std.proofs.lemmas.List.Concat.{length-flat_map}
use Rattle.std.proofs.lemmas.List.Kept.{Contains-dedup}
use Rattle.std.proofs.lemmas.List.Sums.{sum_by-cons, sum_by-le-sum_by}
use Rattle.std.proofs.lemmas.Map.Views.{list_any-from_Contains}
use Rattle.std.proofs.lemmas.List.Sorted.{IsPermutation-sym, IsPermutation-map, Contains-permutation, length_permutation, sum_by-IsPermutation, list_any-IsPermutation}
use Rattle.am_laws.specs.Records.{OpId, Op, Change, Limit, Changes, Operations, Preds, Links, Row, Meta}
use Rattle.am_types.specs.Actions as actions
use Rattle.am_types.specs.Actors.{IsActor}
use Rattle.am_types.specs.Order.{bytes_cmp, id_cmp, hash_cmp, among, same, sorted_by}
use Rattle.am_types.specs.Same.{same_bytes}
use Rattle.am_types.specs.Fine.{Fine, FineOp, IsId, pred_count}
use Rattle.am_types.specs.Operations.{Operation, numbered, operations, all_operations, operation_cmp, ascending, DistinctIds}
use Rattle.am_types.specs.Members.{Member, changes, hashes, holds}
use Rattle.am_types.specs.Totals.{above}
use Rattle.am_types.specs.Verdicts.{limit_passed}
use Rattle.am_types.specs.ValidSets.{Valid}
use Rattle.am_types.specs.Elements.{elements}
use Rattle.am_types.specs.Places.{place_cmp}
use Rattle.am_types.specs.Rows.{succs, row_of, kept, operation_place, rows}
use Rattle.am_types.specs.Canonical.{canonical_cmp, order}
use Rattle.am_types.specs.Documents.{object_actors, key_actors, op_actors, actors, used_actors, index, meta_of, metas, table}
use Rattle.am_types.proofs.Lists.{all_of, Contains-head, Contains-tail}
use Rattle.am_types.proofs.Orders.{same_id-true, same_bytes-true}
use Rattle.am_types.proofs.Sorting.{IsPermutation-sorted_by}
use Rattle.am_laws.specs.Tables.{IsListed, RowWithin, MetaWithin, TableWithin}
use Rattle.am_laws.proofs.Ancestry.{Contains-from_filter}
use Rattle.am_laws.proofs.DistinctIds.{numbered_at, operation_of}
use Rattle.am_laws.proofs.DistinctOperations.{distinct_ids_valid}
use Rattle.am_laws.proofs.Grounds.{Grounds, counter_bounds}
use Rattle.am_laws.proofs.Rules.{keeps_rules}
use Rattle.am_laws.proofs.SameMembers.{Contains-cons_cases}
use Rattle.am_laws.proofs.Sums.{count_true, count_false, sum_by-zero, length-filter_le, sum_by-plus, sum_by-filter-le, length-filter_sum, sum_by-agree, sum_by-map, sum_by-swap, sum_by-flat_map, Contains-flat_map, Contains-from_map}
use Rattle.am_laws.proofs.ValidSetLaws.{grounds_valid}

-- ---- limits

within : (most n : ℕ) (limit : Limit) (rest : Option Limit) → option_or (above most n limit) rest ≡ None → (n ≤ most) × (rest ≡ None)
within most n limit rest e = elim (cases_Bool (nat_lt most n)) [
  | inl t ↦ let f : Some limit ≡ None = subst (λ b. option_or (then_some b limit) rest ≡ None) t e in absurd (cc)
  | inr t ↦ ((grind (arith, nat_tests)), subst (λ b. option_or (then_some b limit) rest ≡ None) t e)
]

record Limits (cs : List Change) : Type 0 where
  changes : length cs ≤ 2 ^ 20
  operations : sum_by (λ c. length c.ops) cs ≤ 2 ^ 22
  preds : sum_by (λ c. pred_count c.ops) cs ≤ 2 ^ 22
  links : sum_by (λ c. length c.deps) cs ≤ 2 ^ 22

limits_of : (cs : List Change) → limit_passed cs ≡ None → Limits cs
limits_of cs e =
    let a = within (2 ^ 20) (length cs) Changes _ e in
    let b = within (2 ^ 22) (sum_by (λ c. length c.ops) cs) Operations _ a.1 in
    let c = within (2 ^ 22) (sum_by (λ c. pred_count c.ops) cs) Preds _ b.1 in
    let d = within (2 ^ 22) (sum_by (λ c. length c.deps) cs) Links _ c.1 in
    record { changes = a.0; operations = b.0; preds = c.0; links = d.0 }

-- ---- how many operations and predecessors there are

numbered_count : (s : ℕ) (a : List ℕ) (ops : List Op) → length (numbered s a ops) ≡ length ops
numbered_count s a [] = refl
numbered_count s a (op ∷ ops) = let b = numbered_count (s + 1) a ops in omega arith

numbered_preds : (s : ℕ) (a : List ℕ) (ops : List Op) → sum_by (λ x. length x.op.preds) (numbered s a ops) ≡ pred_count ops
numbered_preds s a [] = refl
numbered_preds s a (op ∷ ops) =
    let first : Operation = record { id = record { counter = s; actor = a }; op = op } in
    let b = numbered_preds (s + 1) a ops in
    let c = sum_by-cons (λ x. length x.op.preds) first (numbered (s + 1) a ops) in
    let d = sum_by-cons (λ (op : Op). length op.preds) op ops in
    omega arith

all_count : (cs : List Change) → length (all_operations cs) ≡ sum_by (λ c. length c.ops) cs
all_count cs = length-flat_map operations cs ∙ sum_by-agree (λ c. length (operations c)) (λ c. length c.ops) (λ c. numbered_count c.start c.actor c.ops) cs

all_preds : (cs : List Change) → sum_by (λ x. length x.op.preds) (all_operations cs) ≡ sum_by (λ c. pred_count c.ops) cs
all_preds cs =
    sum_by-flat_map (λ x. length x.op.preds) operations cs
    ∙ sum_by-agree (λ c. sum_by (λ x. length x.op.preds) (operations c)) (λ c. pred_count c.ops) (λ c. numbered_preds c.start c.actor c.ops) cs

-- ---- who names an id

-- ---- ids that are named

or_le : (a b : Bool) → cond (a || b) 1 0 ≤ cond a 1 0 + cond b 1 0
or_le true true = omega arith
or_le true false = omega arith
or_le false true = omega arith
or_le false false = omega arith

none_has : (p : OpId) (xs : List Operation) → ((y : Operation) → Contains xs y → same id_cmp y.id p ≡ true → ⊥) → sum_by (λ x. cond (same id_cmp x.id p) 1 0) xs ≡ 0
none_has p [] h = refl
none_has p (x ∷ xs) h =
    let a = sum_by-cons (λ (x : Operation). cond (same id_cmp x.id p) 1 0) x xs in
    let b = none_has p xs (λ y c s. h y (Contains-tail x xs y c) s) in
    elim (cases_Bool (same id_cmp x.id p)) [
      | inl t ↦ absurd (h x (Contains-head x xs) t)
      | inr t ↦ let e = count_false (same id_cmp x.id p) t in omega arith
    ]

one_has : (p : OpId) (xs : List Operation) → DistinctIds xs → sum_by (λ x. cond (same id_cmp x.id p) 1 0) xs ≤ 1
one_has p [] d = omega arith
one_has p (x ∷ xs) d =
    let a = sum_by-cons (λ (x : Operation). cond (same id_cmp x.id p) 1 0) x xs in
    let again = one_has p xs (λ i j y l m. d (suc i) (suc j) y (omega arith) (omega arith)) in
    elim (cases_Bool (same id_cmp x.id p)) [
      | inl t ↦
          let e = count_true (same id_cmp x.id p) t in
          let others : (y : Operation) → Contains xs y → same id_cmp y.id p ≡ true → ⊥ = λ y c s.
          d 0 (suc c.0) y (omega arith) (let l = c.1 in omega arith) (same_id-true x.id p t ∙ sym (same_id-true y.id p s) ∙ ap (λ (z : Operation). z.id) (sym c.2)) in
          let b = none_has p xs others in
          omega arith
      | inr t ↦ let e = count_false (same id_cmp x.id p) t in omega arith
    ]

-- of operations of which one at most has each id, as many have an id among some as these are at most
matched : (xs : List Operation) → ((p : OpId) → sum_by (λ x. cond (same id_cmp x.id p) 1 0) xs ≤ 1) → (ps : List OpId) → sum_by (λ x. cond (among id_cmp ps x.id) 1 0) xs ≤ length ps
matched xs h [] = let a = sum_by-zero xs in omega arith
matched xs h (p ∷ ps) =
    let a = matched xs h ps in
    let b = h p in
    let c = sum_by-le-sum_by (λ (x : Operation). cond (among id_cmp (p ∷ ps) x.id) 1 0) (λ (x : Operation). cond (same id_cmp x.id p) 1 0 + cond (among id_cmp ps x.id) 1 0) xs (λ x. or_le (same id_cmp x.id p) (among id_cmp ps x.id)) in
    let d = sum_by-plus (λ (x : Operation). cond (same id_cmp x.id p) 1 0) (λ (x : Operation). cond (among id_cmp ps x.id) 1 0) xs in
    omega arith

-- ---- the rows of operations

abbrev in_place : List Operation → List Operation
in_place A = sorted_by (on operation_place (place_cmp (elements A))) (kept A)

few_have : (A : List Operation) → DistinctIds A → (p : OpId) → sum_by (λ x. cond (same id_cmp x.id p) 1 0) (kept A) ≤ 1
few_have A d p =
    let a = sum_by-filter-le (λ (x : Operation). cond (same id_cmp x.id p) 1 0) (λ x. not (x.op.action == actions.del)) (ascending A) in
    let b = sum_by-IsPermutation (λ (x : Operation). cond (same id_cmp x.id p) 1 0) A (ascending A) (IsPermutation-sorted_by operation_cmp A) in
    let c = one_has p A d in
    omega arith

-- how many successors an id has
count_succs : (A : List Operation) (i : OpId) → length (succs A i) ≡ sum_by (λ y. cond (among id_cmp y.op.preds i) 1 0) (ascending A)
count_succs A i = length-map (filter (λ (y : Operation). among id_cmp y.op.preds i) (ascending A)) (λ (y : Operation). y.id) ∙ length-filter_sum (λ (y : Operation). among id_cmp y.op.preds i) (ascending A)

few_succs : (A : List Operation) → DistinctIds A → sum_by (λ r. length r.succs) (rows A) ≤ sum_by (λ x. length x.op.preds) A
unfolding rows
few_succs A d =
    let ys : List Operation = ascending A in
    let a = sum_by-map (λ (r : Row). length r.succs) (λ (x : Operation). row_of (succs A x.id) x) (in_place A) in
    let b = sum_by-IsPermutation (λ (x : Operation). length (succs A x.id)) (kept A) (in_place A) (IsPermutation-sorted_by (on operation_place (place_cmp (elements A))) (kept A)) in
    let c = sum_by-agree (λ (x : Operation). length (succs A x.id)) (λ (x : Operation). sum_by (λ (y : Operation). cond (among id_cmp y.op.preds x.id) 1 0) ys) (λ x. count_succs A x.id) (kept A) in
    let e = sum_by-swap (λ (x : Operation) (y : Operation). cond (among id_cmp y.op.preds x.id) 1 0) (kept A) ys in
    let f = sum_by-le-sum_by (λ (y : Operation). sum_by (λ (x : Operation). cond (among id_cmp y.op.preds x.id) 1 0) (kept A)) (λ (y : Operation). length y.op.preds) ys (λ y. matched (kept A) (few_have A d) y.op.preds) in
    let g = sum_by-IsPermutation (λ (y : Operation). length y.op.preds) A ys (IsPermutation-sorted_by operation_cmp A) in
    omega arith

few_rows : (A : List Operation) → length (rows A) ≤ length A
unfolding rows
few_rows A =
    let a = length-map (in_place A) (λ (x : Operation). row_of (succs A x.id) x) in
    let b = length_permutation (kept A) (in_place A) (IsPermutation-sorted_by (on operation_place (place_cmp (elements A))) (kept A)) in
    let c = length-filter_le (λ (x : Operation). not (x.op.action == actions.del)) (ascending A) in
    let d = length_permutation A (ascending A) (IsPermutation-sorted_by operation_cmp A) in
    omega arith

row_from : (A : List Operation) (r : Row) → Contains (rows A) r → (x : Operation) × Contains A x × (r ≡ row_of (succs A x.id) x)
unfolding rows
row_from A r c =
    let m = Contains-from_map (λ (x : Operation). row_of (succs A x.id) x) (in_place A) r c in
    let k = Contains-permutation (in_place A) (kept A) m.0 (IsPermutation-sym (kept A) (in_place A) (IsPermutation-sorted_by (on operation_place (place_cmp (elements A))) (kept A))) m.1 in
    let a = (Contains-from_filter (λ (x : Operation). not (x.op.action == actions.del)) (ascending A) m.0 k).0 in
    (m.0, Contains-permutation (ascending A) A m.0 (IsPermutation-sym A (ascending A) (IsPermutation-sorted_by operation_cmp A)) a, m.2)

succ_from : (A : List Operation) (i s : OpId) → Contains (succs A i) s → (y : Operation) × Contains A y × (s ≡ y.id)
succ_from A i s c =
    let m = Contains-from_map (λ (y : Operation). y.id) (filter (λ (y : Operation). among id_cmp y.op.preds i) (ascending A)) s c in
    let a = (Contains-from_filter (λ (y : Operation). among id_cmp y.op.preds i) (ascending A) m.0 m.1).0 in
    (m.0, Contains-permutation (ascending A) A m.0 (IsPermutation-sym A (ascending A) (IsPermutation-sorted_by operation_cmp A)) a, m.2)

-- ---- the rows and the change rows of a set

position_in : {X : Type 0} (p : X → Bool) (xs : List X) → list_any p xs ≡ true → position_or_len p xs < length xs
position_in p [] e = absurd (both_ways false refl e)
position_in p (x ∷ xs) e =
    let again : list_any p xs ≡ true → position_or_len p xs < length xs = position_in p xs in
    elim (cases_Bool (p x)) [
      | inl t ↦ let here : position_or_len p (x ∷ xs) ≡ 0 = ap (λ b. cond (not b) (1 + position_or_len p xs) 0) t in omega arith
      | inr t ↦
          let there : position_or_len p (x ∷ xs) ≡ 1 + position_or_len p xs = ap (λ b. cond (not b) (1 + position_or_len p xs) 0) t in
          let l = again (sym (ap (λ b. b || list_any p xs) t) ∙ e) in
          omega arith
    ]

module _ (C : List Member) (g : Grounds C) where
  A : List Operation
  A = all_operations (changes C)

  listed : (a : List ℕ) → Contains (actors C) a → IsListed (used_actors C) a
  listed a c =
      let sorted : List (List ℕ) = sorted_by bytes_cmp (actors C) in
      list_any-from_Contains (eq_by_cmp_equiv nat_list_cmp_total) a (dedup same_bytes sorted)
      (Contains-dedup nat_list_eq_equiv same_bytes-true sorted a (Contains-permutation (actors C) sorted a (IsPermutation-sorted_by bytes_cmp (actors C)) c))

  author : (m : Member) → Contains C m → IsListed (used_actors C) m.change.actor
  author m c = listed m.change.actor (Contains-flat_map (λ (m : Member). m.change.actor ∷ flat_map op_actors m.change.ops) C m m.change.actor c (Contains-head m.change.actor (flat_map op_actors m.change.ops)))

  named_by : (m : Member) → Contains C m → (op : Op) → Contains m.change.ops op → (a : List ℕ) → Contains (op_actors op) a → IsListed (used_actors C) a
  named_by m c op o a n =
      listed a (Contains-flat_map (λ (m : Member). m.change.actor ∷ flat_map op_actors m.change.ops) C m a c
      (Contains-tail m.change.actor (flat_map op_actors m.change.ops) a (Contains-flat_map op_actors m.change.ops op a o n)))

  record Known (x : Operation) : Type 0 where
    of : Member
    is_member : Contains C of
    is_own : Contains of.change.ops x.op
    fine : FineOp x.op
    id : IsId x.id
    actor : x.id.actor ≡ of.change.actor

  known : (x : Operation) → Contains (all_operations (changes C)) x → Known x
  known x c =
      let o = operation_of C x c in
      let m = o.0 in
      let f : Fine m.change = g.fine m o.1 in
      let p = numbered_at m.change.start m.change.actor m.change.ops x o.2.0 o.2.1 o.2.2 in
      let own : Contains m.change.ops x.op = (p.0, p.1.0, sym (ap (λ (z : Operation). z.op) p.1.1)) in
      let b = counter_bounds m f.numbers.start x o.2 in
      let low = f.numbers.start in
      let high = f.numbers.max in
      let above = b.0 in
      let below = b.1 in
      record {
        of = m;
        is_member = o.1;
        is_own = own;
        fine = All-contains FineOp m.change.ops x.op f.ops own;
        id = record { low = omega arith; high = omega arith; actor = subst IsActor (sym b.2) f.actor };
        actor = b.2;
      }

  row_within : (x : Operation) → Known x → RowWithin (used_actors C) (row_of (succs (all_operations (changes C)) x.id) x)
  row_within x k =
      let ss : List OpId = succs (all_operations (changes C)) x.id in
      let own_actors : (a : List ℕ) → Contains (op_actors x.op) a → IsListed (used_actors C) a = named_by k.of k.is_member x.op k.is_own in
      let objects : List (List ℕ) = object_actors x.op.obj in
      let keys : List (List ℕ) = key_actors x.op.key in
      let preds : List (List ℕ) = map (λ (i : OpId). i.actor) x.op.preds in
      let ids : List (List ℕ) = map (λ (i : OpId). i.actor) ss in
      record {
        object = k.fine.object;
        key = k.fine.key;
        id = k.id;
        action = k.fine.action;
        value = k.fine.value;
        mark = k.fine.mark_name;
        succs = all_of IsId ss (λ s c. let y = succ_from (all_operations (changes C)) x.id s c in subst IsId (sym y.2) (known y.0 y.1).id);
        listed = all_of (IsListed (used_actors C)) (x.id.actor ∷ (objects ++ (keys ++ ids))) (λ a c. elim (Contains-cons_cases x.id.actor (objects ++ (keys ++ ids)) a c) [
          | inl e ↦ subst (IsListed (used_actors C)) (sym k.actor ∙ e) (author k.of k.is_member)
          | inr r ↦ elim (Contains-append_cases objects (keys ++ ids) a r) [
            | inl o ↦ own_actors a (Contains-append_left (objects ++ keys) preds a (Contains-append_left objects keys a o))
            | inr q ↦ elim (Contains-append_cases keys ids a q) [
              | inl o ↦ own_actors a (Contains-append_left (objects ++ keys) preds a (Contains-append_right objects keys a o))
              | inr o ↦
                  let s = Contains-from_map (λ (i : OpId). i.actor) ss a o in
                  let y = succ_from (all_operations (changes C)) x.id s.0 s.1 in
                  let z = known y.0 y.1 in
                  subst (IsListed (used_actors C)) (sym (s.2 ∙ ap (λ (i : OpId). i.actor) y.2 ∙ z.actor)) (author z.of z.is_member)
            ]
          ]
        ]);
      }

  in_order : IsPermutation C (order C)
  unfolding order
  in_order = IsPermutation-sorted_by (canonical_cmp C) C

  meta_within : (m : Member) → Contains (order C) m → MetaWithin (used_actors C) (length (metas (order C))) (meta_of m.change (map (index (order C)) m.change.deps))
  meta_within m co =
      let c = Contains-permutation (order C) C m (IsPermutation-sym C (order C) in_order) co in
      let f : Fine m.change = g.fine m c in
      record {
        actor = author m c;
        seq = f.numbers.seq;
        max = f.numbers.max;
        time = f.numbers.time;
        message = f.message;
        deps = all_of (λ i. i < length (metas (order C))) (map (index (order C)) m.change.deps) (λ i ci.
            let h = Contains-from_map (index (order C)) m.change.deps i ci in
            let held : holds C h.0 ≡ true = All-contains (λ d. holds C d ≡ true) m.change.deps h.0 (g.facts.closed m c) h.1 in
            let there : holds (order C) h.0 ≡ true = list_any-IsPermutation (same hash_cmp h.0) (hashes (order C)) (hashes C) (IsPermutation-map (λ (m : Member). m.hash) (order C) C (IsPermutation-sym C (order C) in_order)) ∙ held in
            let l = position_in (same hash_cmp h.0) (hashes (order C)) there in
            let a = length-map (order C) (λ (m : Member). m.hash) in
            let b = length-map (order C) (λ (m : Member). meta_of m.change (map (index (order C)) m.change.deps)) in
            let e = h.2 in
            omega arith);
        extra = f.extra;
        short_extra = f.short_extra;
      }

-- ---- the table

pub table_within : (C : List Member) → Valid C → TableWithin (table C)
unfolding table
table_within C v =
    let g = grounds_valid C v in
    let cs : List Change = changes C in
    let A : List Operation = all_operations cs in
    let limits = limits_of cs (keeps_rules C v).limits in
    let ops = limits.operations in
    let preds = limits.preds in
    let links = limits.links in
    let many = limits.changes in
    record {
      rows = all_of (RowWithin (used_actors C)) (rows A) (λ r c. let x = row_from A r c in subst (RowWithin (used_actors C)) (sym x.2) (row_within C g x.0 (known C g x.0 x.1)));
      few_rows = (let a = few_rows A in let b = all_count cs in omega arith);
      few_succs = (let a = few_succs A (distinct_ids_valid C v) in let b = all_preds cs in omega arith);
      metas = all_of (MetaWithin (used_actors C) (length (metas (order C)))) (metas (order C)) (λ r c.
          let m = Contains-from_map (λ (m : Member). meta_of m.change (map (index (order C)) m.change.deps)) (order C) r c in
          subst (MetaWithin (used_actors C) (length (metas (order C)))) (sym m.2) (meta_within C g m.0 m.1));
      few_metas = (
          let a = length-map (order C) (λ (m : Member). meta_of m.change (map (index (order C)) m.change.deps)) in
          let b = length_permutation C (order C) (in_order C g) in
          let c = length-map C (λ (m : Member). m.change) in
          omega arith);
      few_deps = (
          let a = sum_by-map (λ (m : Meta). length m.deps) (λ (m : Member). meta_of m.change (map (index (order C)) m.change.deps)) (order C) in
          let b = sum_by-agree (λ (m : Member). length (map (index (order C)) m.change.deps)) (λ (m : Member). length m.change.deps) (λ m. length-map m.change.deps (index (order C))) (order C) in
          let c = sum_by-IsPermutation (λ (m : Member). length m.change.deps) C (order C) (in_order C g) in
          let d = sum_by-map (λ (c : Change). length c.deps) (λ (m : Member). m.change) C in
          omega arith);
    }
