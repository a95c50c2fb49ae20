-- The operations of a change, by their places.
use Rattle.std.proofs.Common.{ℕ, zero, suc, ◌≡◌, ◌+◌, ◌-◌, ◌<◌, ◌≤◌, ◌&&◌, List, [], ◌∷◌, ◌++◌, length, get_or, take, nat_le, nat_lt, Bool, true, false, Option, Some, None, option_map, slice_get, cond, refl, sym, ap, ◌∙◌, inl, inr, Contains, arith}
use Rattle.std.specs.List.{list_any}
use Rattle.std.specs.Option.{option_map_or}
use Rattle.std.proofs.lemmas.Bool.{cases_Bool, both_ways, and_from, and_parts, leb-true, ltb-true, le-leb, lt-ltb}
use Rattle.std.proofs.lemmas.Cmp.{nat_list_eq_equiv}
use Rattle.std.proofs.lemmas.List.{length-take, get_or-take, take_more, map_push}
use Rattle.std.proofs.lemmas.List.Folds.{Any-from_list_any, list_any_at}
use Rattle.std.proofs.lemmas.Option.{slice_get-get_or, slice_get_within, get_or_from_slice_get}
use Rattle.am_types.specs.declared.OpId.{OpId}
use Rattle.am_types.specs.declared.Op.{Op}
use Rattle.am_types.specs.declared.Change.{Change}
use Rattle.am_types.specs.Same.{same_bytes, same_id}
use Rattle.am_types.specs.Operations.{Operation, numbered, operations}
use Rattle.am_types.proofs.Orders.{same_bytes-true}
use Rattle.am_types.proofs.Orders.{same_id-true, same_id_itself}
use Rattle.am_laws.proofs.Growth.{same_answers}
use Rattle.am_fits.specs.Facts.{Fact, fact_of, facts}
use Rattle.am_fits.specs.Told.{own, own_fact}

pub length-numbered : (s : ℕ) (a : List ℕ) (ops : List Op) → length (numbered s a ops) ≡ length ops
length-numbered s a [] = refl
length-numbered s a (op ∷ ops) = ap suc (length-numbered (s + 1) a ops)

pub numbered_get : (s : ℕ) (a : List ℕ) (ops : List Op) (k : ℕ) (d : Operation) (e : Op) → k < length ops → get_or (numbered s a ops) k d ≡ record { id = record { counter = s + k; actor = a }; op = get_or ops k e }
numbered_get s a [] k d e l = absurd (omega arith)
numbered_get s a (op ∷ ops) zero d e l = let z : s ≡ s + 0 = omega arith in λ j. record { id = record { counter = z j; actor = a }; op = op }
numbered_get s a (op ∷ ops) (suc k) d e l =
    let again : get_or (numbered (s + 1) a ops) k d ≡ record { id = record { counter = s + 1 + k; actor = a }; op = get_or ops k e } = numbered_get (s + 1) a ops k d e (omega arith) in
    let z : s + 1 + k ≡ s + suc k = omega arith in
    again ∙ (λ j. record { id = record { counter = z j; actor = a }; op = get_or ops k e })

pub own_get : (c : Change) (k : ℕ) (d : Operation) (e : Op) → k < length c.ops → get_or (operations c) k d ≡ own c k (get_or c.ops k e)
own_get c k d e l = numbered_get c.start c.actor c.ops k d e l

pub length-operations : (c : Change) → length (operations c) ≡ length c.ops
length-operations c = length-numbered c.start c.actor c.ops

-- an operation before the place k stands at a place below k
pub own_before : (c : Change) (k : ℕ) (x : Operation) → Contains (take k (operations c)) x → (j : ℕ) × (j < k) × (j < length c.ops) × (x ≡ own c j (get_or c.ops j x.op))
own_before c k x h =
    let j = h.0 in
    let few : j < length (take k (operations c)) = h.1 in
    let many = length-take k (operations c) in
    let size = length-operations c in
    let lk : j < k = omega arith in
    let lc : j < length c.ops = omega arith in
    (j, lk, lc, sym h.2 ∙ get_or-take k (operations c) j x lk ∙ own_get c j x x.op lc)

-- ---- by their ids

some_passes : (p : Fact → Bool) (o : Option Fact) → option_map_or p o false ≡ true → (f : Fact) × (o ≡ Some f) × (p f ≡ true)
some_passes p None e = absurd (both_ways false refl e)
some_passes p (Some f) e = (f, refl, e)

module _ (c : Change) (k : ℕ) where
  abbrev is_own : OpId → Bool
  is_own i = same_bytes i.actor c.actor && nat_le c.start i.counter && nat_lt (i.counter - c.start) k

  abbrev found : OpId → Option Fact
  found i = option_map (λ op. fact_of (record { id = i; op = op })) (slice_get c.ops (i.counter - c.start))

  -- the operation at a place is found by its id
  own_found : (j : ℕ) (e : Op) → j < k → j < length c.ops → own_fact c k (own c j e).id ≡ Some (fact_of (own c j (get_or c.ops j e)))
  own_found j e l m =
      let i : OpId = (own c j e).id in
      let at : c.start + j - c.start ≡ j = omega arith in
      let low : c.start ≤ c.start + j = omega arith in
      let high : c.start + j - c.start < k = omega arith in
      let t : is_own i ≡ true = and_from _ _ (and_from _ _ (nat_list_eq_equiv.refl c.actor) (le-leb c.start (c.start + j) low)) (lt-ltb (c.start + j - c.start) k high) in
      ap (λ b. cond b (found i) None) t ∙ ap (λ n. option_map (λ op. fact_of (record { id = i; op = op })) (slice_get c.ops n)) at
      ∙ ap (option_map (λ op. fact_of (record { id = i; op = op }))) (slice_get-get_or c.ops j e m)

  -- what is found by an id is the operation at a place
  own_from : (i : OpId) (f : Fact) → own_fact c k i ≡ Some f → (j : ℕ) × (op : Op) × (j < k) × (slice_get c.ops j ≡ Some op) × (i ≡ (own c j op).id) × (f ≡ fact_of (own c j op))
  own_from i f e = elim (cases_Bool (is_own i)) [
    | inl t ↦
        let p = and_parts (same_bytes i.actor c.actor && nat_le c.start i.counter) (nat_lt (i.counter - c.start) k) t in
        let q = and_parts (same_bytes i.actor c.actor) (nat_le c.start i.counter) p.0 in
        let low : c.start ≤ i.counter = leb-true c.start i.counter q.1 in
        let high : i.counter - c.start < k = ltb-true (i.counter - c.start) k p.1 in
        let sum : i.counter ≡ c.start + (i.counter - c.start) = omega arith in
        let is : (op : Op) → i ≡ (own c (i.counter - c.start) op).id = λ op j. record { counter = sum j; actor = same_bytes-true i.actor c.actor q.0 j } in
        go (i.counter - c.start) high is (slice_get c.ops (i.counter - c.start)) refl (sym (ap (λ b. cond b (found i) None) t) ∙ e)
    | inr t ↦ absurd (no (sym (ap (λ b. cond b (found i) None) t) ∙ e))
  ]
    where
      no : None ≡ Some f → ⊥
      no g = cc

      go : (j : ℕ) → j < k → ((op : Op) → i ≡ (own c j op).id) → (o : Option Op) → slice_get c.ops j ≡ o → option_map (λ op. fact_of (record { id = i; op = op })) o ≡ Some f
          → (j : ℕ) × (op : Op) × (j < k) × (slice_get c.ops j ≡ Some op) × (i ≡ (own c j op).id) × (f ≡ fact_of (own c j op))
      go j l is None s g = absurd (no g)
      go j l is (Some op) s g =
          let h : fact_of (record { id = i; op = op }) ≡ f = inner g in
          (j, op, l, s, is op, sym h ∙ ap (λ n. fact_of (record { id = n; op = op })) (is op))
        where
          inner : Some (fact_of (record { id = i; op = op })) ≡ Some f → fact_of (record { id = i; op = op }) ≡ f
          inner g = cc

  -- a test of the change's operations before the place k with some id
  pub any_own : (i : OpId) (p : Fact → Bool) → list_any (λ x. same_id x.id i && p (fact_of x)) (take k (operations c)) ≡ option_map_or p (own_fact c k i) false
  any_own i p = same_answers (list_any q (take k (operations c))) (option_map_or p (own_fact c k i) false) to back
    where
      q : Operation → Bool
      q x = same_id x.id i && p (fact_of x)

      to : list_any (λ x. same_id x.id i && p (fact_of x)) (take k (operations c)) ≡ true → option_map_or p (own_fact c k i) false ≡ true
      to t =
          let a = Any-from_list_any (λ x. same_id x.id i && p (fact_of x)) (take k (operations c)) t in
          let x : Operation = a.1 in
          let b = own_before c k x (a.0, a.2, a.3) in
          let parts = and_parts (same_id x.id i) (p (fact_of x)) a.4 in
          let id : (own c b.0 x.op).id ≡ i = sym (ap (λ (z : Operation). z.id) b.3) ∙ same_id-true x.id i parts.0 in
          let f : own_fact c k i ≡ Some (fact_of x) = ap (own_fact c k) (sym id) ∙ own_found b.0 x.op b.1 b.2 ∙ ap (λ (z : Operation). Some (fact_of z)) (sym b.3) in
          ap (λ o. option_map_or p o false) f ∙ parts.1

      back : option_map_or p (own_fact c k i) false ≡ true → list_any (λ x. same_id x.id i && p (fact_of x)) (take k (operations c)) ≡ true
      back t =
          let s = some_passes p (own_fact c k i) t in
          let g = own_from i s.0 s.1 in
          let j = g.0 in
          let op = g.1 in
          let l : j < length c.ops = slice_get_within c.ops j op g.3 in
          let size = length-operations c in
          let many = length-take k (operations c) in
          let lk : j < k = g.2 in
          let lt : j < length (take k (operations c)) = omega arith in
          let d : Operation = own c j op in
          let at : get_or (take k (operations c)) j d ≡ d = get_or-take k (operations c) j d lk ∙ own_get c j d op l ∙ ap (own c j) (get_or_from_slice_get c.ops j op op g.3) in
          list_any_at (λ x. same_id x.id i && p (fact_of x)) (take k (operations c)) j d lt
          (ap (λ (z : Operation). same_id z.id i && p (fact_of z)) at ∙ and_from _ _ (ap (same_id d.id) g.4 ∙ same_id_itself d.id) (ap p (sym g.5) ∙ s.2))

-- ---- the facts of a change join one by one

pub facts_more : (c : Change) (k : ℕ) (e : Op) → k < length c.ops → facts (take (k + 1) (operations c)) ≡ facts (take k (operations c)) ++ ((own c k (get_or c.ops k e)).id, fact_of (own c k (get_or c.ops k e))) ∷ []
facts_more c k e l =
    let size = length-operations c in
    let lo : k < length (operations c) = omega arith in
    ap facts (take_more (operations c) k (own c k e) lo ∙ ap (λ (x : Operation). take k (operations c) ++ x ∷ []) (own_get c k (own c k e) e l))
    ∙ map_push (λ (x : Operation). (x.id, fact_of x)) (take k (operations c)) (own c k (get_or c.ops k e))
