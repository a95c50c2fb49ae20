-- The operations of a valid set: their ids differ, and their preds are known.
use Rattle.std.proofs.Common.{ℕ, ◌≡◌, ◌+◌, ◌<◌, ◌≤◌, List, [], ◌∷◌, ◌++◌, length, map, true, false, ◌==◌, None, refl, sym, ap, ◌∙◌, subst, inl, inr, ◌⊎◌, Contains, arith}
use Rattle.std.specs.List.{AllByRecursion}
use Rattle.std.specs.List.Sorted.{IsStrictlySortedBy}
use Rattle.std.specs.declared.cmp.Ordering.TheVariants.{Less}
use Rattle.std.proofs.lemmas.Bool.{cases_Bool, and_parts, not-true, lt-ltb, cases_order}
use Rattle.std.proofs.lemmas.List.{append_assoc}
use Rattle.std.proofs.lemmas.List.Elements.{All-contains, Contains-append_left, Contains-push_cases}
use Rattle.std.proofs.lemmas.Option.{none-some}
use Rattle.am_types.specs.declared.OpId.{OpId}
use Rattle.am_types.specs.declared.Hash.{Hash}
use Rattle.am_types.specs.declared.Op.{Op}
use Rattle.am_types.specs.declared.Verdict.TheVariants.{BadReference}
use Rattle.am_types.specs.Actions as actions
use Rattle.am_types.specs.Order.{id_cmp}
use Rattle.am_types.specs.Operations.{Operation, numbered, operations, all_operations, slot, max}
use Rattle.am_types.specs.Fine.{FineOp}
use Rattle.am_types.specs.Members.{Member, changes}
use Rattle.am_types.specs.Ancestors.{ancestors, ancestor_hashes, is_named}
use Rattle.am_types.specs.ValidSets.{Joins, JoinInTurn}
use Rattle.am_types.specs.References.{has_good_references, pred_known, first_bad}
use Rattle.am_laws.proofs.VerdictLaws.{fits_by}
use Rattle.am_types.proofs.Orders.{same_id-true}
use Rattle.am_laws.proofs.Ancestry.{Contains-from_filter}
use Rattle.am_histories.proofs.Sorted.{Contains-cases, Contains-here, Contains-there, Contains-none}
use Rattle.am_histories.proofs.Contained.{Contains-map, Contains-from_map, Contains-flat_map, Contains-from_flat_map, all_passes}
use Rattle.am_histories.proofs.Tests.{same_object-true, same_key-true, unmapped, any_has}
use Rattle.am_histories.proofs.Authors.{Settled, Settled-all, Settled-nil}

-- ---- the operations of one change

pub record IsNumbered (start : ℕ) (actor : List ℕ) (ops : List Op) (x : Operation) : Type 0 where
  pub actor_is : x.id.actor ≡ actor
  pub low : start ≤ x.id.counter
  pub high : x.id.counter < start + length ops
  pub op_in : Contains ops x.op

pub numbered-is : (start : ℕ) (actor : List ℕ) (ops : List Op) (x : Operation) → Contains (numbered start actor ops) x → IsNumbered start actor ops x
numbered-is start actor [] x c = absurd (Contains-none x c)
numbered-is start actor (op ∷ ops) x c =
    let again : Contains (numbered (start + 1) actor ops) x → IsNumbered (start + 1) actor ops x = numbered-is (start + 1) actor ops x in
    elim (Contains-cases _ x _ c) [
      | inl e ↦ subst (IsNumbered start actor (op ∷ ops)) e (record { actor_is = refl; low = omega arith; high = omega arith; op_in = Contains-here op ops })
      | inr d ↦ let n = again d in
          let low = n.low in let high = n.high in
          record { actor_is = n.actor_is; low = omega arith; high = omega arith; op_in = Contains-there op x.op ops n.op_in }
    ]

pub numbered-distinct : (start : ℕ) (actor : List ℕ) (ops : List Op) (x y : Operation) → Contains (numbered start actor ops) x → Contains (numbered start actor ops) y → x.id ≡ y.id → x ≡ y
numbered-distinct start actor [] x y c d e = absurd (Contains-none x c)
numbered-distinct start actor (op ∷ ops) x y c d e =
    let again : Contains (numbered (start + 1) actor ops) x → Contains (numbered (start + 1) actor ops) y → x ≡ y = λ f g. numbered-distinct (start + 1) actor ops x y f g e in
    let counters : x.id.counter ≡ y.id.counter = ap (λ (i : OpId). i.counter) e in
    elim (Contains-cases _ x _ c) [
      | inl f ↦ elim (Contains-cases _ y _ d) [
        | inl g ↦ sym f ∙ g
        | inr g ↦ let h : start ≡ x.id.counter = ap (λ (x : Operation). x.id.counter) f in let low = (numbered-is (start + 1) actor ops y g).low in absurd (omega arith)
      ]
      | inr f ↦ elim (Contains-cases _ y _ d) [
        | inl g ↦ let h : start ≡ y.id.counter = ap (λ (x : Operation). x.id.counter) g in let low = (numbered-is (start + 1) actor ops x f).low in absurd (omega arith)
        | inr g ↦ again f g
      ]
    ]

lower_counter : (a b : OpId) → a.counter < b.counter → id_cmp a b ≡ Less
lower_counter a b l = let t = lt-ltb a.counter b.counter l in simp t refl

above_all : (start : ℕ) (actor : List ℕ) (ops : List Op) (i : OpId) → i.counter < start → AllByRecursion (λ j. id_cmp i j ≡ Less) (map (λ (x : Operation). x.id) (numbered start actor ops))
above_all start actor [] i l = tt
above_all start actor (op ∷ ops) i l = (lower_counter i (record { counter = start; actor = actor }) l, above_all (start + 1) actor ops i (omega arith))

pub numbered-sorted : (start : ℕ) (actor : List ℕ) (ops : List Op) → IsStrictlySortedBy id_cmp (map (λ (x : Operation). x.id) (numbered start actor ops))
unfolding IsStrictlySortedBy
numbered-sorted start actor [] = tt
numbered-sorted start actor (op ∷ ops) = (above_all (start + 1) actor ops (record { counter = start; actor = actor }) (omega arith), numbered-sorted (start + 1) actor ops)

pub numbered-ops : (start : ℕ) (actor : List ℕ) (ops : List Op) → map (λ (x : Operation). x.op) (numbered start actor ops) ≡ ops
numbered-ops start actor [] = refl
numbered-ops start actor (op ∷ ops) = ap (λ l. op ∷ l) (numbered-ops (start + 1) actor ops)

-- ---- the operations of a set

pub operations_in : (L : List Member) (n : Member) (x : Operation) → Contains L n → Contains (operations n.change) x → Contains (all_operations (changes L)) x
operations_in L n x c d = Contains-flat_map operations (changes L) n.change x (Contains-map (λ (m : Member). m.change) L n c) d

pub operation_of : (L : List Member) (x : Operation) → Contains (all_operations (changes L)) x → (n : Member) × Contains L n × Contains (operations n.change) x
operation_of L x c =
    let r = Contains-from_flat_map operations (changes L) x c in
    let n = Contains-from_map (λ (m : Member). m.change) L r.0 r.1 in
    (n.0, n.1, subst (λ d. Contains (operations d) x) (sym n.2) r.2)

pub ancestor_in : (C : List Member) (hs : List Hash) (p : Member) → Contains (ancestors C hs) p → Contains C p
unfolding ancestors
ancestor_in C hs p c = (Contains-from_filter (is_named (ancestor_hashes C hs)) C p c).0

-- the place where a member joined
pub each_joins : (B rest : List Member) → JoinInTurn B rest → (n : Member) → Contains rest n → (E : List Member) × ((p : Member) → Contains E p → Contains (B ++ rest) p) × Joins E n
each_joins B [] t n c = absurd (Contains-none n c)
each_joins B (m ∷ rest) t n c = elim (Contains-cases m n rest c) [
  | inl e ↦ (B, λ p d. Contains-append_left B (m ∷ rest) p d, subst (Joins B) e t.0)
  | inr d ↦
      let r = each_joins (B ++ m ∷ []) rest t.1 n d in
      (r.0, λ p f. subst (λ l. Contains l p) (append_assoc B (m ∷ []) rest) (r.1 p f), r.2)
]

-- each operation has good references, among operations of which Q holds
good_references : (Q : Operation → Type 0) (known xs : List Operation) → ((y : Operation) → Contains known y → Q y) → ((y : Operation) → Contains xs y → Q y) → first_bad known xs ≡ None
    → (x : Operation) → Contains xs x → (K : List Operation) × ((y : Operation) → Contains K y → Q y) × (has_good_references K x ≡ true)
good_references Q known [] k h e x c = absurd (Contains-none x c)
good_references Q known (y ∷ ys) k h e x c = elim (cases_Bool (has_good_references known y)) [
  | inl good ↦ elim (Contains-cases y x ys c) [
    | inl s ↦ (known, k, subst (λ z. has_good_references known z ≡ true) s good)
    | inr d ↦ good_references Q (known ++ y ∷ []) ys
        (λ z f. elim (Contains-push_cases known y z f) [ inl g ↦ k z g | inr g ↦ subst Q g (h y (Contains-here y ys)) ])
        (λ z f. h z (Contains-there y z ys f))
        (unmapped (λ (i : ℕ). i + 1) _ (simp good at e)) x d
  ]
  | inr bad ↦ absurd (none-some 0 (sym (simp bad at e)))
]

-- what a pred of x is
pub record IsPred (A : List Operation) (x : Operation) (p : OpId) : Type 0 where
  pub named : Operation
  pub has : Contains A named
  pub id : named.id ≡ p
  pub kept : (named.op.action == actions.del) ≡ false
  pub object : named.op.obj ≡ x.op.obj
  pub slots : slot named ≡ slot x

is_pred : (A K : List Operation) → ((y : Operation) → Contains K y → Contains A y) → (x : Operation) (p : OpId) → pred_known K x p ≡ true → IsPred A x p
is_pred A K within x p e =
    let r = any_has _ K e in
    let a = and_parts _ _ r.2 in
    let b = and_parts _ _ a.0 in
    let c = and_parts _ _ b.0 in
    record {
      named = r.0;
      has = within r.0 r.1;
      id = same_id-true _ _ c.0;
      kept = not-true _ c.1;
      object = same_object-true _ _ b.1;
      slots = same_key-true _ _ a.1;
    }

pub record SoundOps (A : List Operation) : Type 0 where
  pub distinct : (x y : Operation) → Contains A x → Contains A y → x.id ≡ y.id → x ≡ y
  pub preds : (x : Operation) (p : OpId) → Contains A x → Contains x.op.preds p → IsPred A x p
  pub fine : (x : Operation) → Contains A x → FineOp x.op

module _ (L : List Member) (turn : JoinInTurn [] L) where
  pub settled : Settled L
  settled = Settled-all [] Settled-nil L turn

  -- of one author's changes, one ends before the other starts
  pub ranges_apart : (n p : Member) → Contains L n → Contains L p → n.change.actor ≡ p.change.actor → (n ≡ p) ⊎ ((max n.change < p.change.start) ⊎ (max p.change < n.change.start))
  ranges_apart n p c d a = elim (cases_order n.change.seq p.change.seq) [
    | inl e ↦ inl (settled.single n p c d a e)
    | inr o ↦ elim o [
      | inl l ↦
          let t = settled.steps p d n.change.seq (settled.fine n c).numbers.seq.0 l in
          let e : t.0 ≡ n = settled.single t.0 n t.1 c (t.2 ∙ sym a) t.3 in
          inr (inl (subst (λ (x : Member). max x.change < p.change.start) e t.4))
      | inr l ↦
          let t = settled.steps n c p.change.seq (settled.fine p d).numbers.seq.0 l in
          let e : t.0 ≡ p = settled.single t.0 p t.1 d (t.2 ∙ a) t.3 in
          inr (inr (subst (λ (x : Member). max x.change < n.change.start) e t.4))
    ]
  ]

  ids_distinct : (x y : Operation) → Contains (all_operations (changes L)) x → Contains (all_operations (changes L)) y → x.id ≡ y.id → x ≡ y
  ids_distinct x y c d e =
      let n = operation_of L x c in
      let p = operation_of L y d in
      let xs = numbered-is n.0.change.start n.0.change.actor n.0.change.ops x n.2 in
      let ys = numbered-is p.0.change.start p.0.change.actor p.0.change.ops y p.2 in
      let counters : x.id.counter ≡ y.id.counter = ap (λ (i : OpId). i.counter) e in
      let xl = xs.low in let xh = xs.high in let yl = ys.low in let yh = ys.high in
      elim (ranges_apart n.0 p.0 n.1 p.1 (sym xs.actor_is ∙ ap (λ (i : OpId). i.actor) e ∙ ys.actor_is)) [
        | inl same_one ↦ numbered-distinct p.0.change.start p.0.change.actor p.0.change.ops x y (subst (λ (m : Member). Contains (operations m.change) x) same_one n.2) p.2 e
        | inr o ↦ elim o [ inl l ↦ absurd (omega arith) | inr l ↦ absurd (omega arith) ]
      ]

  preds_are : (x : Operation) (p : OpId) → Contains (all_operations (changes L)) x → Contains x.op.preds p → IsPred (all_operations (changes L)) x p
  preds_are x p c d =
      let A : List Operation = all_operations (changes L) in
      let n = operation_of L x c in
      let j = each_joins [] L turn n.0 n.1 in
      let f = fits_by j.0 n.0.change j.2.fits in
      let known = all_operations (changes (ancestors j.0 n.0.change.deps)) in
      let g = good_references (Contains A) known (operations n.0.change)
      (λ y k. let o = operation_of (ancestors j.0 n.0.change.deps) y k in operations_in L o.0 y (j.1 o.0 (ancestor_in j.0 n.0.change.deps o.0 o.1)) o.2)
      (λ y k. operations_in L n.0 y n.1 k)
      (unmapped BadReference _ f.references) x n.2 in
      is_pred A g.0 g.1 x p (all_passes (pred_known g.0 x) x.op.preds p (and_parts _ _ g.2).1 d)

  ops_fine : (x : Operation) → Contains (all_operations (changes L)) x → FineOp x.op
  ops_fine x c =
      let n = operation_of L x c in
      All-contains FineOp n.0.change.ops x.op (settled.fine n.0 n.1).ops (numbered-is n.0.change.start n.0.change.actor n.0.change.ops x n.2).op_in

  pub sound_ops : SoundOps (all_operations (changes L))
  sound_ops = record { distinct = ids_distinct; preds = preds_are; fine = ops_fine }
