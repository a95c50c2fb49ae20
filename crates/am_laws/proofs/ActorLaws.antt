-- In a valid set each actor that an operation names is the author of a member.
use Rattle.std.proofs.Common.{ℕ, ◌≡◌, ◌+◌, List, [], ◌∷◌, ◌++◌, true, not, ◌&&◌, ◌==◌, map, flat_map, refl, sym, ap, ◌∙◌, inl, inr, subst, Contains, arith}
use Rattle.std.specs.List.{dedup}
use Rattle.std.proofs.lemmas.Bool.{and_parts}
use Rattle.std.proofs.lemmas.List.Elements.{All-contains, Contains-append_cases}
use Rattle.std.proofs.lemmas.List.Folds.{Any-from_list_any}
use Rattle.std.proofs.lemmas.List.Sums.{AllPass-from_list_all}
use Rattle.am_laws.specs.Records.{OpId, ObjId, Root, Made, Key, Name, Head, Elem, Op}
use Rattle.am_laws.specs.Tables.{authors}
use Rattle.am_types.specs.Actions as actions
use Rattle.am_types.specs.Order.{bytes_cmp, sorted_by}
use Rattle.am_types.specs.Same.{same_bytes, same_id, same_object, same_key}
use Rattle.am_types.specs.Operations.{Operation, numbered, all_operations, slot}
use Rattle.am_types.specs.Members.{Member, changes}
use Rattle.am_types.specs.Ancestors.{ancestors}
use Rattle.am_types.specs.References.{takes, object_takes, element_known, pred_known}
use Rattle.am_types.specs.ValidSets.{Valid}
use Rattle.am_types.specs.Documents.{object_actors, key_actors, op_actors, actors, used_actors}
use Rattle.am_types.proofs.Lists.{Contains-head, Contains-tail}
use Rattle.am_types.proofs.Orders.{same_id-true}
use Rattle.am_laws.proofs.Climbing.{once_same}
use Rattle.am_laws.proofs.DistinctIds.{ancestor_is_member, numbered_at, operation_of}
use Rattle.am_laws.proofs.Grounds.{Grounds, Placed, placed}
use Rattle.am_laws.proofs.References.{operation_in}
use Rattle.am_laws.proofs.SameMembers.{Contains-cons_cases}
use Rattle.am_laws.proofs.Sums.{Contains-flat_map, Contains-from_flat_map, Contains-from_map}
use Rattle.am_laws.proofs.ValidSetLaws.{grounds_valid}

-- a member's author is among the authors
author_there : (C : List Member) (m : Member) → Contains C m → Contains (authors C) m.change.actor
author_there [] m c = absurd (omega (arith, c.1))
author_there (n ∷ C) m c =
    let again : Contains C m → Contains (authors C) m.change.actor = author_there C m in
    elim (Contains-cons_cases n C m c) [
      | inl e ↦ subst (λ a. Contains (authors (n ∷ C)) a) (ap (λ (k : Member). k.change.actor) e) (Contains-head n.change.actor (authors C))
      | inr t ↦ Contains-tail n.change.actor (authors C) m.change.actor (again t)
    ]

-- the actor of an operation is an author
operation_author : (C : List Member) (y : Operation) → Contains (all_operations (changes C)) y → Contains (authors C) y.id.actor
operation_author C y c =
    let o = operation_of C y c in
    let m = o.0 in
    let p = numbered_at m.change.start m.change.actor m.change.ops y o.2.0 o.2.1 o.2.2 in
    subst (Contains (authors C)) (sym (ap (λ (z : Operation). z.id.actor) p.1.1)) (author_there C m o.1)

module _ (C : List Member) (g : Grounds C) (x : Operation) (p : Placed C x) where
  seen_author : (y : Operation) → Contains p.before.seen y → Contains (authors C) y.id.actor
  seen_author y c = elim (p.before.from y c).0 [
    | inl k ↦
        let o = operation_of (ancestors C p.of.change.deps) y k in
        let m = o.0 in
        let q = numbered_at m.change.start m.change.actor m.change.ops y o.2.0 o.2.1 o.2.2 in
        subst (Contains (authors C)) (sym (ap (λ (z : Operation). z.id.actor) q.1.1)) (author_there C m (ancestor_is_member C p.of.change.deps m o.1))
    | inr o ↦
        let m = p.of in
        let q = numbered_at m.change.start m.change.actor m.change.ops y o.0 o.1 o.2 in
        subst (Contains (authors C)) (sym (ap (λ (z : Operation). z.id.actor) q.1.1)) (author_there C m p.is_member)
  ]

  -- an id that passes a test at one that is seen
  id_author : (i : OpId) (y : Operation) → Contains p.before.seen y → same_id y.id i ≡ true → Contains (authors C) i.actor
  id_author i y c t = subst (λ (j : OpId). Contains (authors C) j.actor) (same_id-true y.id i t) (seen_author y c)

  object_author : (o : ObjId) → x.op.obj ≡ o → (a : List ℕ) → Contains (object_actors o) a → Contains (authors C) a
  object_author Root e a c = absurd (omega (arith, c.1))
  object_author (Made i) e a c =
      let good : object_takes p.before.seen (Made i) x.op.key ≡ true = ap (λ o. object_takes p.before.seen o x.op.key) (sym e) ∙ (and_parts _ _ (and_parts _ _ p.before.good).0).0 in
      let f = Any-from_list_any (λ (y : Operation). same_id y.id i && takes y.op.action x.op.key) p.before.seen good in
      let y = f.1 in
      let t = (and_parts (same_id y.id i) (takes y.op.action x.op.key) f.4).0 in
      elim (Contains-cons_cases i.actor [] a c) [
        | inl same ↦ subst (Contains (authors C)) same (id_author i y (f.0, f.2, f.3) t)
        | inr n ↦ absurd (omega (arith, n.1))
      ]

  key_author : (k : Key) → x.op.key ≡ k → (a : List ℕ) → Contains (key_actors k) a → Contains (authors C) a
  key_author (Name n) e a c = absurd (omega (arith, c.1))
  key_author Head e a c = absurd (omega (arith, c.1))
  key_author (Elem i) e a c =
      let good : element_known p.before.seen x.op.obj (Elem i) ≡ true = ap (element_known p.before.seen x.op.obj) (sym e) ∙ (and_parts _ _ (and_parts _ _ p.before.good).0).1 in
      let f = Any-from_list_any (λ (y : Operation). same_id y.id i && y.op.insert && same_object y.op.obj x.op.obj) p.before.seen good in
      let y = f.1 in
      let t = (and_parts (same_id y.id i) y.op.insert (and_parts (same_id y.id i && y.op.insert) (same_object y.op.obj x.op.obj) f.4).0).0 in
      elim (Contains-cons_cases i.actor [] a c) [
        | inl same ↦ subst (Contains (authors C)) same (id_author i y (f.0, f.2, f.3) t)
        | inr n ↦ absurd (omega (arith, n.1))
      ]

  pred_author : (i : OpId) → Contains x.op.preds i → Contains (authors C) i.actor
  pred_author i c =
      let all = AllPass-from_list_all (pred_known p.before.seen x) x.op.preds (and_parts _ _ p.before.good).1 in
      let good = All-contains (λ i. pred_known p.before.seen x i ≡ true) x.op.preds i all c in
      let f = Any-from_list_any (λ (y : Operation). same_id y.id i && not (y.op.action == actions.del) && same_object y.op.obj x.op.obj && same_key (slot y) (slot x)) p.before.seen good in
      let y = f.1 in
      let a = and_parts (same_id y.id i && not (y.op.action == actions.del) && same_object y.op.obj x.op.obj) (same_key (slot y) (slot x)) f.4 in
      let b = and_parts (same_id y.id i && not (y.op.action == actions.del)) (same_object y.op.obj x.op.obj) a.0 in
      let t = (and_parts (same_id y.id i) (not (y.op.action == actions.del)) b.0).0 in
      id_author i y (f.0, f.2, f.3) t

  op_author : (a : List ℕ) → Contains (op_actors x.op) a → Contains (authors C) a
  op_author a c =
      let objects : List (List ℕ) = object_actors x.op.obj in
      let keys : List (List ℕ) = key_actors x.op.key in
      let preds : List (List ℕ) = map (λ (i : OpId). i.actor) x.op.preds in
      elim (Contains-append_cases (objects ++ keys) preds a c) [
        | inl front ↦ elim (Contains-append_cases objects keys a front) [
          | inl o ↦ object_author x.op.obj refl a o
          | inr k ↦ key_author x.op.key refl a k
        ]
        | inr q ↦ let i = Contains-from_map (λ (i : OpId). i.actor) x.op.preds a q in subst (Contains (authors C)) (sym i.2) (pred_author i.0 i.1)
      ]

numbered_has : (s : ℕ) (a : List ℕ) (ops : List Op) (op : Op) → Contains ops op → (x : Operation) × Contains (numbered s a ops) x × (x.op ≡ op)
numbered_has s a [] op c = absurd (omega (arith, c.1))
numbered_has s a (first ∷ ops) op c =
    let again : Contains ops op → (x : Operation) × Contains (numbered (s + 1) a ops) x × (x.op ≡ op) = numbered_has (s + 1) a ops op in
    let x : Operation = record { id = record { counter = s; actor = a }; op = first } in
    elim (Contains-cons_cases first ops op c) [
      | inl e ↦ (x, Contains-head x (numbered (s + 1) a ops), e)
      | inr t ↦ let f = again t in (f.0, Contains-tail x (numbered (s + 1) a ops) f.0 f.1, f.2)
    ]

used_author : (C : List Member) → Grounds C → (a : List ℕ) → Contains (actors C) a → Contains (authors C) a
used_author C g a c =
    let f = Contains-from_flat_map (λ (m : Member). m.change.actor ∷ flat_map op_actors m.change.ops) C a c in
    let m = f.0 in
    elim (Contains-cons_cases m.change.actor (flat_map op_actors m.change.ops) a f.2) [
      | inl e ↦ subst (Contains (authors C)) e (author_there C m f.1)
      | inr r ↦
          let o = Contains-from_flat_map op_actors m.change.ops a r in
          let x = numbered_has m.change.start m.change.actor m.change.ops o.0 o.1 in
          let p = placed C g x.0 (operation_in C m x.0 f.1 x.1) in
          op_author C g x.0 p a (subst (λ op. Contains (op_actors op) a) (sym x.2) o.2)
    ]

author_used : (C : List Member) (a : List ℕ) → Contains (authors C) a → Contains (actors C) a
author_used C a c =
    let m = Contains-from_map (λ (m : Member). m.change.actor) C a c in
    let actor = m.0.change.actor in
    subst (Contains (actors C)) (sym m.2)
    (Contains-flat_map (λ (m : Member). m.change.actor ∷ flat_map op_actors m.change.ops) C m.0 actor m.1 (Contains-head actor (flat_map op_actors m.0.change.ops)))

pub actors_are_authors : (C : List Member) → Valid C → used_actors C ≡ dedup same_bytes (sorted_by bytes_cmp (authors C))
actors_are_authors C v = once_same (actors C) (authors C) (used_author C (grounds_valid C v)) (author_used C)
