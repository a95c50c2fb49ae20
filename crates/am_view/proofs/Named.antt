-- What the operations of a valid set name as predecessors, and that these operations are orderly.
use Rattle.std.proofs.Common.{ℕ, ◌≡◌, ◌<◌, ◌≤◌, List, Bool, true, false, not, ◌&&◌, ◌||◌, ◌==◌, refl, sym, ap, ◌∙◌, subst, inl, inr, Contains, arith}
use Rattle.std.proofs.lemmas.Bool.{and_parts, eqb-true, agree_below_at}
use Rattle.std.proofs.lemmas.List.Elements.{All-contains, All-get_or}
use Rattle.std.proofs.lemmas.List.Folds.{Any-from_list_any}
use Rattle.std.proofs.lemmas.List.Sums.{AllPass-from_list_all}
use Rattle.std.proofs.lemmas.Map.Views.{Contains-from_any}
use Rattle.am_types.specs.declared.OpId.{OpId}
use Rattle.am_types.specs.Actions as actions
use Rattle.am_types.specs.Same.{same_id, same_object, same_key}
use Rattle.am_types.specs.Operations.{Operation, all_operations, slot}
use Rattle.am_types.specs.Fine.{FineOp}
use Rattle.am_types.specs.Members.{Member, changes}
use Rattle.am_types.specs.Ancestors.{ancestors}
use Rattle.am_types.specs.References.{pred_known}
use Rattle.am_types.specs.ValidSets.{Valid}
use Rattle.am_types.proofs.Orders.{same_id-true}
use Rattle.am_types.proofs.SameLaws.{same_object-true, same_key-true}
use Rattle.am_laws.proofs.DistinctIds.{ancestor_is_member, operation_of, numbered_at}
use Rattle.am_laws.proofs.ListingLaws.{one_per_id}
use Rattle.am_laws.proofs.References.{operation_in}
use Rattle.am_laws.proofs.ValidSetLaws.{grounds_valid}
use Rattle.am_laws.proofs.Grounds.{Grounds, Placed, placed}
use Rattle.am_view.proofs.Folded.{names}
use Rattle.am_view.proofs.Orderly.{Orderly}

-- ---- what is orderly

idle_is_mark : (a : ℕ) → a ≤ 7 → ((a == actions.set || actions.is_make a) || a == actions.del || a == actions.inc) ≡ false → a ≡ actions.mark
idle_is_mark a l e =
    let f : ℕ → Bool = λ a. ((a == actions.set || actions.is_make a) || a == actions.del || a == actions.inc) || a == actions.mark in
    let t : f a ≡ true = agree_below_at f (λ a. true) 8 a refl (omega arith) in
    eqb-true a actions.mark (ap (λ b. b || a == actions.mark) (sym e) ∙ t)

seen_inside : (C : List Member) (x : Operation) (p : Placed C x) (y : Operation) → Contains p.before.seen y → Contains (all_operations (changes C)) y
seen_inside C x p y c = elim (p.before.from y c).0 [
  | inl k ↦ let o = operation_of (ancestors C p.of.change.deps) y k in operation_in C o.0 y (ancestor_is_member C p.of.change.deps o.0 o.1) o.2
  | inr o ↦ operation_in C p.of y p.is_member o
]

-- what y names as i
pub record Named (S : List Operation) (y : Operation) (i : OpId) : Type 0 where
  pub of : Operation
  pub inside : Contains S of
  pub id : of.id ≡ i
  pub obj : of.op.obj ≡ y.op.obj
  pub slot : slot of ≡ slot y
  pub low : of.id.counter < y.id.counter

pub named_at : (C : List Member) → Grounds C → (y : Operation) → Contains (all_operations (changes C)) y → (i : OpId) → names y i ≡ true → Named (all_operations (changes C)) y i
named_at C g y cy i t =
    let p = placed C g y cy in
    let preds = (and_parts _ _ p.before.good).1 in
    let all = AllPass-from_list_all (pred_known p.before.seen y) y.op.preds preds in
    let known = All-contains (λ i. pred_known p.before.seen y i ≡ true) y.op.preds i all (Contains-from_any same_id-true i y.op.preds t) in
    let a = Any-from_list_any (λ z. same_id z.id i && not (z.op.action == actions.del) && same_object z.op.obj y.op.obj && same_key (slot z) (slot y)) p.before.seen known in
    let four = and_parts _ _ a.4 in
    let three = and_parts _ _ four.0 in
    let two = and_parts _ _ three.0 in
    let c : Contains p.before.seen a.1 = (a.0, a.2, a.3) in
    record {
      of = a.1;
      inside = seen_inside C y p a.1 c;
      id = same_id-true a.1.id i two.0;
      obj = same_object-true a.1.op.obj y.op.obj three.1;
      slot = same_key-true (slot a.1) (slot y) four.1;
      low = (p.before.from a.1 c).1;
    }

fine_op : (C : List Member) → Grounds C → (x : Operation) → Contains (all_operations (changes C)) x → FineOp x.op
fine_op C g x c =
    let o = operation_of C x c in
    let m = o.0 in
    let own = o.2 in
    let at = numbered_at m.change.start m.change.actor m.change.ops x own.0 own.1 own.2 in
    subst FineOp (sym (ap (λ (z : Operation). z.op) at.1.1)) (All-get_or FineOp m.change.ops at.0 x.op at.1.0 (g.fine m o.1).ops)

pub orderly : (C : List Member) → Valid C → Orderly (all_operations (changes C))
orderly C v =
    let g = grounds_valid C v in
    record {
      distinct = one_per_id C v;
      earlier = λ x y cx cy t. let n = named_at C g y cy x.id t in subst (λ (i : OpId). i.counter < y.id.counter) n.id n.low;
      idle = λ x c e. let fine = fine_op C g x c in (fine.insertion (fine.mark (idle_is_mark x.op.action fine.action e))).preds;
    }
