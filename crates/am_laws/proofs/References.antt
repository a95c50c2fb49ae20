-- In a valid set the element that an operation names is there, and so the reference of each insertion.
use Rattle.std.proofs.Common.{◌≡◌, ◌<◌, ◌&&◌, List, [], ◌∷◌, Bool, true, refl, sym, ap, ◌∙◌, subst, inl, inr, Contains, arith}
use Rattle.std.specs.Cmp.{nat_cmp_is}
use Rattle.std.specs.Ordering.{nat_cmp}
use Rattle.std.specs.declared.cmp.Ordering.TheVariants.{Less}
use Rattle.std.proofs.lemmas.Bool.{and_parts, and_from}
use Rattle.std.proofs.lemmas.List.Folds.{Any-from_list_any}
use Rattle.std.proofs.lemmas.List.Elements.{All-get_or, Contains-append_left, Contains-append_right}
use Rattle.am_laws.specs.Records.{OpId, Key, Name, Head, Elem}
use Rattle.am_types.specs.Order.{id_cmp}
use Rattle.am_types.specs.Same.{same_id, same_object}
use Rattle.am_types.specs.Operations.{Operation, operations, all_operations}
use Rattle.am_types.specs.Fine.{FineOp, IsListPlace}
use Rattle.am_types.specs.Members.{Member, changes}
use Rattle.am_types.specs.Ancestors.{ancestors}
use Rattle.am_types.specs.References.{element_known}
use Rattle.am_laws.specs.Laws.{IsReference, ReferenceIsThere}
use Rattle.am_types.proofs.Orders.{same_id-true}
use Rattle.am_laws.proofs.DistinctIds.{ancestor_is_member, numbered_at, operation_of}
use Rattle.am_laws.proofs.Grounds.{Grounds, placed}
use Rattle.am_laws.proofs.SameMembers.{Contains-cons_cases}

-- an operation of a member is one of the set
pub operation_in : (C : List Member) (m : Member) (x : Operation) → Contains C m → Contains (operations m.change) x → Contains (all_operations (changes C)) x
operation_in [] m x cm cx = absurd (omega (arith, cm.1))
operation_in (n ∷ C) m x cm cx =
    let again : Contains C m → Contains (all_operations (changes C)) x = λ c. operation_in C m x c cx in
    elim (Contains-cons_cases n C m cm) [
      | inl e ↦ Contains-append_left (operations n.change) (all_operations (changes C)) x (subst (λ (k : Member). Contains (operations k.change) x) (sym e) cx)
      | inr t ↦ Contains-append_right (operations n.change) (all_operations (changes C)) x (again t)
    ]

less_counter : (i j : OpId) → i.counter < j.counter → id_cmp i j ≡ Less
less_counter i j l = let e : Less ≡ nat_cmp i.counter j.counter = nat_cmp_is i.counter j.counter Less l in simp (← e) refl

module _ (C : List Member) (g : Grounds C) (x : Operation) (c : Contains (all_operations (changes C)) x) where
  pub fine_op : FineOp x.op
  fine_op =
      let o = operation_of C x c in
      let m = o.0 in
      let place = o.2 in
      let at = numbered_at m.change.start m.change.actor m.change.ops x place.0 place.1 place.2 in
      subst FineOp (sym (ap (λ (z : Operation). z.op) at.1.1)) (All-get_or FineOp m.change.ops at.0 x.op at.1.0 (g.fine m o.1).ops)

  pub refers : (r : OpId) → x.op.key ≡ Elem r → IsReference (all_operations (changes C)) x r
  refers r e =
      let p = placed C g x c in
      let known : element_known p.before.seen x.op.obj (Elem r) ≡ true = ap (element_known p.before.seen x.op.obj) (sym e) ∙ (and_parts _ _ (and_parts _ _ p.before.good).0).1 in
      let test : Operation → Bool = λ y. same_id y.id r && y.op.insert && same_object y.op.obj x.op.obj in
      let a = Any-from_list_any test p.before.seen known in
      let y = a.1 in
      let parts = and_parts (same_id y.id r && y.op.insert) (same_object y.op.obj x.op.obj) a.4 in
      let first = and_parts (same_id y.id r) y.op.insert parts.0 in
      let from = p.before.from y (a.0, a.2, a.3) in
      let is : y.id ≡ r = same_id-true y.id r first.0 in
      record {
        insertion = y;
        is_among = elim from.0 [
          | inl k ↦ let o = operation_of (ancestors C p.of.change.deps) y k in operation_in C o.0 y (ancestor_is_member C p.of.change.deps o.0 o.1) o.2
          | inr o ↦ operation_in C p.of y p.is_member o
        ];
        has_id = is;
        inserts = and_from _ _ first.1 parts.1;
        lower = subst (λ i. id_cmp i x.id ≡ Less) is (less_counter y.id x.id from.1);
      }

  pub stands : x.op.insert ≡ true → (k : Key) → x.op.key ≡ k → ReferenceIsThere (all_operations (changes C)) x k
  stands t Head e = tt
  stands t (Elem r) e = refers r e
  stands t (Name n) e = subst IsListPlace e (fine_op.insertion t).place
