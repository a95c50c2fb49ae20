-- What the operations of a valid set are among each other.
use Rattle.std.proofs.Common.{◌≡◌, List, [], false, Bool, Contains}
use Rattle.am_types.specs.declared.OpId.{OpId}
use Rattle.am_types.specs.Operations.{Operation, OneOperationPerId}
use Rattle.am_types.specs.Elements.{part}
use Rattle.am_laws.proofs.Ancestry.{Contains-from_filter}
use Rattle.am_view.proofs.Folded.{acts, NamesEarlier}

pub record Orderly (S : List Operation) : Type 0 where
  pub distinct : OneOperationPerId S
  pub earlier : NamesEarlier S
  pub idle : (x : Operation) → Contains S x → acts x ≡ false → x.op.preds ≡ []

pub orderly_part : (q : OpId → Bool) (S : List Operation) → Orderly S → Orderly (part q S)
orderly_part q S o =
    let back : (x : Operation) → Contains (part q S) x → Contains S x = λ x c. (Contains-from_filter (λ (x : Operation). q x.id) S x c).0 in
    record {
      distinct = λ x y cx cy. o.distinct x y (back x cx) (back y cy);
      earlier = λ x y cx cy. o.earlier x y (back x cx) (back y cy);
      idle = λ x c. o.idle x (back x c);
    }
