-- A change by which an id is covered.
--     Covers A i      a change among A is of the actor of the id i, and its last counter isn't below that of i
use Rattle.std.proofs.Common.{◌≡◌, ◌≤◌, ◌∙◌, List, Bool, true, ◌&&◌, nat_le, sym, ap, Contains}
use Rattle.std.proofs.lemmas.Bool.{and_parts, and_from, le-leb, leb-true}
use Rattle.std.proofs.lemmas.Cmp.{nat_list_eq_equiv}
use Rattle.std.proofs.lemmas.List.Folds.{Any-from_list_any, list_any-from_Any}
use Rattle.am_types.specs.declared.OpId.{OpId}
use Rattle.am_types.specs.Same.{same_bytes}
use Rattle.am_types.specs.Operations.{max}
use Rattle.am_types.specs.Members.{Member}
use Rattle.am_types.specs.Clocks.{covers}
use Rattle.am_types.proofs.Orders.{same_bytes-true}

pub record Covers (A : List Member) (i : OpId) : Type 0 where
  pub by : Member
  pub is_among : Contains A by
  pub actor : by.change.actor ≡ i.actor
  pub reaches : i.counter ≤ max by.change

module _ (A : List Member) (i : OpId) where
  abbrev test : Member → Bool
  test m = same_bytes m.change.actor i.actor && nat_le i.counter (max m.change)

  -- what is covered has such a change
  pub covering : covers A i ≡ true → Covers A i
  covering t =
      let a = Any-from_list_any test A t in
      let m = a.1 in
      let both = and_parts (same_bytes m.change.actor i.actor) (nat_le i.counter (max m.change)) a.4 in
      record {
        by = m;
        is_among = (a.0, a.2, a.3);
        actor = same_bytes-true m.change.actor i.actor both.0;
        reaches = leb-true i.counter (max m.change) both.1;
      }

  -- and what has one is covered
  pub covered : Covers A i → covers A i ≡ true
  covered c =
      let m = c.by in
      list_any-from_Any test A (c.is_among.0, m, c.is_among.1, c.is_among.2, and_from _ _ (ap (same_bytes m.change.actor) (sym c.actor) ∙ nat_list_eq_equiv.refl m.change.actor) (le-leb i.counter (max m.change) c.reaches))
