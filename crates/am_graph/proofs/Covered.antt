-- In a valid set, of the operations of the set, a clock covers just those of the ancestors.
use Rattle.std.proofs.Common.{◌≡◌, ◌+◌, ◌-◌, ◌<◌, ◌≤◌, List, length, sym, ap, ◌∙◌, subst, inl, inr, Contains, arith}
use Rattle.std.proofs.lemmas.Bool.{cases_order}
use Rattle.am_types.specs.declared.Hash.{Hash}
use Rattle.am_types.specs.Operations.{Operation, operations, max}
use Rattle.am_types.specs.Members.{Member}
use Rattle.am_types.specs.Ancestors.{ancestors}
use Rattle.am_laws.proofs.Listed.{Facts}
use Rattle.am_laws.proofs.DistinctIds.{numbered_at, later_starts_above, earlier, ancestors_trans, ancestor_is_member}
use Rattle.am_graph.proofs.Covering.{Covers}

-- an operation's counter lies between its change's start and end
pub op_within : (m : Member) (x : Operation) → Contains (operations m.change) x → (x.id.actor ≡ m.change.actor) × (m.change.start ≤ x.id.counter) × (x.id.counter ≤ max m.change)
op_within m x o =
    let p = numbered_at m.change.start m.change.actor m.change.ops x o.0 o.1 o.2 in
    let e : x.id.counter ≡ m.change.start + p.0 = ap (λ z. z.id.counter) p.1.1 in
    let l : p.0 < length m.change.ops = p.1.0 in
    (ap (λ z. z.id.actor) p.1.1, omega arith, omega arith)

module _ (C : List Member) (facts : Facts C) (hs : List Hash) where
  -- what is covered is an ancestor's
  pub covered_is_ancestor : (m : Member) (x : Operation) → Contains C m → Contains (operations m.change) x → Covers (ancestors C hs) x.id → Contains (ancestors C hs) m
  covered_is_ancestor m x cm cx v =
      let w = op_within m x cx in
      let n = v.by in
      let cn = ancestor_is_member C hs n v.is_among in
      let actors : n.change.actor ≡ m.change.actor = v.actor ∙ w.0 in
      let low : m.change.start ≤ x.id.counter = w.1 in
      let high : x.id.counter ≤ max n.change = v.reaches in
      elim (cases_order m.change.seq n.change.seq) [
        | inl s ↦ subst (Contains (ancestors C hs)) (facts.one_seq n m cn cm actors (sym s)) v.is_among
        | inr r ↦ elim r [
          | inl l ↦ ancestors_trans C hs n m v.is_among (earlier C facts (n.change.seq - m.change.seq - 1) n m cn cm actors (omega arith))
          | inr l ↦ let up = later_starts_above C facts m n cm cn (sym actors) l in absurd (omega arith)
        ]
      ]

  -- and what is an ancestor's is covered
  pub ancestor_is_covered : (m : Member) (x : Operation) → Contains (ancestors C hs) m → Contains (operations m.change) x → Covers (ancestors C hs) x.id
  ancestor_is_covered m x cm cx = let w = op_within m x cx in record { by = m; is_among = cm; actor = sym w.0; reaches = w.2 }
