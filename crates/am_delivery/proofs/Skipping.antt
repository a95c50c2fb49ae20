-- A change that is held is skipped.
use Rattle.std.proofs.Common.{ℕ, ◌≡◌, List, [], ◌∷◌, ◌++◌, Bool, true, false, Option, Some, None, refl, sym, ap, ◌∙◌, All, Contains}
use Rattle.std.specs.Bool.{beq}
use Rattle.std.specs.Option.{option_eq}
use lib.Pointwise.{pointwise}
use Rattle.std.proofs.lemmas.Bool.{both_ways, and_from}
use Rattle.std.proofs.lemmas.Cmp.{nat_list_eq_equiv, nat_eq_equiv, int_eq_equiv}
use Rattle.std.proofs.lemmas.List.Elements.{All-head, All-tail}
use Rattle.am_types.specs.declared.Change.{Change}
use Rattle.am_types.specs.declared.Op.{Op}
use Rattle.am_types.specs.declared.ObjId.{ObjId}
use Rattle.am_types.specs.declared.ObjId.TheVariants.{Root, Made}
use Rattle.am_types.specs.declared.Key.{Key}
use Rattle.am_types.specs.declared.Key.TheVariants.{Name, Head, Elem}
use Rattle.am_types.specs.declared.RawValue.{RawValue}
use Rattle.am_types.specs.Order.{hash_cmp, same}
use Rattle.am_types.specs.Same.{same_bytes, same_hash, same_id, same_object, same_key, same_value, same_op, same_change}
use Rattle.am_types.specs.Members.{Member, member}
use Rattle.am_types.specs.Deliver.{Sets, receive, receive_by, settle, deliver}
use Rattle.am_types.proofs.Orders.{same_hash-true, same_hash_itself, same_id_itself}
use Rattle.am_laws.proofs.SettleLaws.{settle_idle}
use Rattle.am_delivery.specs.Laws.{HeldIsSkipped}
use Rattle.am_delivery.proofs.Lists.{found_is, find_none, any_none}
use Rattle.am_delivery.proofs.Members.{Unique, unique}
use Rattle.am_delivery.proofs.Deliveries.{distinct_from_pairs}

-- ---- a change is the same as itself

pointwise_itself : {X : Type 0} (E : X → X → Bool) → ((x : X) → E x x ≡ true) → (xs : List X) → pointwise E xs xs ≡ true
pointwise_itself E own [] = refl
pointwise_itself E own (x ∷ xs) = and_from _ _ (own x) (pointwise_itself E own xs)

bytes_itself : (bs : List ℕ) → same_bytes bs bs ≡ true
bytes_itself bs = nat_list_eq_equiv.refl bs

object_itself : (o : ObjId) → same_object o o ≡ true
object_itself Root = refl
object_itself (Made i) = same_id_itself i

key_itself : (k : Key) → same_key k k ≡ true
key_itself (Name n) = bytes_itself n
key_itself Head = refl
key_itself (Elem i) = same_id_itself i

beq_itself : (b : Bool) → beq b b ≡ true
beq_itself true = refl
beq_itself false = refl

mark_itself : (o : Option (List ℕ)) → option_eq same_bytes o o ≡ true
mark_itself None = refl
mark_itself (Some n) = bytes_itself n

value_itself : (v : RawValue) → same_value v v ≡ true
value_itself v = and_from _ _ (nat_eq_equiv.refl v.kind) (bytes_itself v.raw)

op_itself : (o : Op) → same_op o o ≡ true
op_itself o =
    let a = object_itself o.obj in
    let b = key_itself o.key in
    let c = beq_itself o.insert in
    let d = nat_eq_equiv.refl o.action in
    let e = value_itself o.value in
    let f = pointwise_itself same_id same_id_itself o.preds in
    let g = beq_itself o.expand in
    let h = mark_itself o.mark in
    and_from _ _ (and_from _ _ (and_from _ _ (and_from _ _ (and_from _ _ (and_from _ _ (and_from _ _ a b) c) d) e) f) g) h

pub change_itself : (c : Change) → same_change c c ≡ true
change_itself c =
    let a = pointwise_itself same_hash same_hash_itself c.deps in
    let b = bytes_itself c.actor in
    let d = nat_eq_equiv.refl c.seq in
    let e = nat_eq_equiv.refl c.start in
    let f = int_eq_equiv.refl c.time in
    let g = bytes_itself c.message in
    let h = pointwise_itself same_op op_itself c.ops in
    let i = bytes_itself c.extra in
    and_from _ _ (and_from _ _ (and_from _ _ (and_from _ _ (and_from _ _ (and_from _ _ (and_from _ _ a b) d) e) f) g) h) i

member_is : (C : List Member) → Unique C → (m : Member) → Contains C m → member C m.hash ≡ Some m
member_is C one m c = go (member C m.hash) refl
  where
    p : Member → Bool
    p n = same hash_cmp m.hash n.hash

    go : (o : Option Member) → member C m.hash ≡ o → o ≡ Some m
    go None e = absurd (both_ways (p m) (any_none p C (find_none p C e) m c) (same_hash_itself m.hash))
    go (Some n) e = let f = found_is p C n e in ap Some (one n m f.0 c (sym (same_hash-true m.hash n.hash f.1)))

receive_held : (s : Sets) → Unique (s.closed ++ s.waiting) → (L : List Member) → All (Contains (s.closed ++ s.waiting)) L → receive s L ≡ s
receive_held s one [] a = refl
receive_held s one (m ∷ L) a =
    let found = member_is (s.closed ++ s.waiting) one m (All-head (Contains (s.closed ++ s.waiting)) m L a) in
    let skip : receive_by (Some m) m s ≡ s = simp (change_itself m.change) refl in
    ap (λ o. receive (receive_by o m s) L) found ∙ ap (λ t. receive t L) skip ∙ receive_held s one L (All-tail (Contains (s.closed ++ s.waiting)) m L a)

pub held_is_skipped : HeldIsSkipped
unfolding deliver
held_is_skipped C W L store a =
    let s : Sets = record { closed = C; waiting = W; rejected = [] } in
    ap settle (receive_held s (unique (C ++ W) (distinct_from_pairs (C ++ W) store.hashes)) L a) ∙ settle_idle s store.settled
