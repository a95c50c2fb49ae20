-- Comparing two changes by `==` is comparing them part by part.
use Rattle.std.proofs.Common.{ℕ, nat_eq, ◌≡◌, List, [], ◌∷◌, Bool, true, false, Option, Some, None, refl, ap, subst}
use Rattle.std.specs.Bool.{beq}
use Rattle.std.proofs.lemmas.Bool.{both_ways, and_parts, and_from, eqb-true}
use Rattle.std.proofs.lemmas.Cmp.{nat_list_eq_equiv, nat_eq_equiv, int_eq_equiv}
use Rattle.std.specs.Option.{option_eq}
use Rattle.std.proofs.lemmas.Map.Lookups.{exact_signed}
use Rattle.std.proofs.lemmas.Map.Views.{tells_apart}
use lib.Pointwise.{pointwise}
use Rattle.am_types.specs.declared.Hash.{Hash}
use Rattle.am_types.specs.declared.OpId.{OpId}
use Rattle.am_types.specs.declared.ObjId.{ObjId}
use Rattle.am_types.specs.declared.ObjId.TheVariants.{Root, Made}
use Rattle.am_types.specs.declared.Key.{Key}
use Rattle.am_types.specs.declared.Key.TheVariants.{Name, Head, Elem}
use Rattle.am_types.specs.declared.RawValue.{RawValue}
use Rattle.am_types.specs.declared.Op.{Op}
use Rattle.am_types.specs.declared.Change.{Change}
use Rattle.am_types.specs.contracts.hash.HashPartialEq.TheImpl as hashes
use Rattle.am_types.specs.contracts.ids.OpIdPartialEq.TheImpl as ids
use Rattle.am_types.specs.contracts.ids.ObjIdPartialEq.TheImpl as objects
use Rattle.am_types.specs.contracts.ids.KeyPartialEq.TheImpl as keys
use Rattle.am_types.specs.contracts.value.RawValuePartialEq.TheImpl as values
use Rattle.am_types.specs.contracts.change.OpPartialEq.TheImpl as ops
use Rattle.am_types.specs.contracts.change.ChangePartialEq.TheImpl as changes
use Rattle.am_types.specs.Same.{same_change}
use Rattle.am_types.proofs.Orders.{same_bytes-true}
use Rattle.am_types.proofs.SameLaws.{same_change-true}
use Rattle.am_delivery.proofs.Lists.{same_truth}
use Rattle.am_delivery.proofs.Skipping.{change_itself}

pointwise-true : {X : Type 0} (E : X → X → Bool) → ((x y : X) → E x y ≡ true → x ≡ y) → (xs ys : List X) → pointwise E xs ys ≡ true → xs ≡ ys
pointwise-true E h [] [] e = refl
pointwise-true E h [] (y ∷ ys) e = absurd (both_ways false refl e)
pointwise-true E h (x ∷ xs) [] e = absurd (both_ways false refl e)
pointwise-true E h (x ∷ xs) (y ∷ ys) e = let b = and_parts _ _ e in λ i. h x y b.0 i ∷ pointwise-true E h xs ys b.1 i

hash-true : (a b : Hash) → hashes.eq-value.it a b ≡ true → a ≡ b
hash-true a b e = λ i. record { 0 = same_bytes-true a.0 b.0 e i }

id-true : (a b : OpId) → ids.eq-value.it a b ≡ true → a ≡ b
id-true a b e = let p = and_parts _ _ e in λ i. record { counter = eqb-true a.counter b.counter p.0 i; actor = same_bytes-true a.actor b.actor p.1 i }

object-true : (a b : ObjId) → objects.eq-value.it a b ≡ true → a ≡ b
object-true Root Root e = refl
object-true Root (Made b) e = absurd (both_ways false refl e)
object-true (Made a) Root e = absurd (both_ways false refl e)
object-true (Made a) (Made b) e = ap Made (id-true a b e)

key-true : (a b : Key) → keys.eq-value.it a b ≡ true → a ≡ b
key-true (Name a) (Name b) e = ap Name (same_bytes-true a b e)
key-true (Name a) Head e = absurd (both_ways false refl e)
key-true (Name a) (Elem b) e = absurd (both_ways false refl e)
key-true Head (Name b) e = absurd (both_ways false refl e)
key-true Head Head e = refl
key-true Head (Elem b) e = absurd (both_ways false refl e)
key-true (Elem a) (Name b) e = absurd (both_ways false refl e)
key-true (Elem a) Head e = absurd (both_ways false refl e)
key-true (Elem a) (Elem b) e = ap Elem (id-true a b e)

beq-true : (a b : Bool) → beq a b ≡ true → a ≡ b
beq-true true true e = refl
beq-true false false e = refl
beq-true true false e = absurd (both_ways false refl e)
beq-true false true e = absurd (both_ways false refl e)

value-true : (a b : RawValue) → values.eq-value.it a b ≡ true → a ≡ b
value-true a b e = let p = and_parts _ _ e in λ i. record { kind = eqb-true a.kind b.kind p.0 i; raw = same_bytes-true a.raw b.raw p.1 i }

op-true : (a b : Op) → ops.eq-value.it a b ≡ true → a ≡ b
op-true a b e =
    let preds = and_parts _ _ e in
    let insert = and_parts _ _ preds.1 in
    let expand = and_parts _ _ insert.1 in
    let action = and_parts _ _ expand.1 in
    let obj = and_parts _ _ action.1 in
    let key = and_parts _ _ obj.1 in
    let value = and_parts _ _ key.1 in
    λ i. record {
      preds = pointwise-true _ id-true a.preds b.preds preds.0 i;
      insert = beq-true a.insert b.insert insert.0 i;
      expand = beq-true a.expand b.expand expand.0 i;
      action = eqb-true a.action b.action action.0 i;
      obj = object-true a.obj b.obj obj.0 i;
      key = key-true a.key b.key key.0 i;
      value = value-true a.value b.value value.0 i;
      mark = mark-true a.mark b.mark value.1 i;
    }
  where
    mark-true : (o p : Option (List ℕ)) → option_eq (pointwise nat_eq) o p ≡ true → o ≡ p
    mark-true None None e = refl
    mark-true None (Some y) e = absurd (both_ways false refl e)
    mark-true (Some x) None e = absurd (both_ways false refl e)
    mark-true (Some x) (Some y) e = ap Some (same_bytes-true x y e)

change-true : (a b : Change) → changes.eq-value.it a b ≡ true → a ≡ b
change-true a b e =
    let deps = and_parts _ _ e in
    let actor = and_parts _ _ deps.1 in
    let seq = and_parts _ _ actor.1 in
    let start = and_parts _ _ seq.1 in
    let time = and_parts _ _ start.1 in
    let message = and_parts _ _ time.1 in
    let ops = and_parts _ _ message.1 in
    λ i. record {
      deps = pointwise-true _ hash-true a.deps b.deps deps.0 i;
      actor = same_bytes-true a.actor b.actor actor.0 i;
      seq = eqb-true a.seq b.seq seq.0 i;
      start = eqb-true a.start b.start start.0 i;
      time = tells_apart exact_signed a.time b.time time.0 i;
      message = same_bytes-true a.message b.message message.0 i;
      ops = pointwise-true _ op-true a.ops b.ops ops.0 i;
      extra = same_bytes-true a.extra b.extra ops.1 i;
    }

-- ---- each equals itself

pointwise_itself : {X : Type 0} (E : X → X → Bool) → ((x : X) → E x x ≡ true) → (xs : List X) → pointwise E xs xs ≡ true
pointwise_itself E own [] = refl
pointwise_itself E own (x ∷ xs) = and_from _ _ (own x) (pointwise_itself E own xs)

bytes_itself : (bs : List ℕ) → pointwise nat_eq bs bs ≡ true
bytes_itself bs = nat_list_eq_equiv.refl bs

hash_itself : (h : Hash) → hashes.eq-value.it h h ≡ true
hash_itself h = bytes_itself h.0

id_itself : (i : OpId) → ids.eq-value.it i i ≡ true
id_itself i = and_from _ _ (nat_eq_equiv.refl i.counter) (bytes_itself i.actor)

object_itself : (o : ObjId) → objects.eq-value.it o o ≡ true
object_itself Root = refl
object_itself (Made i) = id_itself i

key_itself : (k : Key) → keys.eq-value.it k k ≡ true
key_itself (Name n) = bytes_itself n
key_itself Head = refl
key_itself (Elem i) = id_itself i

beq_itself : (b : Bool) → beq b b ≡ true
beq_itself true = refl
beq_itself false = refl

mark_itself : (o : Option (List ℕ)) → option_eq (pointwise nat_eq) o o ≡ true
mark_itself None = refl
mark_itself (Some n) = bytes_itself n

value_itself : (v : RawValue) → values.eq-value.it v v ≡ true
value_itself v = and_from _ _ (nat_eq_equiv.refl v.kind) (bytes_itself v.raw)

op_itself : (o : Op) → ops.eq-value.it o o ≡ true
op_itself o =
    let obj = object_itself o.obj in
    let key = key_itself o.key in
    let insert = beq_itself o.insert in
    let action = nat_eq_equiv.refl o.action in
    let value = value_itself o.value in
    let preds = pointwise_itself ids.eq-value.it id_itself o.preds in
    let expand = beq_itself o.expand in
    let mark = mark_itself o.mark in
    and_from _ _ preds (and_from _ _ insert (and_from _ _ expand (and_from _ _ action (and_from _ _ obj (and_from _ _ key (and_from _ _ value mark))))))

equals_itself : (c : Change) → changes.eq-value.it c c ≡ true
equals_itself c =
    let deps = pointwise_itself hashes.eq-value.it hash_itself c.deps in
    let actor = bytes_itself c.actor in
    let seq = nat_eq_equiv.refl c.seq in
    let start = nat_eq_equiv.refl c.start in
    let time = int_eq_equiv.refl c.time in
    let message = bytes_itself c.message in
    let operations = pointwise_itself ops.eq-value.it op_itself c.ops in
    let extra = bytes_itself c.extra in
    and_from _ _ deps (and_from _ _ actor (and_from _ _ seq (and_from _ _ start (and_from _ _ time (and_from _ _ message (and_from _ _ operations extra))))))

pub equal_is_same : (a b : Change) → changes.eq-value.it a b ≡ same_change a b
equal_is_same a b = same_truth (changes.eq-value.it a b) (same_change a b)
    (λ e. subst (λ c. same_change a c ≡ true) (change-true a b e) (change_itself a))
    (λ s. subst (λ c. changes.eq-value.it a c ≡ true) (same_change-true a b s) (equals_itself a))
