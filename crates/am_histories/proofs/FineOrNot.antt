-- A change is fine or not.
use Rattle.std.proofs.Common.{ℕ, ◌≡◌, ◌≢◌, ◌<◌, ◌≤◌, ◌^◌, List, [], length, true, false, None, refl, inl, inr, ◌⊎◌, All}
use Rattle.std.specs.Option.{is_some}
use Rattle.std.specs.Prelude.{IfSome, ◌<ℤ◌, neg_ℤ, pos, IsUtf8}
use Rattle.std.proofs.lemmas.Bool.{cases_eq}
use Rattle.am_types.specs.Actions as actions
use Rattle.am_types.specs.Actors.{IsActor}
use Rattle.am_types.specs.Bytes.{IsBytes, IsHash}
use Rattle.am_types.specs.declared.Hash.{Hash}
use Rattle.am_types.specs.declared.OpId.{OpId}
use Rattle.am_types.specs.declared.ObjId.{ObjId}
use Rattle.am_types.specs.declared.ObjId.TheVariants.{Root, Made}
use Rattle.am_types.specs.declared.Key.{Key}
use Rattle.am_types.specs.declared.Key.TheVariants.{Name, Head, Elem}
use Rattle.am_types.specs.declared.RawValue.{RawValue}
use Rattle.am_types.specs.declared.Op.{Op}
use Rattle.am_types.specs.declared.Change.{Change}
use Rattle.am_types.specs.Fine.{IsId, IsObject, IsKey, IsListPlace, FineInsertion, FineDeletion, FineOp, pred_count, GoodNumbers, Fine}
use Rattle.am_types.specs.Limits.{counter_end, greatest_action, longest_actor, most_operations}
use Rattle.am_types.specs.Numbers.{unsigned_of, signed_of}
use Rattle.am_types.specs.Order.{id_cmp, hash_cmp, Ascends}
use Rattle.am_types.specs.Operations.{max}
use Rattle.am_types.specs.Values.{Good}
use Rattle.am_types.proofs.Orders.{id_total, hash_total}
use Rattle.am_histories.proofs.OrNot.{OrNot, same_or_not, both_or_not, either_or_not, then_or_not, not_or_not, lt_or_not, le_or_not, lt_ℤ_or_not, true_or_not, false_or_not, none_or_not, if_some_or_not, empty_or_not, utf8_or_not, all_or_not, ascends_or_not}

bytes_or_not : (bytes : List ℕ) → OrNot (IsBytes bytes)
bytes_or_not bytes = all_or_not (λ b. b < 2 ^ 8) (λ b. lt_or_not b (2 ^ 8)) bytes

pub hash_or_not : (h : Hash) → OrNot (IsHash h)
hash_or_not h =
    same_or_not (λ (p : (length h.0 ≡ 32) × IsBytes h.0). record { length = p.0; bytes = p.1 }) (λ i. (i.length, i.bytes))
    (both_or_not (cases_eq (length h.0) 32) (bytes_or_not h.0))

actor_or_not : (actor : List ℕ) → OrNot (IsActor actor)
actor_or_not actor =
    same_or_not (λ (p : (1 ≤ length actor) × ((length actor ≤ longest_actor) × IsBytes actor)). record { some = p.0; few = p.1.0; are_bytes = p.1.1 }) (λ i. (i.some, (i.few, i.are_bytes)))
    (both_or_not (le_or_not 1 (length actor)) (both_or_not (le_or_not (length actor) longest_actor) (bytes_or_not actor)))

-- ---- operations

id_or_not : (i : OpId) → OrNot (IsId i)
id_or_not i =
    same_or_not (λ (p : (1 ≤ i.counter) × ((i.counter < counter_end) × IsActor i.actor)). record { low = p.0; high = p.1.0; actor = p.1.1 }) (λ n. (n.low, (n.high, n.actor)))
    (both_or_not (le_or_not 1 i.counter) (both_or_not (lt_or_not i.counter counter_end) (actor_or_not i.actor)))

object_or_not : (o : ObjId) → OrNot (IsObject o)
object_or_not Root = inl tt
object_or_not (Made i) = id_or_not i

key_or_not : (k : Key) → OrNot (IsKey k)
key_or_not (Name n) = utf8_or_not n
key_or_not Head = inl tt
key_or_not (Elem i) = id_or_not i

place_or_not : (k : Key) → OrNot (IsListPlace k)
place_or_not (Name n) = inr (λ e. e)
place_or_not Head = inl tt
place_or_not (Elem i) = inl tt

head_or_not : (k : Key) → OrNot (k ≡ Head)
head_or_not (Name n) = inr (λ e. cc)
head_or_not Head = inl refl
head_or_not (Elem i) = inr (λ e. cc)

module _ (v : RawValue) where
  abbrev ValueParts : Type 0
  ValueParts =
      (v.kind ≤ 15)
      × ((length v.raw < 2 ^ 60)
      × (IsBytes v.raw
      × ((v.kind ≤ 2 → v.raw ≡ [])
      × ((v.kind ≡ 3 → is_some (unsigned_of v.raw) ≡ true)
      × (((v.kind ≡ 4) ⊎ ((v.kind ≡ 8) ⊎ (v.kind ≡ 9)) → is_some (signed_of v.raw) ≡ true)
      × ((v.kind ≡ 5 → length v.raw ≡ 8)
      × (v.kind ≡ 6 → IsUtf8 v.raw)))))))

  value_parts : OrNot ValueParts
  value_parts =
      both_or_not (le_or_not v.kind 15)
      (both_or_not (lt_or_not (length v.raw) (2 ^ 60))
      (both_or_not (bytes_or_not v.raw)
      (both_or_not (then_or_not (le_or_not v.kind 2) (empty_or_not v.raw))
      (both_or_not (then_or_not (cases_eq v.kind 3) (true_or_not (is_some (unsigned_of v.raw))))
      (both_or_not (then_or_not (either_or_not (cases_eq v.kind 4) (either_or_not (cases_eq v.kind 8) (cases_eq v.kind 9))) (true_or_not (is_some (signed_of v.raw))))
      (both_or_not (then_or_not (cases_eq v.kind 5) (cases_eq (length v.raw) 8))
      (then_or_not (cases_eq v.kind 6) (utf8_or_not v.raw))))))))

  value_or_not : OrNot (Good v)
  value_or_not =
      same_or_not (λ (p : ValueParts). record {
        kind = p.0;
        short = p.1.0;
        bytes = p.1.1.0;
        empty = p.1.1.1.0;
        unsigned = p.1.1.1.1.0;
        signed = p.1.1.1.1.1.0;
        float = p.1.1.1.1.1.1.0;
        text = p.1.1.1.1.1.1.1;
      })
      (λ g. (g.kind, (g.short, (g.bytes, (g.empty, (g.unsigned, (g.signed, (g.float, g.text))))))))
      value_parts

module _ (op : Op) where
  insertion_or_not : OrNot (FineInsertion op)
  insertion_or_not =
      same_or_not (λ (p : IsListPlace op.key × (((op.action ≢ actions.del) × (op.action ≢ actions.inc)) × (op.preds ≡ []))). record { place = p.0; action = p.1.0; preds = p.1.1 }) (λ f. (f.place, (f.action, f.preds)))
      (both_or_not (place_or_not op.key) (both_or_not (both_or_not (not_or_not (cases_eq op.action actions.del)) (not_or_not (cases_eq op.action actions.inc))) (empty_or_not op.preds)))

  abbrev DeletionParts : Type 0
  DeletionParts = (1 ≤ length op.preds) × ((op.value.kind ≡ 0) × ((op.insert ≡ false) × ((op.expand ≡ false) × (op.mark ≡ None))))

  deletion_or_not : OrNot (FineDeletion op)
  deletion_or_not =
      same_or_not (λ (p : DeletionParts). record { preds = p.0; value = p.1.0; insert = p.1.1.0; expand = p.1.1.1.0; mark = p.1.1.1.1 }) (λ f. (f.preds, (f.value, (f.insert, (f.expand, f.mark)))))
      (both_or_not (le_or_not 1 (length op.preds)) (both_or_not (cases_eq op.value.kind 0) (both_or_not (false_or_not op.insert) (both_or_not (false_or_not op.expand) (none_or_not op.mark)))))

  abbrev OpParts : Type 0
  OpParts =
      (op.action ≤ greatest_action)
      × (IsObject op.obj
      × (IsKey op.key
      × (Good op.value
      × (IfSome op.mark IsUtf8
      × (All IsId op.preds
      × (Ascends id_cmp op.preds
      × ((op.insert ≡ true → FineInsertion op)
      × ((op.key ≡ Head → op.insert ≡ true)
      × ((op.action ≡ actions.mark → op.insert ≡ true)
      × (op.action ≡ actions.del → FineDeletion op))))))))))

  op_parts : OrNot OpParts
  op_parts =
      both_or_not (le_or_not op.action greatest_action)
      (both_or_not (object_or_not op.obj)
      (both_or_not (key_or_not op.key)
      (both_or_not (value_or_not op.value)
      (both_or_not (if_some_or_not IsUtf8 utf8_or_not op.mark)
      (both_or_not (all_or_not IsId id_or_not op.preds)
      (both_or_not (ascends_or_not id_total op.preds)
      (both_or_not (then_or_not (true_or_not op.insert) insertion_or_not)
      (both_or_not (then_or_not (head_or_not op.key) (true_or_not op.insert))
      (both_or_not (then_or_not (cases_eq op.action actions.mark) (true_or_not op.insert))
      (then_or_not (cases_eq op.action actions.del) deletion_or_not))))))))))

  op_or_not : OrNot (FineOp op)
  op_or_not =
      same_or_not (λ (p : OpParts). record {
        action = p.0;
        object = p.1.0;
        key = p.1.1.0;
        value = p.1.1.1.0;
        mark_name = p.1.1.1.1.0;
        preds = p.1.1.1.1.1.0;
        preds_ascend = p.1.1.1.1.1.1.0;
        insertion = p.1.1.1.1.1.1.1.0;
        head = p.1.1.1.1.1.1.1.1.0;
        mark = p.1.1.1.1.1.1.1.1.1.0;
        deletion = p.1.1.1.1.1.1.1.1.1.1;
      })
      (λ f. (f.action, (f.object, (f.key, (f.value, (f.mark_name, (f.preds, (f.preds_ascend, (f.insertion, (f.head, (f.mark, f.deletion)))))))))))
      op_parts

-- ---- changes

module _ (c : Change) where
  abbrev NumberParts : Type 0
  NumberParts =
      ((1 ≤ c.seq) × (c.seq < counter_end))
      × ((1 ≤ c.start)
      × ((length c.ops ≤ most_operations)
      × ((max c < counter_end)
      × ((neg_ℤ (pos (2 ^ 62)) <ℤ c.time) × (c.time <ℤ pos (2 ^ 62))))))

  number_parts : OrNot NumberParts
  number_parts =
      both_or_not (both_or_not (le_or_not 1 c.seq) (lt_or_not c.seq counter_end))
      (both_or_not (le_or_not 1 c.start)
      (both_or_not (le_or_not (length c.ops) most_operations)
      (both_or_not (lt_or_not (max c) counter_end)
      (both_or_not (lt_ℤ_or_not (neg_ℤ (pos (2 ^ 62))) c.time) (lt_ℤ_or_not c.time (pos (2 ^ 62)))))))

  numbers_or_not : OrNot (GoodNumbers c)
  numbers_or_not =
      same_or_not (λ (p : NumberParts). record { seq = p.0; start = p.1.0; few_ops = p.1.1.0; max = p.1.1.1.0; time = p.1.1.1.1 }) (λ g. (g.seq, (g.start, (g.few_ops, (g.max, g.time)))))
      number_parts

  abbrev ChangeParts : Type 0
  ChangeParts =
      All IsHash c.deps
      × (Ascends hash_cmp c.deps
      × ((length c.deps ≤ most_operations)
      × (IsActor c.actor
      × (GoodNumbers c
      × (IsUtf8 c.message
      × (IsBytes c.extra
      × ((length c.extra < 2 ^ 60)
      × ((pred_count c.ops ≤ most_operations)
      × All FineOp c.ops))))))))

  change_parts : OrNot ChangeParts
  change_parts =
      both_or_not (all_or_not IsHash hash_or_not c.deps)
      (both_or_not (ascends_or_not hash_total c.deps)
      (both_or_not (le_or_not (length c.deps) most_operations)
      (both_or_not (actor_or_not c.actor)
      (both_or_not numbers_or_not
      (both_or_not (utf8_or_not c.message)
      (both_or_not (bytes_or_not c.extra)
      (both_or_not (lt_or_not (length c.extra) (2 ^ 60))
      (both_or_not (le_or_not (pred_count c.ops) most_operations)
      (all_or_not FineOp op_or_not c.ops)))))))))

  pub fine_or_not : OrNot (Fine c)
  fine_or_not =
      same_or_not (λ (p : ChangeParts). record {
        deps = p.0;
        deps_ascend = p.1.0;
        few_deps = p.1.1.0;
        actor = p.1.1.1.0;
        numbers = p.1.1.1.1.0;
        message = p.1.1.1.1.1.0;
        extra = p.1.1.1.1.1.1.0;
        short_extra = p.1.1.1.1.1.1.1.0;
        few_preds = p.1.1.1.1.1.1.1.1.0;
        ops = p.1.1.1.1.1.1.1.1.1;
      })
      (λ f. (f.deps, (f.deps_ascend, (f.few_deps, (f.actor, (f.numbers, (f.message, (f.extra, (f.short_extra, (f.few_preds, f.ops))))))))))
      change_parts
