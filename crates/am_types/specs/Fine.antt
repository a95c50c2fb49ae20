-- What each change must meet by itself, whatever else is known.
--     Fine c             the change c is fine
--     GoodNumbers c      its numbers are within their limits
--     FineOp op          the operation op is fine
--     FineInsertion op, FineDeletion op     it is as an insertion, or a deletion, must be
--     IsObject o, IsKey k     the ids and names in them are within their limits
--     IsId i             the counter and the actor of the id i are within their limits
--     pred_count ops     how many predecessors the operations have in all
-- What Rust's types say of a change (bytes, hashes of 32 bytes, texts in UTF-8) is part of being fine: each value of the
-- types has it. That dependencies and predecessors ascend, and which keys an insertion and a mark may have, come from the
-- Automerge Binary Document Format. The limits of the numbers are choices of amstore's profile, and so is that a deletion
-- has at least one predecessor and no value, expand or mark name.
use Rattle.std.specs.Prelude.{ℕ, ◌≤◌, ◌<◌, ◌^◌, ◌≡◌, ◌≢◌, ◌<ℤ◌, neg_ℤ, pos, true, false, List, [], length, All, sum_by, None, IfSome, IsUtf8, ⊤}
use Rattle.am_types.specs.Actions as actions
use Rattle.am_types.specs.Actors.{IsActor}
use Rattle.am_types.specs.Bytes.{IsBytes, IsHash}
use Rattle.am_types.specs.Records.{OpId, ObjId, Root, Made, Key, Name, Head, Elem, Op, Change}
use Rattle.am_types.specs.Order.{id_cmp, hash_cmp, Ascends}
use Rattle.am_types.specs.Limits.{counter_end, greatest_action, most_operations}
use Rattle.am_types.specs.Operations.{max}
use Rattle.am_types.specs.Values.{Good}

pub record IsId (i : OpId) : Type 0 where
  pub low : 1 ≤ i.counter
  pub high : i.counter < counter_end
  pub actor : IsActor i.actor

-- the root, or an id
abbrev pub IsObject : ObjId → Type 0
IsObject Root = ⊤
IsObject (Made i) = IsId i

-- a text, the front, or an id
abbrev pub IsKey : Key → Type 0
IsKey (Name n) = IsUtf8 n
IsKey Head = ⊤
IsKey (Elem i) = IsId i

-- a place in a list or a text
abbrev pub IsListPlace : Key → Type 0
IsListPlace (Name n) = ⊥
IsListPlace Head = ⊤
IsListPlace (Elem i) = ⊤

-- an insertion makes an element with a value, an object or a mark, and replaces nothing
pub record FineInsertion (op : Op) : Type 0 where
  pub place : IsListPlace op.key
  pub action : (op.action ≢ actions.del) × (op.action ≢ actions.inc)
  pub preds : op.preds ≡ []

-- a deletion removes something, and says nothing else
pub record FineDeletion (op : Op) : Type 0 where
  pub preds : 1 ≤ length op.preds
  pub value : op.value.kind ≡ 0
  pub insert : op.insert ≡ false
  pub expand : op.expand ≡ false
  pub mark : op.mark ≡ None

pub record FineOp (op : Op) : Type 0 where
  pub action : op.action ≤ greatest_action
  pub object : IsObject op.obj
  pub key : IsKey op.key
  pub value : Good op.value
  pub mark_name : IfSome op.mark IsUtf8
  pub preds : All IsId op.preds
  pub preds_ascend : Ascends id_cmp op.preds
  pub insertion : op.insert ≡ true → FineInsertion op
  pub head : op.key ≡ Head → op.insert ≡ true
  pub mark : op.action ≡ actions.mark → op.insert ≡ true
  pub deletion : op.action ≡ actions.del → FineDeletion op

abbrev pub pred_count : List Op → ℕ
pred_count ops = sum_by (λ op. length op.preds) ops

pub record GoodNumbers (c : Change) : Type 0 where
  pub seq : (1 ≤ c.seq) × (c.seq < counter_end)
  pub start : 1 ≤ c.start
  pub few_ops : length c.ops ≤ most_operations
  pub max : max c < counter_end
  pub time : (neg_ℤ (pos (2 ^ 62)) <ℤ c.time) × (c.time <ℤ pos (2 ^ 62))

pub record Fine (c : Change) : Type 0 where
  pub deps : All IsHash c.deps
  pub deps_ascend : Ascends hash_cmp c.deps
  pub few_deps : length c.deps ≤ most_operations
  pub actor : IsActor c.actor
  pub numbers : GoodNumbers c
  pub message : IsUtf8 c.message
  pub extra : IsBytes c.extra
  pub short_extra : length c.extra < 2 ^ 60
  pub few_preds : pred_count c.ops ≤ most_operations
  pub ops : All FineOp c.ops
