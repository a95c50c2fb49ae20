-- What a reader has read, as plain data.
--     front_of r     the parts that a lent front stands for
--     change_with f ops extra     the change with these parts, operations and further bytes
--     IsOpWithin op     the ids that an operation names are within their limits
--     IsFrontFine r n extra     a lent front and further bytes are as those of a fine change with n operations are
use Rattle.std.specs.Prelude.{ℕ, zero, suc, ◌+◌, ◌<◌, ◌≤◌, ◌^◌, ◌<ℤ◌, neg_ℤ, pos, List, [], ◌∷◌, take, drop, length}
use Rattle.std.specs.List.{AllByRecursion}
use Rattle.am_types.specs.declared.Hash.{Hash}
use Rattle.am_types.specs.declared.Op.{Op}
use Rattle.am_types.specs.declared.Change.{Change}
use Rattle.am_types.specs.Order.{hash_cmp}
use Rattle.am_types.specs.Limits.{counter_end, most_operations}
use Rattle.am_fields.specs.Limits.{IsWithin, IsObjectWithin, IsKeyWithin}
use Rattle.am_opcols.specs.Chains.{Chain}
use Rattle.am_change.specs.Fronts.{Front}
use Rattle.am_change.specs.declared.front.FrontRef.{FrontRef}

abbrev pub hash_with : List ℕ → Hash
hash_with bytes = record { 0 = bytes }

-- so many hashes, one after another
abbrev pub hashes_in : ℕ → List ℕ → List Hash
hashes_in zero bytes = []
hashes_in (suc count) bytes = hash_with (take 32 bytes) ∷ hashes_in count (drop 32 bytes)

abbrev pub front_of : FrontRef → Front
front_of r = record {
  deps = hashes_in r.count r.hashes.now;
  actor = r.actor.now;
  seq = r.seq;
  start = r.start;
  time = r.time;
  message = r.message.now;
  others = r.others;
  listed = r.listed;
}

abbrev pub change_with : Front → List Op → List ℕ → Change
change_with f ops extra = record {
  deps = f.deps;
  actor = f.actor;
  seq = f.seq;
  start = f.start;
  time = f.time;
  message = f.message;
  ops = ops;
  extra = extra;
}

pub record IsOpWithin (op : Op) : Type 0 where
  pub object : IsObjectWithin op.obj
  pub key : IsKeyWithin op.key
  pub preds : AllByRecursion IsWithin op.preds

-- what Rust's types and the reader say of the parts isn't said again
pub record IsFrontFine (r : FrontRef) (count : ℕ) (extra : List ℕ) : Type 0 where
  pub few_deps : r.count ≤ most_operations
  pub ascend : Chain hash_cmp (hashes_in r.count r.hashes.now)
  pub short_extra : length extra < 2 ^ 60
  pub seq : (1 ≤ r.seq) × (r.seq < counter_end)
  pub start : 1 ≤ r.start
  pub end : r.start + count ≤ counter_end
  pub time : (neg_ℤ (pos (2 ^ 62)) <ℤ r.time) × (r.time <ℤ pos (2 ^ 62))
