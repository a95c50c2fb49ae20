-- Tests of equality, part by part.
--     same_bytes, same_id, same_hash, same_object, same_key, same_value, same_op, same_change
--                 the two are equal in each part
use Rattle.std.specs.Prelude.{ℕ, Bool, true, false, ◌&&◌, nat_eq, List}
use Rattle.std.specs.Bool.{beq}
use Rattle.std.specs.Option.{option_eq}
use Rattle.std.specs.Ordering.{int_eq}
use lib.Pointwise.{pointwise}
use Rattle.am_types.specs.Records.{OpId, Hash, ObjId, Key, Name, Head, Elem, RawValue, Op, Change}
use Rattle.am_types.specs.Order.{id_cmp, hash_cmp, object_cmp, same}

abbrev pub same_bytes : List ℕ → List ℕ → Bool
same_bytes = pointwise nat_eq

abbrev pub same_id : OpId → OpId → Bool
same_id = same id_cmp

abbrev pub same_hash : Hash → Hash → Bool
same_hash = same hash_cmp

abbrev pub same_object : ObjId → ObjId → Bool
same_object = same object_cmp

abbrev pub same_key : Key → Key → Bool
same_key (Name a) (Name b) = same_bytes a b
same_key (Name a) Head = false
same_key (Name a) (Elem b) = false
same_key Head (Name b) = false
same_key Head Head = true
same_key Head (Elem b) = false
same_key (Elem a) (Name b) = false
same_key (Elem a) Head = false
same_key (Elem a) (Elem b) = same_id a b

abbrev pub same_value : RawValue → RawValue → Bool
same_value a b = nat_eq a.kind b.kind && same_bytes a.raw b.raw

abbrev pub same_op : Op → Op → Bool
same_op a b =
    same_object a.obj b.obj && same_key a.key b.key && beq a.insert b.insert && nat_eq a.action b.action
    && same_value a.value b.value && pointwise same_id a.preds b.preds && beq a.expand b.expand
    && option_eq same_bytes a.mark b.mark

abbrev pub same_change : Change → Change → Bool
same_change a b =
    pointwise same_hash a.deps b.deps && same_bytes a.actor b.actor && nat_eq a.seq b.seq && nat_eq a.start b.start
    && int_eq a.time b.time && same_bytes a.message b.message && pointwise same_op a.ops b.ops
    && same_bytes a.extra b.extra
