-- The order of a document. (Automerge Binary Document Format, "document chunks", order of operations; that names are in
-- the order of their UTF-8 bytes is a choice of amstore's profile.)
--     Place                a place: an object, a slot in it, and the id of what stands there
--     place_cmp es p q     by object, the root first, then by slot, then by id
--     slot_cmp fs a b      names by their bytes, elements by their place in fs
use Rattle.std.specs.Prelude.{List}
use Rattle.std.specs.List.{position_or_len}
use Rattle.std.specs.Ordering.{nat_cmp, ordering_then, on}
use Rattle.std.specs.declared.cmp.Ordering.{Ordering}
use Rattle.std.specs.declared.cmp.Ordering.TheVariants.{Less, Equal, Greater}
use Rattle.am_types.specs.Records.{OpId, ObjId, Key, Name, Head, Elem}
use Rattle.am_types.specs.Order.{bytes_cmp, id_cmp, object_cmp}
use Rattle.am_types.specs.Same.{same_id}

abbrev pub slot_cmp : List OpId → Key → Key → Ordering
slot_cmp fs (Name a) (Name b) = bytes_cmp a b
slot_cmp fs (Name a) Head = Less
slot_cmp fs (Name a) (Elem b) = Less
slot_cmp fs Head (Name b) = Greater
slot_cmp fs Head Head = Equal
slot_cmp fs Head (Elem b) = Less
slot_cmp fs (Elem a) (Name b) = Greater
slot_cmp fs (Elem a) Head = Greater
slot_cmp fs (Elem a) (Elem b) = on (λ e. position_or_len (same_id e) fs) nat_cmp a b

abbrev pub Place : Type 0
Place = ObjId × Key × OpId

-- es o are the elements of o in order
abbrev pub place_cmp : (ObjId → List OpId) → Place → Place → Ordering
place_cmp es p q = ordering_then (object_cmp p.0 q.0) (ordering_then (slot_cmp (es p.0) p.1 q.1) (id_cmp p.2 q.2))
