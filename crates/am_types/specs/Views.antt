-- What a borrowed form stands for.
--     id_of, object_of, key_of, value_of, entry_of     the plain value that was lent
use Rattle.am_types.specs.Records.{OpId, ObjId, Root, Made, Key, Name, Head, Elem, RawValue, Entry}
use Rattle.am_types.specs.declared.refs.IdRef.{IdRef}
use Rattle.am_types.specs.declared.refs.ObjRef.{ObjRef}
use Rattle.am_types.specs.declared.refs.ObjRef.TheVariants as obj_ref
use Rattle.am_types.specs.declared.refs.KeyRef.{KeyRef}
use Rattle.am_types.specs.declared.refs.KeyRef.TheVariants as key_ref
use Rattle.am_types.specs.declared.refs.ValueRef.{ValueRef}
use Rattle.am_types.specs.declared.refs.EntryRef.{EntryRef}

abbrev pub id_of : IdRef → OpId
id_of r = record { counter = r.counter; actor = r.actor.now }

abbrev pub object_of : ObjRef → ObjId
object_of obj_ref.Root = Root
object_of (obj_ref.Made r) = Made (id_of r)

abbrev pub key_of : KeyRef → Key
key_of (key_ref.Name n) = Name n.now
key_of key_ref.Head = Head
key_of (key_ref.Elem r) = Elem (id_of r)

abbrev pub value_of : ValueRef → RawValue
value_of r = record { kind = r.kind; raw = r.raw.now }

abbrev pub entry_of : EntryRef → Entry
entry_of r = record {
  obj = object_of r.obj;
  slot = key_of r.slot;
  id = id_of r.id;
  action = r.action;
  value = value_of r.value;
  total = r.total;
}
