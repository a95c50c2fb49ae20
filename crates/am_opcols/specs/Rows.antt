-- Operations field by field, as a cursor reads them.
--     ops_from objects keys ..     the operations with these fields
--     op_of r                      what a lent operation stands for
--     head_with r preds            the same of one whose predecessors stand apart
use Rattle.std.specs.Prelude.{ℕ, List, map, Option, option_map, Bool}
use Rattle.std.specs.List.{zip}
use Rattle.am_types.specs.declared.OpId.{OpId}
use Rattle.am_types.specs.declared.ObjId.{ObjId}
use Rattle.am_types.specs.declared.Key.{Key}
use Rattle.am_types.specs.declared.RawValue.{RawValue}
use Rattle.am_types.specs.declared.Op.{Op}
use Rattle.am_types.specs.Views.{object_of, key_of, value_of}
use Rattle.am_opcols.specs.declared.op.OpRef.{OpRef}
use Rattle.am_opcols.specs.declared.op.OpHead.{OpHead}

abbrev pub Fields : Type 0
Fields = ObjId × (Key × (Bool × (ℕ × (RawValue × (List OpId × (Bool × Option (List ℕ)))))))

abbrev pub op_with : Fields → Op
op_with f = record { obj = f.0; key = f.1.0; insert = f.1.1.0; action = f.1.1.1.0; value = f.1.1.1.1.0; preds = f.1.1.1.1.1.0; expand = f.1.1.1.1.1.1.0; mark = f.1.1.1.1.1.1.1 }

abbrev pub ops_from : List ObjId → List Key → List Bool → List ℕ → List RawValue → List (List OpId) → List Bool → List (Option (List ℕ)) → List Op
ops_from objects keys inserts actions values preds expands marks =
    map op_with (zip objects (zip keys (zip inserts (zip actions (zip values (zip preds (zip expands marks)))))))

abbrev pub op_of : OpRef → Op
op_of r = record {
  obj = object_of r.obj;
  key = key_of r.key;
  insert = r.insert;
  action = r.action;
  value = value_of r.value;
  preds = r.preds;
  expand = r.expand;
  mark = option_map (λ s. s.now) r.mark;
}

abbrev pub head_with : OpHead → List OpId → Op
head_with r preds = record {
  obj = object_of r.obj;
  key = key_of r.key;
  insert = r.insert;
  action = r.action;
  value = value_of r.value;
  preds = preds;
  expand = r.expand;
  mark = option_map (λ s. s.now) r.mark;
}
