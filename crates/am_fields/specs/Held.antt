-- What the writers of several columns hold. The lists are those that were written, all memory being had.
--     FieldLists                    the fields that operations and rows have in common, each as a list
--     FieldsHeld actors x w         the writers of the common columns hold the fields x
--     IdsHeld actors ids w          the writers of a column of places and one of counters hold the ids
--     with_fields x f               the fields x, and behind them those of f
--     FieldsFit x, IdsFit ids       the fields, or the ids, are within the limits of their writers
--     FieldsSpelled actors x text   the canonical columns of the fields x
--     IdsSpelled actors ids places counters     the canonical columns of ids
use Rattle.std.specs.Prelude.{◌≡◌, ℕ, ◌≤◌, ◌^◌, List, [], ◌∷◌, ◌++◌, length, map, Some, Option, Bool, option_map}
use Rattle.am_types.specs.declared.OpId.{OpId}
use Rattle.am_types.specs.declared.ObjId.{ObjId}
use Rattle.am_types.specs.declared.Key.{Key}
use Rattle.am_types.specs.declared.RawValue.{RawValue}
use Rattle.am_types.specs.Views.{object_of, key_of, value_of}
use Rattle.am_values.specs.Columns.{metadata, joined, AllGood}
use Rattle.am_delta.specs.Deltas.{AreMiddling, canonical_delta_bytes}
use Rattle.am_flags.specs.Flags.{canonical_maybe_bytes}
use Rattle.am_flags.specs.Flags as flags
use Rattle.am_fields.specs.Columns.{place_of, numbers_bytes, texts_bytes}
use Rattle.am_fields.specs.Layout.{object_actor, object_counter, key_actor, key_counter, key_string, id_actor, id_counter}
use Rattle.am_fields.specs.declared.field_writer.Fields.{Fields}
use Rattle.am_fields.specs.declared.field_writer.FieldWriter.{FieldWriter}
use Rattle.am_fields.specs.declared.field_writer.FieldText.{FieldText}
use Rattle.am_fields.specs.declared.id_writer.IdWriter.{IdWriter}

pub record FieldLists : Type 0 where
  pub objects : List ObjId
  pub keys : List Key
  pub inserts : List Bool
  pub actions : List ℕ
  pub values : List RawValue
  pub expands : List Bool
  pub marks : List (Option (List ℕ))

abbrev pub with_fields : FieldLists → Fields → FieldLists
with_fields x f = record {
  objects = x.objects ++ object_of f.obj ∷ [];
  keys = x.keys ++ key_of f.key ∷ [];
  inserts = x.inserts ++ f.insert ∷ [];
  actions = x.actions ++ f.action ∷ [];
  values = x.values ++ value_of f.value ∷ [];
  expands = x.expands ++ f.expand ∷ [];
  marks = x.marks ++ option_map (λ s. s.now) f.mark ∷ [];
}

pub record FieldsHeld (actors : List (List ℕ)) (x : FieldLists) (w : FieldWriter) : Type 0 where
  pub object_actor : w.object_actor ≡ Some (map (option_map (place_of actors)) (map object_actor x.objects))
  pub object_counter : w.object_counter ≡ Some (map object_counter x.objects)
  pub key_actor : w.key_actor ≡ Some (map (option_map (place_of actors)) (map key_actor x.keys))
  pub key_counter : w.key_counter ≡ Some (map key_counter x.keys)
  pub key_name : w.key_name ≡ Some (map key_string x.keys)
  pub insert : w.insert ≡ Some x.inserts
  pub action : w.action ≡ Some (map Some x.actions)
  pub value : w.value ≡ Some x.values
  pub expand : w.expand ≡ Some x.expands
  pub mark : w.mark ≡ Some x.marks

pub record IdsHeld (actors : List (List ℕ)) (ids : List OpId) (w : IdWriter) : Type 0 where
  pub places : w.places ≡ Some (map (option_map (place_of actors)) (map id_actor ids))
  pub counters : w.counters ≡ Some (map id_counter ids)

pub record FieldsFit (x : FieldLists) : Type 0 where
  pub keys : AreMiddling (map key_counter x.keys)
  pub values : AllGood x.values
  pub few_keys : length x.keys ≤ 2 ^ 32
  pub few_inserts : length x.inserts ≤ 2 ^ 32
  pub few_values : length x.values ≤ 2 ^ 32
  pub few_expands : length x.expands ≤ 2 ^ 32

pub record FieldsSpelled (actors : List (List ℕ)) (x : FieldLists) (text : FieldText) : Type 0 where
  pub object_actor : text.object_actor ≡ numbers_bytes (map (option_map (place_of actors)) (map object_actor x.objects))
  pub object_counter : text.object_counter ≡ numbers_bytes (map object_counter x.objects)
  pub key_actor : text.key_actor ≡ numbers_bytes (map (option_map (place_of actors)) (map key_actor x.keys))
  pub key_counter : text.key_counter ≡ canonical_delta_bytes (map key_counter x.keys)
  pub key_name : text.key_name ≡ texts_bytes (map key_string x.keys)
  pub insert : text.insert ≡ flags.canonical_bytes x.inserts
  pub action : text.action ≡ numbers_bytes (map Some x.actions)
  pub numbers : text.numbers ≡ numbers_bytes (map Some (map metadata x.values))
  pub raw : text.raw ≡ joined x.values
  pub expand : text.expand ≡ canonical_maybe_bytes x.expands
  pub mark : text.mark ≡ texts_bytes x.marks

pub record IdsFit (ids : List OpId) : Type 0 where
  pub counters : AreMiddling (map id_counter ids)
  pub few : length ids ≤ 2 ^ 32

pub record IdsSpelled (actors : List (List ℕ)) (ids : List OpId) (first second : List ℕ) : Type 0 where
  pub places : first ≡ numbers_bytes (map (option_map (place_of actors)) (map id_actor ids))
  pub counters : second ≡ canonical_delta_bytes (map id_counter ids)
