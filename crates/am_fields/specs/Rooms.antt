-- The writers of several columns have room for one more, or for n more; none of them wanted memory.
use Rattle.std.specs.Prelude.{ℕ, ◌+◌, ◌<◌, ◌≤◌, ◌^◌, List, length, Option, IfSome, IsSome}
use Rattle.am_fields.specs.declared.field_writer.FieldWriter.{FieldWriter}

-- fewer than 2 ^ 32 items were written
abbrev pub IsOpen : {A : Type 0} → Option (List A) → Type 0
IsOpen items = IfSome items (λ xs. length xs < 2 ^ 32)

pub record FieldsHaveRoom (w : FieldWriter) : Type 0 where
  pub object_actor : IsOpen w.object_actor
  pub object_counter : IsOpen w.object_counter
  pub key_actor : IsOpen w.key_actor
  pub key_counter : IsOpen w.key_counter
  pub key_name : IsOpen w.key_name
  pub insert : IsOpen w.insert
  pub action : IsOpen w.action
  pub value : IsOpen w.value
  pub expand : IsOpen w.expand
  pub mark : IsOpen w.mark

-- with n more, at most 2 ^ 32 items were written
abbrev pub IsOpenFor : {A : Type 0} → ℕ → Option (List A) → Type 0
IsOpenFor n items = IfSome items (λ xs. length xs + n ≤ 2 ^ 32)

pub record FieldsHaveRoomFor (n : ℕ) (w : FieldWriter) : Type 0 where
  pub object_actor : IsOpenFor n w.object_actor
  pub object_counter : IsOpenFor n w.object_counter
  pub key_actor : IsOpenFor n w.key_actor
  pub key_counter : IsOpenFor n w.key_counter
  pub key_name : IsOpenFor n w.key_name
  pub insert : IsOpenFor n w.insert
  pub action : IsOpenFor n w.action
  pub value : IsOpenFor n w.value
  pub expand : IsOpenFor n w.expand
  pub mark : IsOpenFor n w.mark

-- at most 2 ^ 32 items were written
abbrev pub IsShort : {A : Type 0} → Option (List A) → Type 0
IsShort items = IfSome items (λ xs. length xs ≤ 2 ^ 32)

pub record AreShort (w : FieldWriter) : Type 0 where
  pub object_actor : IsShort w.object_actor
  pub object_counter : IsShort w.object_counter
  pub key_actor : IsShort w.key_actor
  pub key_name : IsShort w.key_name
  pub action : IsShort w.action
  pub mark : IsShort w.mark

-- no writer wanted memory
pub record AreHeld (w : FieldWriter) : Type 0 where
  pub object_actor : IsSome w.object_actor
  pub object_counter : IsSome w.object_counter
  pub key_actor : IsSome w.key_actor
  pub key_counter : IsSome w.key_counter
  pub key_name : IsSome w.key_name
  pub insert : IsSome w.insert
  pub action : IsSome w.action
  pub value : IsSome w.value
  pub expand : IsSome w.expand
  pub mark : IsSome w.mark
