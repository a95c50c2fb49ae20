-- The specifications of the columns of operations and of rows. (Automerge Binary Document Format, "Operation Columns".)
--     object_actor, object_counter         the id of the object
--     key_actor, key_counter, key_name     the key: an element by its id, the front by the counter 0 alone, or a name
--     id_actor, id_counter                 the id of a row; operations of a change have no such columns
--     insert, action                       whether it inserts, and the action
--     value_metadata, value_raw            the kind and the length of the value, and its bytes; of change rows, which have
--                                          the same columns, those of what later versions added
--     pred_count, pred_actor, pred_counter     how many predecessors an operation has, and their ids
--     succ_count, succ_actor, succ_counter     how many successors a row has, and their ids
--     expand, mark                         whether a mark grows at its end, and its name
use Rattle.std.specs.Prelude.{ℕ}

abbrev pub object_actor : ℕ
object_actor = 1

abbrev pub object_counter : ℕ
object_counter = 2

abbrev pub key_actor : ℕ
key_actor = 17

abbrev pub key_counter : ℕ
key_counter = 19

abbrev pub key_name : ℕ
key_name = 21

abbrev pub id_actor : ℕ
id_actor = 33

abbrev pub id_counter : ℕ
id_counter = 35

abbrev pub insert : ℕ
insert = 52

abbrev pub action : ℕ
action = 66

abbrev pub value_metadata : ℕ
value_metadata = 86

abbrev pub value_raw : ℕ
value_raw = 87

abbrev pub pred_count : ℕ
pred_count = 112

abbrev pub pred_actor : ℕ
pred_actor = 113

abbrev pub pred_counter : ℕ
pred_counter = 115

abbrev pub succ_count : ℕ
succ_count = 128

abbrev pub succ_actor : ℕ
succ_actor = 129

abbrev pub succ_counter : ℕ
succ_counter = 131

abbrev pub expand : ℕ
expand = 148

abbrev pub mark : ℕ
mark = 165
