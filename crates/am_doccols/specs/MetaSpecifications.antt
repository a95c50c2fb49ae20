-- The specifications of the columns of change rows. (Automerge Binary Document Format, "Document Chunks".)
--     author, seq, max             who made the change, its number among those of its author, and its last counter
--     time, message                when it was made, and what its author noted
--     dep_count, dep_index         how many dependencies it has, and their places among the change rows
--     extra_metadata, extra_raw    the length of what later versions added, and its bytes
use Rattle.std.specs.Prelude.{ℕ}

abbrev pub author : ℕ
author = 1

abbrev pub seq : ℕ
seq = 3

abbrev pub max : ℕ
max = 19

abbrev pub time : ℕ
time = 35

abbrev pub message : ℕ
message = 53

abbrev pub dep_count : ℕ
dep_count = 64

abbrev pub dep_index : ℕ
dep_index = 67

abbrev pub extra_metadata : ℕ
extra_metadata = 86

abbrev pub extra_raw : ℕ
extra_raw = 87
