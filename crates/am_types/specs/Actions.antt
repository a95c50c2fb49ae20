-- The actions of operations, by their numbers. (Automerge Binary Document Format, "actions".)
--     is_make a     a makes a map, a list, a text or a table
use Rattle.std.specs.Prelude.{ℕ, Bool, ◌==◌, ◌||◌}

abbrev pub make_map : ℕ
make_map = 0

abbrev pub set : ℕ
set = 1

abbrev pub make_list : ℕ
make_list = 2

abbrev pub del : ℕ
del = 3

abbrev pub make_text : ℕ
make_text = 4

abbrev pub inc : ℕ
inc = 5

abbrev pub make_table : ℕ
make_table = 6

abbrev pub mark : ℕ
mark = 7

abbrev pub is_make : ℕ → Bool
is_make a = a == make_map || a == make_list || a == make_text || a == make_table
