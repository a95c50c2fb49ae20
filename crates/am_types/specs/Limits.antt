-- The numbers that changes, sets and documents are limited by. That the actions end at 7 is the format's; each other number
-- is a choice of amstore's profile.
--     counter_end           what every counter is below, and every number that a change has among those of its author;
--                           columns of whole numbers are read up to it
--     greatest_action       the greatest number of an action
--     longest_actor         the most bytes of an actor
--     most_changes          the most changes of a set, and the most change rows of a document
--     most_operations       the most operations of a change and of a set, and the most predecessors and dependencies of either;
--                           also the most rows of a document, successors of these and dependencies of its change rows
use Rattle.std.specs.Prelude.{ℕ, ◌^◌}

abbrev pub counter_end : ℕ
counter_end = 2 ^ 53

abbrev pub greatest_action : ℕ
greatest_action = 7

abbrev pub longest_actor : ℕ
longest_actor = 1024

abbrev pub most_changes : ℕ
most_changes = 2 ^ 20

abbrev pub most_operations : ℕ
most_operations = 2 ^ 22
