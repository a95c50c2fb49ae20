-- What a store tells of the changes of its closed set.
--     line_of m         the line of the member m: what its change is called by, and how many operations it has
--     history C         the lines of the members of the set C, in canonical order
use Rattle.std.specs.Prelude.{List, length, map}
use Rattle.am_types.specs.Members.{Member}
use Rattle.am_types.specs.Canonical.{order}
use Rattle.am_store.specs.declared.history.HistoryLine.{HistoryLine}

abbrev pub line_of : Member → HistoryLine
line_of m = record {
  hash = m.hash;
  actor = m.change.actor;
  seq = m.change.seq;
  start = m.change.start;
  count = length m.change.ops;
  time = m.change.time;
  message = m.change.message;
}

abbrev pub history : List Member → List HistoryLine
history C = map line_of (order C)
