use Rattle.std.proofs.Common.{◌≡◌, ◌++◌, take}
use Rattle.std.specs.List.{flat_map, count_by}
use Rattle.am_leb.specs.Leb.{uleb}
use Rattle.am_colmeta.specs.Writing.{has_length, entry_bytes}
use Rattle.am_colmeta.proofs.writer.push_metadata.Given as goal

abbrev pub invariant-loop-column : goal.invariant-loop-column
invariant-loop-column l = l.out.items ≡ l.fn.out.items ++ uleb (count_by has_length l.columns) ++ flat_map entry_bytes (take l.column-index l.columns)
