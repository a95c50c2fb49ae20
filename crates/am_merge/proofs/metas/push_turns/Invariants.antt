use Rattle.std.proofs.Common.{◌≡◌, ◌++◌, List, Some, map, drop, option_map}
use Rattle.am_types.specs.declared.Meta.{Meta}
use Rattle.am_merge.specs.ChangeRows.{row_in, moved_by, woven, change_rows}
use Rattle.am_merge.proofs.metas.push_turns.Given as goal

abbrev pub invariant-loop-i : goal.invariant-loop-i
invariant-loop-i l = record {
  actors : l.writer.0 ≡ l.fn.writer.0;
  rows : (done : List Meta) × (l.writer.1 ≡ Some done)
      × (done ++ woven (row_in l.places) (moved_by l.old_places.items) (drop l.i (map (option_map (λ c. c.now)) l.turns)) l.rest
      ≡ change_rows l.places (map (option_map (λ c. c.now)) l.turns) l.fn.rest);
}
