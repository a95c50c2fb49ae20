use Rattle.std.proofs.Common.{◌++◌, ℕ, List, append_assoc, arith, ap, ◌∙◌}
use Rattle.std.specs.List.{flat_map, count_by}
use Rattle.std.proofs.lemmas.List.{take_all}
use Rattle.std.proofs.lemmas.List.Sums.{length-filter}
use Rattle.am_leb.specs.Leb.{uleb}
use Rattle.am_colmeta.specs.Writing.{has_length, entry_bytes}
use Rattle.am_colmeta.proofs.Entries.{metadata-entries}
use Rattle.am_colmeta.proofs.writer.push_metadata.Goals as goal

pub returns-clause-written : goal.returns-clause-written
returns-clause-written c =
    let columns = c.args.columns.now in
    let before = c.args.out.now.items in
    c.loop-column.invariant
    ∙ ap (λ (done : List (ℕ × ℕ)). before ++ uleb (count_by has_length columns) ++ flat_map entry_bytes done) (take_all c.loop-column.column-index columns (omega arith))
    ∙ append_assoc before (uleb (count_by has_length columns)) (flat_map entry_bytes columns)
    ∙ ap (λ l. before ++ l) (metadata-entries columns)

pub returns-clause-few : goal.returns-clause-few
returns-clause-few c = omega (arith, length-filter has_length c.args.columns.now, c.count_of.ensures)
