use Rattle.std.proofs.Common.{◌∙◌, List, ℕ, ap, sym}
use Rattle.am_graph.specs.Clocks.{reach_of}
use Rattle.am_graph.specs.Reaches.{number}
use Rattle.am_fits.specs.Words.{words_of}
use Rattle.am_fits.proofs.ancestors.Ancestors.new.Goals as goal

pub invariant_of-result : goal.invariant_of-result
invariant_of-result c =
    let clock = c.args.reached in
    let table = c.table-table.result.now in
    let told = c.asked_of-asked.ensures in (
      c.recent_of.ensures clock table (record {
        table = c.table-table.ensures.table;
        author = told.author ∙ sym (ap (number (words_of table.texts).authors) told.actor);
        end = told.end ∙ sym (ap (λ (y : List ℕ). (reach_of clock y).end) told.actor);
      }),
      tt,
      tt,
    )
