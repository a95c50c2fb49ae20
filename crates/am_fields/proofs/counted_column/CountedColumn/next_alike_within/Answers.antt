use Rattle.std.proofs.Common.{◌≤◌, arith, sym, ◌∙◌}
use Rattle.std.proofs.lemmas.Grind.{common_steps}
use Rattle.am_fields.proofs.Ahead.{split-ahead}
use Rattle.am_fields.proofs.counted_column.CountedColumn.next_alike_within.Goals as goal

pub returns-then-self-gt0-clause-next : goal.returns-then-self-gt0-clause-next
returns-then-self-gt0-clause-next g c =
    let few : c.min-count.result ≤ c.self.inside.alike = grind (arith, common_steps) in
    sym c.self.view_is ∙ split-ahead c.min-count.result c.self.inside.alike (g.C.Spelled.value c.self.inside.item) c.self.inside.behind few
