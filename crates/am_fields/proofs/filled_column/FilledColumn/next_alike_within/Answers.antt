use Rattle.std.proofs.Common.{◌≤◌, arith, sym, ◌∙◌}
use Rattle.std.proofs.lemmas.Grind.{common_steps}
use Rattle.am_fields.proofs.Filled.{blanks_part}
use Rattle.am_fields.proofs.filled_column.FilledColumn.next_alike_within.Goals as goal

pub returns-in-None-clause-next : goal.returns-in-None-clause-next
returns-in-None-clause-next g c =
    let few : c.min-count.result ≤ c.self.inside.left = grind (arith, common_steps) in
    rw (c.blank.ensures) (sym c.self.view_is ∙ blanks_part g.C.Spelled.blank c.self.inside.left c.min-count.result (g.C.Spelled.items c.self.inside.cursor) _ c.in-None.ensures.end.0 c.in-None.ensures.end.1 few)
