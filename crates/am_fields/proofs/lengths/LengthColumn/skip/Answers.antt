use Rattle.std.proofs.Common.{◌∙◌, drop, ap}
use Rattle.std.specs.Prelude.{unwrap_or}
use Rattle.am_runs.proofs.Spelled.{map_drop}
use Rattle.am_fields.specs.Groups.{counts}
use Rattle.am_fields.proofs.lengths.LengthColumn.skip.Goals as goal

pub returns : goal.returns
returns c = ap counts c.skip.ensures ∙ map_drop (λ n. unwrap_or n 0) c.args.n c.self.inside.column ∙ ap (drop c.args.n) c.self.view_is
