use Rattle.std.proofs.Common.{arith, ap, ◌∙◌, drop}
use Rattle.std.specs.Option.{option_map}
use Rattle.am_runs.specs.Items.{text_of}
use Rattle.am_runs.specs.Typed.{texts}
use Rattle.am_runs.proofs.Spelled.{map_drop}
use Rattle.am_runs.proofs.Taken.{drop_held, drop_past}
use Rattle.am_runs.proofs.text.TextCursor.skip.Goals as goal

pub returns-then-n-self : goal.returns-then-n-self
returns-then-n-self c = drop_held c.args.n c.self.inside.more (option_map (λ s. s.now) c.self.inside.value) (texts c.self.inside.runs) (omega arith) ∙ ap (drop c.args.n) c.self.view_is

pub returns : goal.returns
returns c = ap texts c.skip.ensures ∙ map_drop (option_map text_of) _ c.self.inside.runs ∙ drop_past c.args.n c.self.inside.more (option_map (λ s. s.now) c.self.inside.value) (texts c.self.inside.runs) (omega arith) ∙ ap (drop c.args.n) c.self.view_is
