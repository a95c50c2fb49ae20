use Rattle.std.proofs.Common.{arith, sym, ◌∙◌}
use Rattle.std.specs.Option.{option_map}
use Rattle.am_runs.specs.Items.{text_of}
use Rattle.am_runs.proofs.Counted.{copies_taken}
use Rattle.am_runs.proofs.text.TextCursor.next_alike_within.Goals as goal

pub returns-then-self-gt0-clause-next : goal.returns-then-self-gt0-clause-next
returns-then-self-gt0-clause-next c =
    (omega arith, omega arith, sym c.self.view_is ∙ copies_taken text_of c.min-k.result c.self.inside.more (option_map (λ s. s.now) c.self.inside.value) c.self.inside.runs (omega arith))
