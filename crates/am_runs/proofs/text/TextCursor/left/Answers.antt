use Rattle.std.proofs.Common.{arith, ap, length}
use Rattle.std.specs.Option.{option_map}
use Rattle.am_runs.specs.Items.{text_of}
use Rattle.am_runs.proofs.Taken.{length-held}
use Rattle.am_runs.proofs.text.TextCursor.left.Goals as goal

pub returns : goal.returns
returns c = omega (arith, c.left.ensures, length-held (option_map text_of) c.self.inside.more (option_map (λ s. s.now) c.self.inside.value) c.self.inside.runs, ap length c.self.view_is)
