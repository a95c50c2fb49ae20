use Rattle.std.proofs.Common.{ap, ◌∙◌, length, drop, arith}
use Rattle.std.specs.List.{zip}
use Rattle.std.proofs.lemmas.List.{length-drop}
use Rattle.am_fields.proofs.Zips.{length-zip, zip-drop}
use Rattle.am_fields.proofs.keys.KeyCellsRowCells.skip.Goals as goal

pub skip-requires : goal.skip-requires
skip-requires c = omega (arith, c.requires, ap length c.self.view_is, length-zip c.self.inside.counter c.self.inside.name c.self.invariant)

pub skip-requires-2 : goal.skip-requires-2
skip-requires-2 c = omega (arith, c.requires, ap length c.self.view_is, length-zip c.self.inside.counter c.self.inside.name c.self.invariant, c.self.invariant)

pub invariant_of-self : goal.invariant_of-self
invariant_of-self c = omega (arith, c.self.invariant, ap length c.skip.ensures, ap length c.skip-2.ensures, length-drop c.args.n c.self.inside.counter, length-drop c.args.n c.self.inside.name)

pub returns : goal.returns
returns c = ap (λ l. zip l c.skip-2.new.self) c.skip.ensures ∙ ap (zip (drop c.args.n c.self.inside.counter)) c.skip-2.ensures ∙ zip-drop c.args.n c.self.inside.counter c.self.inside.name c.self.invariant ∙ ap (drop c.args.n) c.self.view_is
