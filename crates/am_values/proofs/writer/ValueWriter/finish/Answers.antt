use Rattle.std.proofs.Common.{sym, subst}
use Rattle.std.specs.Option.{IfSome}
use Rattle.am_values.specs.Columns.{CanonValues}
use Rattle.am_values.proofs.Collected.{finished}
use Rattle.am_values.proofs.writer.ValueWriter.finish.Goals as goal

pub returns-clause-ok : goal.returns-clause-ok
returns-clause-ok c =
    subst (λ raw. IfSome c.args.self (CanonValues c.in_ok-numbers.numbers raw)) (sym c.from.ensures)
    (finished _ _ c.self.inside.raw.items c.in_ok-numbers.numbers _ c.if-self.false c.self.invariant c.self.view_is c.in_ok-numbers.ensures.ok)
