use Rattle.std.proofs.Common.{drop, arith, ap, ◌∙◌}
use Rattle.am_fields.proofs.Ahead.{drop-ahead, drop-behind}
use Rattle.am_fields.proofs.counted_column.CountedColumn.skip.Goals as goal

pub returns-then-n-self : goal.returns-then-n-self
returns-then-n-self g c =
    let few = c.if-n-self.true in
    drop-ahead c.args.n c.self.inside.alike (g.C.Spelled.value c.self.inside.item) c.self.inside.behind (omega arith) ∙ ap (drop c.args.n) c.self.view_is

pub returns : goal.returns
returns g c =
    let many = c.if-n-self.false in
    c.skip.ensures ∙ drop-behind c.args.n c.self.inside.alike (g.C.Spelled.value c.self.inside.item) c.self.inside.behind (omega arith) ∙ ap (drop c.args.n) c.self.view_is
