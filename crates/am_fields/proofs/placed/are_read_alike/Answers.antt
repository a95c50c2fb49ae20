use Rattle.std.proofs.Common.{◌∙◌, sym, arith}
use Rattle.am_fields.proofs.Judging.{same_some, one_read, behind_one}
use Rattle.am_fields.proofs.placed.are_read_alike.Goals as goal

pub returns-then-n-eq1-clause-read : goal.returns-then-n-eq1-clause-read
returns-then-n-eq1-clause-read g c =
    let i = c.item.ensures.item in
    let row = same_some g.B.Beside.item_of c.item.result _ i.2 in
    one_read (g.B.RowCells.rows.read c.args.actors.now) c.args.place i.0 _ _ c.args.n _ (omega arith) i.1 (row ∙ sym c.is_some.ensures)

pub returns-then-n-eq1-clause-behind : goal.returns-then-n-eq1-clause-behind
returns-then-n-eq1-clause-behind g c =
    let i = c.item.ensures.item in
    λ e. behind_one i.0 _ _ c.args.n (omega arith) i.1
