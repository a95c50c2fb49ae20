use Rattle.std.proofs.Common.{◌≡◌, ◌≤◌, arith, length, ap, ◌∙◌, sym}
use Rattle.am_fields.proofs.Filled.{drop-filled, length-filled}
use Rattle.am_fields.proofs.filled_column.FilledColumn.skip.Goals as goal

pub returns : goal.returns
returns g c =
    let items = g.C.Spelled.items c.self.inside.cursor in
    let whole : length c.args.self.now ≡ c.self.inside.left = ap length (sym c.self.view_is) ∙ length-filled g.C.Spelled.blank c.self.inside.left items c.self.invariant in
    let room : c.args.n ≤ c.self.inside.left = omega arith in
    rw (← c.self.view_is, c.skip.ensures) (drop-filled g.C.Spelled.blank c.self.inside.left c.args.n items c.self.invariant room)
