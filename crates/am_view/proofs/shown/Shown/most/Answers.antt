use Rattle.std.proofs.Common.{length, ap, arith}
use Rattle.am_view.specs.Seen.{seen_by}
use Rattle.am_view.proofs.Scanned.{walk_is_less}
use Rattle.am_view.proofs.shown.Shown.most.Goals as goal

pub returns : goal.returns
returns c =
    let at = c.self.inside in
    let few = walk_is_less (seen_by at.clock) at.rows in
    omega (arith, few, c.left.ensures, ap length c.self.view_is)
