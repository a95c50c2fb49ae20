use Rattle.std.proofs.Common.{◌<◌, length, drop}
use Rattle.am_view.proofs.Scanned.{first_behind}
use Rattle.am_view.proofs.deferred.Deferred.pass.Goals as goal

pub returns : goal.returns
returns g c =
    let some : 0 < length (drop c.self.inside.owed (g.C.Items.values c.self.inside.columns)) = rw c.self.view_is c.requires in
    rw (← c.self.view_is) (first_behind c.self.inside.owed (g.C.Items.values c.self.inside.columns) some)
