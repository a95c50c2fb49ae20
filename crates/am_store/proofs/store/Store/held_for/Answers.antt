use Rattle.std.proofs.Common.{ap, ◌∙◌}
use Rattle.am_delivery.specs.Waiting.{members_of}
use Rattle.am_store.specs.Kept.{Kept}
use Rattle.am_store.proofs.Wholes.{lent}
use Rattle.am_store.proofs.store.Store.held_for.Goals as goal

pub listed-requires : goal.listed-requires
listed-requires c = (members_of c.self.inside.closed.entries, lent c.self.inside c.self.invariant c.as_slice.result.now c.as_slice.ensures, c.self.invariant.of_set.graph)

pub returns-then-holds : goal.returns-then-holds
returns-then-holds c =
    let is = lent c.self.inside c.self.invariant c.as_slice.result.now c.as_slice.ensures in
    c.in_ok-entries.ensures (members_of c.self.inside.closed.entries) is c.self.invariant.of_set.graph ∙ ap (λ (k : Kept). k.closed) c.self.view_is
