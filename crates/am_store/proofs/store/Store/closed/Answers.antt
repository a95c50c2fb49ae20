use Rattle.std.proofs.Common.{vec_items, ap, ◌∙◌}
use Rattle.std.proofs.lemmas.Result.{IfOk-weaker}
use Rattle.am_types.specs.Members.{changes}
use Rattle.am_types.specs.Canonical.{order}
use Rattle.am_delivery.specs.Waiting.{members_of}
use Rattle.am_store.specs.Kept.{Kept}
use Rattle.am_store.proofs.Picking.{bare_members}
use Rattle.am_store.proofs.Wholes.{lent}
use Rattle.am_store.proofs.store.Store.closed.Goals as goal

pub rebuilt-requires : goal.rebuilt-requires
rebuilt-requires c = (members_of c.self.inside.closed.entries, lent c.self.inside c.self.invariant c.as_slice.result.now c.as_slice.ensures)

pub returns : goal.returns
returns c =
    let is = lent c.self.inside c.self.invariant c.as_slice.result.now c.as_slice.ensures in
    let listed = c.in_ok-entries.ensures (members_of c.self.inside.closed.entries) is in
    IfOk-weaker c.without_hashes.result _ _ (λ list e. e ∙ bare_members (vec_items c.in_ok-entries.entries) ∙ ap changes listed ∙ ap (λ (k : Kept). changes (order k.closed)) c.self.view_is) c.without_hashes.ensures
