use Rattle.std.proofs.Common.{map, ap, ◌∙◌}
use Rattle.std.proofs.lemmas.Result.{IfOk-weaker}
use Rattle.am_delivery.specs.Waiting.{members_of}
use Rattle.am_store.specs.History.{history, line_of}
use Rattle.am_store.specs.Kept.{Kept}
use Rattle.am_store.proofs.Telling.{lines_members}
use Rattle.am_store.proofs.Wholes.{lent}
use Rattle.am_store.proofs.store.Store.history.Goals as goal

pub rebuilt-requires : goal.rebuilt-requires
rebuilt-requires c = (members_of c.self.inside.closed.entries, lent c.self.inside c.self.invariant c.as_slice.result.now c.as_slice.ensures)

pub returns : goal.returns
returns c =
    let is = lent c.self.inside c.self.invariant c.as_slice.result.now c.as_slice.ensures in
    let listed = c.in_ok-entries.ensures (members_of c.self.inside.closed.entries) is in
    IfOk-weaker c.lines_of.result _ _ (λ lines e. e ∙ lines_members c.as_slice-2.result.now ∙ ap (λ es. map line_of (members_of es)) c.as_slice-2.ensures.value ∙ ap (map line_of) listed ∙ ap (λ (k : Kept). history k.closed) c.self.view_is) c.lines_of.ensures
