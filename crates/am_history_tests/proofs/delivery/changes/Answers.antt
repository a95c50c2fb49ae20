use Rattle.std.proofs.Common.{◌∷◌, [], All, sym, ap, subst, ◌∙◌}
use Rattle.std.proofs.lemmas.List.{map-append}
use Rattle.std.proofs.lemmas.List.Elements.{All-push}
use Rattle.am_types.specs.Deliver.{MayCome}
use Rattle.am_delivery.specs.Waiting.{member_of, members_of}
use Rattle.am_history_tests.proofs.delivery.changes.Goals as goal

pub loop-sample-preserved : goal.loop-sample-preserved
loop-sample-preserved c =
    let had = c.loop-sample.changes.items in
    let entry = c.in_ok-entry.entry in
    subst (All MayCome) (sym (ap members_of c.in_ok-push.ensures.items ∙ map-append member_of had (entry ∷ [])))
    (All-push MayCome (members_of had) (member_of entry) c.loop-sample.invariant c.in_ok-entry.ensures)
