use Rattle.std.proofs.Common.{Some, option_map, sym, ap, ◌∙◌}
use Rattle.am_types.specs.Members.{Member, member}
use Rattle.am_delivery.specs.Waiting.{members_of}
use Rattle.am_history_tests.proofs.SampleSets.{held_same}
use Rattle.am_history_tests.proofs.sample_set.SampleSetClosed.is_same.Goals as goal

pub returns-in-Some : goal.returns-in-Some
returns-in-Some c =
    let h = c.args.hash.now in
    let is = c.in-Some.ensures ∙ ap (λ es. option_map (λ (m : Member). m.change) (member (members_of es) h)) c.as_slice.ensures.value in
    record { same = held_same (members_of c.args.self.now.held.items) h c.in-Some.held.now c.args.change.now is ∙ ap Some (sym c.is_same.ensures) }
