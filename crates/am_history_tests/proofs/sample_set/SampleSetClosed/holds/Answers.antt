use Rattle.std.proofs.Common.{option_map, ap, ◌∙◌}
use Rattle.am_types.specs.Members.{Member, member}
use Rattle.am_delivery.specs.Waiting.{members_of}
use Rattle.am_history_tests.proofs.SampleSets.{held_is}
use Rattle.am_history_tests.proofs.sample_set.SampleSetClosed.holds.Goals as goal

pub returns : goal.returns
returns c =
    let h = c.args.hash.now in
    c.is_some.ensures ∙ held_is (members_of c.args.self.now.held.items) h c.found.result (c.found.ensures ∙ ap (λ es. option_map (λ (m : Member). m.change) (member (members_of es) h)) c.as_slice.ensures.value)
