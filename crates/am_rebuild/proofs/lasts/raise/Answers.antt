use Rattle.std.proofs.Common.{◌≡◌, ◌∙◌, Some, sym, ap}
use Rattle.std.specs.Map.{lookup, set_value}
use Rattle.std.specs.Prelude.{is_some}
use Rattle.std.proofs.lemmas.Bool.{both_ways}
use Rattle.std.proofs.lemmas.Map.Text.{is_eq-slice_cmp}
use Rattle.am_graph.proofs.TextMaps.{Text, is_text, looked_up}
use Rattle.am_rebuild.specs.Gathered.{has_last}
use Rattle.am_rebuild.proofs.Noted.{raised}
use Rattle.am_rebuild.proofs.lasts.raise.Goals as goal

pub returns-in-Some : goal.returns-in-Some
returns-in-Some c =
    let es = c.args.lasts.now.entries in
    let actor = c.args.actor.now in
    let wrote : (c.get_mut.follows.lender c.max.result).entries ≡ set_value (is_text actor) es c.max.result = (c.get_mut.follows.holds c.max.result).0 ∙ (λ i. set_value (λ (v : Text). is_eq-slice_cmp actor v.items i) es c.max.result) in
    let was : lookup (is_text actor) es ≡ Some c.in-Some.known.now = sym (looked_up actor es) ∙ sym c.in-Some.ensures.value in
    raised es (c.get_mut.follows.lender c.max.result).entries actor c.args.last c.max.result c.in-Some.known.now wrote was c.max.ensures

pub returns-in_default : goal.returns-in_default
returns-in_default c =
    absurd (both_ways (has_last c.args.lasts.now.entries c.args.actor.now) (ap is_some (sym (looked_up c.args.actor.now c.args.lasts.now.entries) ∙ sym c.in_default.ensures.value)) c.requires)
