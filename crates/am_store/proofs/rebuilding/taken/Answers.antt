use Rattle.std.proofs.Common.{◌∷◌, [], ◌++◌, sym, ap, ◌∙◌}
use Rattle.am_store.specs.Listed.{standing}
use Rattle.am_store.proofs.Listing.{more_standing}
use Rattle.am_store.proofs.rebuilding.taken.Goals as goal

pub loop-place-preserved : goal.loop-place-preserved
loop-place-preserved c = c.in_ok-take_place.ensures ∙ ap (λ l. l ++ standing (c.in-Some.place ∷ [])) c.loop-place.invariant ∙ sym (more_standing c.loop-place.yielded c.in-Some.place)
