use Rattle.std.proofs.Common.{sym, ap, ◌∙◌, arith, ◌≡◌}
use Rattle.am_merge.specs.Places.{place_in}
use Rattle.am_merge.proofs.Placing.{place_found, place_missing}
use Rattle.am_merge.proofs.lookup.Places.place.Goals as goal

pub returns-in-Some : goal.returns-in-Some
returns-in-Some c =
    let h = c.args.hash.now in
    let hs = c.self.inside.hashes.now in
    let found = place_found hs h 0 c.in-Some.place.now (sym (c.self.invariant.told h) ∙ sym c.in-Some.ensures.value) in
    let is : c.in-Some.place.now ≡ place_in hs h = omega arith in
    is ∙ ap (λ l. place_in l h) c.self.view_is

pub returns-in-None : goal.returns-in-None
returns-in-None c =
    let h = c.args.hash.now in
    let hs = c.self.inside.hashes.now in
    place_missing hs h 0 (sym (c.self.invariant.told h) ∙ sym c.in-None.ensures.value) ∙ ap (λ l. place_in l h) c.self.view_is
