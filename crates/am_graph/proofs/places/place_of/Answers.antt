use Rattle.std.proofs.Common.{◌∙◌, refl, sym}
use Rattle.am_graph.proofs.Guessing.{guessed_place, guessed_held}
use Rattle.am_graph.proofs.Held.{is_some-held}
use Rattle.am_graph.proofs.places.place_of.Goals as goal

pub returns-then-eq-clause-index : goal.returns-then-eq-clause-index
returns-then-eq-clause-index c =
    guessed_place c.args.held.now.entries c.args.hash.now (c.in-Some.there.now, c.in-Some.field-0-1.now) (sym c.eq.ensures ∙ c.if-eq.true) c.requires c.args.guess (c.in-Some.ensures.found.0 refl) (sym c.in-Some.ensures.entry)

pub returns-then-eq-clause-found : goal.returns-then-eq-clause-found
returns-then-eq-clause-found c =
    guessed_held c.args.held.now.entries c.args.hash.now (c.in-Some.there.now, c.in-Some.field-0-1.now) (sym c.eq.ensures ∙ c.if-eq.true) c.in-Some.field-0-1.now c.in-Some.ensures.value

pub returns-clause-found : goal.returns-clause-found
returns-clause-found c = c.get_index_of.ensures.found ∙ is_some-held c.args.hash.now c.args.held.now.entries
