use Rattle.std.proofs.Common.{◌∙◌, List, ℕ, ap}
use Rattle.am_types.specs.Views.{id_of}
use Rattle.am_graph.specs.Clocks.{reach_of}
use Rattle.am_graph.specs.Reaches.{number}
use Rattle.am_fits.specs.Past.{Past}
use Rattle.am_fits.specs.Tables.{facts_in}
use Rattle.am_fits.specs.Told.{ancestor_fact}
use Rattle.am_fits.specs.Words.{words_of}
use Rattle.am_fits.proofs.Covered.{fact_below}
use Rattle.am_fits.proofs.ancestors.Ancestors.find.Goals as goal

pub returns-clause-found : goal.returns-clause-found
returns-clause-found c =
    let i = id_of c.args.id in
    let clock = c.self.inside.reached in
    let table = c.self.inside.table.now in
    let author = c.ask-is_new.ensures.past.author ∙ ap (number (words_of table.texts).authors) c.ask-is_new.ensures.actor in
    let end = c.ask-is_new.ensures.past.end ∙ ap (λ (y : List ℕ). (reach_of clock y).end) c.ask-is_new.ensures.actor in
    fact_below clock (facts_in table) i _ c.ask-is_new.result.0.end end c.if-id-asked.false (c.at.ensures c.args.id.actor.now author) ∙ ap (λ (p : Past). ancestor_fact p.clock p.facts i) c.self.view_is

pub invariant_of-self : goal.invariant_of-self
invariant_of-self c = (c.keep.ensures.recent c.self.inside.reached c.self.inside.table.now c.ask-is_new.ensures.past c.self.invariant.0, c.self.invariant.1, c.self.invariant.2)

pub invariant_of-self-2 : goal.invariant_of-self-2
invariant_of-self-2 c = (c.keep.ensures.recent c.self.inside.reached c.self.inside.table.now c.ask-is_new.ensures.past c.self.invariant.0, c.self.invariant.1, c.self.invariant.2)
