use Rattle.std.proofs.Common.{◌≡◌, ◌∙◌, [], sym, subst}
use Rattle.std.specs.List.{zip}
use Rattle.am_types.specs.Ancestors.{ancestors}
use Rattle.am_laws.proofs.DistinctIds.{ancestor_is_member}
use Rattle.am_graph.specs.Clocks.{IsClockOf}
use Rattle.am_graph.specs.Graphs.{nodes, IsSound}
use Rattle.am_graph.specs.Whole.{authors_of, first_in}
use Rattle.am_graph.proofs.Clocking.{clock_is}
use Rattle.am_graph.proofs.Growing.{known_of, starts_of}
use Rattle.am_graph.proofs.graph.Graph.clock.Goals as goal

pub returns-clause-ok : goal.returns-clause-ok
returns-clause-ok c C e =
    let s = c.self.inside.parts in
    let whole = c.self.invariant in
    let is : s.held.entries ≡ nodes C = c.self.view_is ∙ e in
    subst (λ n. IsClockOf (ancestors C c.args.heads.now) (zip n c.in_ok-table.table.items)) (sym c.in_ok-authors.ensures)
    (clock_is (authors_of s) (ancestors C c.args.heads.now) c.in_ok-table.table.items (c.in_ok-table.ensures.table C is)
    (λ m cm. known_of s.held.entries s.marks.items (authors_of s) (first_in s.firsts) whole [] C is m (ancestor_is_member C c.args.heads.now m cm))
    (λ m cm. starts_of C (subst IsSound is whole.sound) m (ancestor_is_member C c.args.heads.now m cm)))
