use Rattle.std.proofs.Common.{ℕ, ◌≡◌, ◌∙◌, ◌≤◌, List, length, ap, sym}
use Rattle.std.specs.Option.{option_map_or}
use Rattle.std.proofs.lemmas.List.{get_or_past}
use Rattle.am_graph.specs.declared.reach.Reach.{Reach}
use Rattle.am_graph.specs.Reaches.{reach_at, unreached}
use Rattle.am_graph.proofs.Clocking.{reach_zip}
use Rattle.am_graph.proofs.clock.reach_of.Goals as goal

pub returns-then-author-table : goal.returns-then-author-table
returns-then-author-table c = sym (reach_zip c.args.authors.now c.args.table.now c.args.actor.now
    ∙ ap (λ o. option_map_or (reach_at c.args.table.now) o unreached) (sym c.in-Some.ensures))

pub returns-else-author-table : goal.returns-else-author-table
returns-else-author-table c = sym (reach_zip c.args.authors.now c.args.table.now c.args.actor.now
    ∙ ap (λ o. option_map_or (reach_at c.args.table.now) o unreached) (sym c.in-Some.ensures)
    ∙ past c.args.table.now c.in-Some.author c.if-author-table.false)
  where
    past : (T : List Reach) (a : ℕ) → length T ≤ a → reach_at T a ≡ unreached
    past T a l = get_or_past T a unreached l

pub returns-in_default : goal.returns-in_default
returns-in_default c = sym (reach_zip c.args.authors.now c.args.table.now c.args.actor.now
    ∙ ap (λ o. option_map_or (reach_at c.args.table.now) o unreached) (sym c.in_default.ensures))
