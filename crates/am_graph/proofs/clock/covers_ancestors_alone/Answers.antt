use Rattle.am_types.specs.Ancestors.{ancestors}
use Rattle.am_graph.proofs.Covered.{covered_is_ancestor, ancestor_is_covered}
use Rattle.am_graph.proofs.Covering.{covered, covering}
use Rattle.am_graph.proofs.ValidFacts.{valid_facts}
use Rattle.am_graph.proofs.clock.covers_ancestors_alone.Goals as goal

pub returns : goal.returns
returns c C v hs m cm x cx =
    (λ t. covered_is_ancestor C (valid_facts C v) hs m x cm cx (covering (ancestors C hs) x.id t), λ a. covered (ancestors C hs) x.id (ancestor_is_covered C (valid_facts C v) hs m x a cx))
