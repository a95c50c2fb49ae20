-- What is kept of an actor that was asked for.
use Rattle.std.proofs.Common.{ℕ, ◌≡◌, ◌<◌, List, Option, None, if◌then◌else◌, sym, ap, ◌∙◌, subst}
use Rattle.std.proofs.lemmas.Bool.{lt-ltb}
use Rattle.am_types.specs.declared.OpId.{OpId}
use Rattle.am_graph.specs.declared.reach.Reach.{Reach}
use Rattle.am_graph.specs.Clocks.{reach_of}
use Rattle.am_fits.specs.Facts.{Fact, fact_with}
use Rattle.am_fits.specs.Told.{ancestor_fact}

-- below the end a fact is told
pub fact_below : (clock : List (List ℕ × Reach)) (fs : List (OpId × Fact)) (i : OpId) (o : Option Fact) (end : ℕ) → end ≡ (reach_of clock i.actor).end → i.counter < end → o ≡ fact_with fs i → o ≡ ancestor_fact clock fs i
fact_below clock fs i o end e l f = f ∙ sym (ap (λ b. if b then fact_with fs i else None) (lt-ltb i.counter (reach_of clock i.actor).end (subst (λ n. i.counter < n) e l)))
