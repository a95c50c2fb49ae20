-- The operations of ancestors, as they are asked for.
--     Past                the clock of the ancestors, and the facts of all operations
--     IsPast C t a        what is kept of an actor is what the clock C and the table t tell
--     AreRecent C t r     so it is with all that is kept of actors
--     IsFound C fs f      what is kept of an id is what the clock C and the facts fs tell
use Rattle.std.specs.Prelude.{ℕ, ◌≡◌, All, List, option_map}
use Rattle.am_types.specs.declared.OpId.{OpId}
use Rattle.am_graph.specs.declared.reach.Reach.{Reach}
use Rattle.am_graph.specs.Clocks.{reach_of}
use Rattle.am_graph.specs.Reaches.{number}
use Rattle.am_types.specs.Views.{id_of}
use Rattle.am_fits.specs.declared.ancestors.Asked.{Asked}
use Rattle.am_fits.specs.declared.ancestors.Found.{Found}
use Rattle.am_fits.specs.declared.ancestors.Recent.{Recent}
use Rattle.am_fits.specs.declared.table.Table.{Table}
use Rattle.am_fits.specs.Facts.{Fact}
use Rattle.am_fits.specs.Shown.{fact_shown}
use Rattle.am_fits.specs.Tables.{IsTable}
use Rattle.am_fits.specs.Told.{ancestor_fact}
use Rattle.am_fits.specs.Words.{words_of}

pub record Past : Type 0 where
  pub clock : List (List ℕ × Reach)
  pub facts : List (OpId × Fact)

pub record IsPast (clock : List (List ℕ × Reach)) (t : Table) (a : Asked) : Type 0 where
  pub table : IsTable t
  pub author : a.author ≡ number (words_of t.texts).authors a.actor.now
  pub end : a.end ≡ (reach_of clock a.actor.now).end

pub record AreRecent (clock : List (List ℕ × Reach)) (t : Table) (r : Recent) : Type 0 where
  pub last : IsPast clock t r.last
  pub others : All (IsPast clock t) r.others

abbrev pub IsFound : List (List ℕ × Reach) → List (OpId × Fact) → Found → Type 0
IsFound clock fs f = option_map fact_shown f.seen ≡ ancestor_fact clock fs (id_of f.id)
