-- What an index says of a set of changes.
--     Indexed              the facts of some operations, and the totals of their changes
--     index_of cs          those of the changes cs, as they are listed
--     index_with ix c      those of the changes with the index ix, and of c
--     AreOf C g ix         graph and index are those of the set C, as it is listed
--     ForChanges ix P      P holds of whatever changes the index is of
--     ForValid g ix P      P holds of whatever valid set graph and index are of
--     MayAdmit ix c        the index is of changes that are a valid set together with c
--     MayJoin g ix c       graph and index are of a valid set that has the dependencies of c, and c is fine
use Rattle.std.specs.Prelude.{◌≡◌, List, [], ◌∷◌, ◌++◌, IsTrue}
use Rattle.am_types.specs.declared.OpId.{OpId}
use Rattle.am_types.specs.declared.Hash.{Hash}
use Rattle.am_types.specs.declared.Change.{Change}
use Rattle.am_types.specs.declared.Totals.{Totals}
use Rattle.am_types.specs.Fine.{Fine}
use Rattle.am_types.specs.Members.{Member, changes, holds_deps}
use Rattle.am_types.specs.Operations.{operations}
use Rattle.am_types.specs.Totals.{totals_of, totals_with}
use Rattle.am_types.specs.ValidSets.{Valid, IsValidSet}
use Rattle.am_graph.specs.declared.node.Node.{Node}
use Rattle.am_graph.specs.Graphs.{nodes}
use Rattle.am_fits.specs.Facts.{Fact, facts, facts_of}

pub record Indexed : Type 0 where
  pub facts : List (OpId × Fact)
  pub totals : Totals

abbrev pub index_of : List Change → Indexed
index_of cs = record { facts = facts_of cs; totals = totals_of cs }

abbrev pub index_with : Indexed → Change → Indexed
index_with ix c = record { facts = ix.facts ++ facts (operations c); totals = totals_with ix.totals c }

pub record AreOf (C : List Member) (g : List (Hash × Node)) (ix : Indexed) : Type 0 where
  pub graph : g ≡ nodes C
  pub index : ix ≡ index_of (changes C)

abbrev pub ForChanges : Indexed → (List Change → Type 0) → Type 0
ForChanges ix P = (cs : List Change) → ix ≡ index_of cs → P cs

abbrev pub ForValid : List (Hash × Node) → Indexed → (List Member → Type 0) → Type 0
ForValid g ix P = (C : List Member) → AreOf C g ix → Valid C → P C

pub record MayAdmit (ix : Indexed) (c : Change) : Type 0 where
  pub set : List Change
  pub of_set : ix ≡ index_of set
  pub valid : IsValidSet (set ++ c ∷ [])

pub record MayJoin (g : List (Hash × Node)) (ix : Indexed) (c : Change) : Type 0 where
  pub set : List Member
  pub of_set : AreOf set g ix
  pub valid : Valid set
  pub deps : IsTrue (holds_deps set c)
  pub fine : Fine c
