-- A document whose set grows.
--     HasGrown g n cs C E     g is the graph of the set C and of the members E behind it, C has n members, and cs are the
--                             changes of E; both sets are valid
--     Merges t cs g C E       and t is the table of C
--     MayMerge t cs g         there are such sets
--     Joins ms as cs g C E    and ms are the change rows of C, and as the actors of both
--     MayJoin ms as cs g      there are such sets
--     Respells t cs g C       g is the graph of the set C, and cs are its changes; C is valid, and the rows of the table t are its
--                             rows
--     MayRespell t cs g       there is such a set
use Rattle.std.specs.Prelude.{ℕ, ◌≡◌, List, ◌++◌, length}
use Rattle.am_types.specs.declared.Hash.{Hash}
use Rattle.am_types.specs.declared.Change.{Change}
use Rattle.am_types.specs.declared.Meta.{Meta}
use Rattle.am_types.specs.declared.Table.{Table}
use Rattle.am_types.specs.Members.{Member, changes}
use Rattle.am_types.specs.ValidSets.{Valid}
use Rattle.am_types.specs.Canonical.{order}
use Rattle.am_types.specs.Documents.{metas, table, used_actors}
use Rattle.am_types.specs.Rows.{rows}
use Rattle.am_types.specs.Operations.{all_operations}
use Rattle.am_graph.specs.declared.Node.{Node}
use Rattle.am_graph.specs.Graphs.{nodes}

pub record HasGrown (g : List (Hash × Node)) (n : ℕ) (cs : List Change) (C E : List Member) : Type 0 where
  pub graph : g ≡ nodes (C ++ E)
  pub count : n ≡ length C
  pub added : changes E ≡ cs
  pub valid_before : Valid C
  pub valid : Valid (C ++ E)

pub record Merges (t : Table) (cs : List Change) (g : List (Hash × Node)) (C E : List Member) : Type 0 where
  pub document : t ≡ table C
  pub grown : HasGrown g (length C) cs C E

pub record MayMerge (t : Table) (cs : List Change) (g : List (Hash × Node)) : Type 0 where
  pub before : List Member
  pub added : List Member
  pub merges : Merges t cs g before added

pub record Joins (ms : List Meta) (actors : List (List ℕ)) (cs : List Change) (g : List (Hash × Node)) (C E : List Member) : Type 0 where
  pub change_rows : ms ≡ metas (order C)
  pub used : actors ≡ used_actors (C ++ E)
  pub grown : HasGrown g (length C) cs C E

pub record MayJoin (ms : List Meta) (actors : List (List ℕ)) (cs : List Change) (g : List (Hash × Node)) : Type 0 where
  pub before : List Member
  pub added : List Member
  pub joins : Joins ms actors cs g before added

pub record Respells (t : Table) (cs : List Change) (g : List (Hash × Node)) (C : List Member) : Type 0 where
  pub graph : g ≡ nodes C
  pub all : changes C ≡ cs
  pub valid : Valid C
  pub same_rows : t.rows ≡ rows (all_operations (changes C))

pub record MayRespell (t : Table) (cs : List Change) (g : List (Hash × Node)) : Type 0 where
  pub set : List Member
  pub respells : Respells t cs g set
