-- The contents of the document of a set, which a store keeps in place of the changes.
--     IsContents C bytes        the set C is valid, each member stands beside its own hash, and the bytes are the contents of its
--                               canonical document
--     AreContents bytes         they are so of some set
--     ForContents bytes P       P holds of whatever set they are of
--     IsLarger bytes cs g C E   the bytes are the contents of the set C, which is valid with the members E behind it; these have
--                               the changes cs, and g is the graph of all
--     MayBecome bytes cs g      there are such sets
use Rattle.std.specs.Prelude.{ℕ, ◌≡◌, List, ◌++◌}
use Rattle.am_types.specs.declared.Hash.{Hash}
use Rattle.am_types.specs.declared.Change.{Change}
use Rattle.am_types.specs.Members.{Member, changes}
use Rattle.am_types.specs.ValidSets.{Valid}
use Rattle.am_types.specs.Documents.{table}
use Rattle.am_change.specs.Judgement.{HasOwnHashes}
use Rattle.am_doc.specs.Contents.{body}
use Rattle.am_graph.specs.declared.Node.{Node}
use Rattle.am_graph.specs.Graphs.{nodes}

pub record IsContents (C : List Member) (bytes : List ℕ) : Type 0 where
  pub valid : Valid C
  pub own_hashes : HasOwnHashes C
  pub bytes_are : bytes ≡ body (table C)

abbrev pub AreContents : List ℕ → Type 0
AreContents bytes = (C : List Member) × IsContents C bytes

abbrev pub ForContents : List ℕ → (List Member → Type 0) → Type 0
ForContents bytes P = (C : List Member) → IsContents C bytes → P C

pub record IsLarger (bytes : List ℕ) (cs : List Change) (g : List (Hash × Node)) (C E : List Member) : Type 0 where
  pub before : IsContents C bytes
  pub valid : Valid (C ++ E)
  pub added : changes E ≡ cs
  pub graph : g ≡ nodes (C ++ E)

pub record MayBecome (bytes : List ℕ) (cs : List Change) (g : List (Hash × Node)) : Type 0 where
  pub before : List Member
  pub added : List Member
  pub larger : IsLarger bytes cs g before added
