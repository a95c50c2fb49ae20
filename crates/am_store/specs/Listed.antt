-- The changes of a set, put at their places in its listing.
--     IsListed C g es          g is the graph of the set C, and the entries es are its members, each once, in any order
--     placed es m              the entry of the member m, where it is among es
--     standing places          the entries that stand in the places that are taken
--     AreRoomFor g es places   there is an empty place for each of the entries es, which are a set of which g is the graph
use Rattle.std.specs.Prelude.{◌≡◌, List, [], ◌∷◌, map, Option, Some, None, if◌then◌else◌, IsPermutation}
use Rattle.am_types.specs.declared.Hash.{Hash}
use Rattle.am_types.specs.declared.Change.{Change}
use Rattle.am_types.specs.Members.{Member, DistinctHashes, holds}
use Rattle.am_graph.specs.declared.Node.{Node}
use Rattle.am_graph.specs.Graphs.{nodes}
use Rattle.am_delivery.specs.Waiting.{members_of}

pub record IsListed (C : List Member) (g : List (Hash × Node)) (es : List (Hash × Change)) : Type 0 where
  pub graph : g ≡ nodes C
  pub distinct : DistinctHashes C
  pub same : IsPermutation C (members_of es)

abbrev pub placed : List (Hash × Change) → Member → Option (Hash × Change)
placed es m = if holds (members_of es) m.hash then Some (m.hash, m.change) else None

abbrev pub standing : List (Option (Hash × Change)) → List (Hash × Change)
standing [] = []
standing (None ∷ places) = standing places
standing (Some e ∷ places) = e ∷ standing places

pub record AreRoomFor (g : List (Hash × Node)) (es : List (Hash × Change)) (places : List (Option (Hash × Change))) : Type 0 where
  pub set : List Member
  pub listed : IsListed set g es
  pub empty : places ≡ map (λ e. None) es
