-- What a graph says of a set of changes.
--     node_of c         what the graph keeps of the change c
--     nodes C           that of each member of C, beside its hash
--     is_held g h       h is a hash of the graph
use Rattle.std.specs.Ordering.{is_gt}
use Rattle.std.specs.Prelude.{ℕ, ◌&&◌, ◌==◌, filter, ◌≡◌, ◌≢◌, ◌≤◌, ◌<◌, ◌+◌, Bool, true, false, List, [], map, length, find, not, slice_index_or, All, Contains, Option, None, Some, ⊤}
use Rattle.std.specs.List.{list_any, position}
use lib.Pointwise.{pointwise}
use Rattle.am_types.specs.declared.Hash.{Hash}
use Rattle.am_types.specs.declared.Change.{Change}
use Rattle.am_types.specs.Order.{hash_cmp, among}
use Rattle.am_types.specs.Same.{same_bytes, same_hash}
use Rattle.am_types.specs.Members.{Member}
use Rattle.am_types.specs.Ancestors.{is_named, ancestor_hashes}
use Rattle.am_types.specs.contracts.hash.HashPartialEq.TheImpl as equality
use Rattle.am_types.specs.Limits.{counter_end}
use Rattle.std.specs.HashSet.{HashSet}
use Rattle.std.specs.HashSet as set
use Rattle.am_graph.specs.declared.node.Node.{Node}
use Rattle.std.specs.Map.{lookup, keys_of}
use Rattle.am_graph.specs.declared.fault.Added.{Added}
use Rattle.am_graph.specs.declared.fault.Added.TheVariants.{New, Same, Clash}
use Rattle.am_graph.specs.declared.fault.GraphFault.{GraphFault}
use Rattle.am_graph.specs.declared.fault.GraphFault.TheVariants as fault
use Rattle.am_graph.specs.declared.fault.ClockFault.{ClockFault}
use Rattle.am_graph.specs.declared.fault.ClockFault.TheVariants.{UnknownHead, NoMemory}

abbrev pub node_of : Change → Node
node_of c = record { actor = c.actor; seq = c.seq; start = c.start; count = length c.ops; deps = c.deps }

abbrev pub nodes : List Member → List (Hash × Node)
nodes C = map (λ m. (m.hash, node_of m.change)) C

abbrev pub is_held : List (Hash × Node) → Hash → Bool
is_held g h = among hash_cmp (map (λ e. e.0) g) h

abbrev pub names : Hash × Node → Hash → Bool
names e h = among hash_cmp e.1.deps h

-- the place at which the graph has the hash
abbrev pub place_in : List (Hash × Node) → Hash → Option ℕ
place_in g h = position (equality.eq-value.it h) (keys_of g)

-- each dependency is held, and no change names itself or a later one
pub record IsSound (g : List (Hash × Node)) : Type 0 where
  pub closed : All (λ e. All (λ h. is_held g h ≡ true) e.1.deps) g
  pub backward : (i j : ℕ) (d : Hash × Node) → i ≤ j → j < length g → names (slice_index_or g i d) (slice_index_or g j d).0 ≡ false
  pub distinct : (i j : ℕ) (d : Hash × Node) → i < j → j < length g → same_hash (slice_index_or g i d).0 (slice_index_or g j d).0 ≡ false
  pub starts : All (λ e. 1 ≤ e.1.start) g
  pub ends : All (λ e. e.1.start + e.1.count ≤ counter_end) g

-- the first of these hashes that is not held
abbrev pub missing : List (Hash × Node) → List Hash → Option Hash
missing g hs = find (λ h. not (is_held g h)) hs

-- P holds of whatever set the graph is of
abbrev pub ForSet : List (Hash × Node) → (List Member → Type 0) → Type 0
ForSet g P = (C : List Member) → g ≡ nodes C → P C

-- the set of the code has the hash
abbrev pub has : {S : Type 0} → HashSet Hash S → Hash → Bool
has s h = set.contains equality.eq-value.it s h

-- the hashes that pass the test are those of the ancestors of hs
abbrev pub TellsAncestors : List (Hash × Node) → List Hash → (Hash → Bool) → Type 0
TellsAncestors g hs test = ForSet g (λ C. (m : Member) → Contains C m → test m.hash ≡ is_named (ancestor_hashes C hs) m)

-- P holds of the hash of the fault, where it is no want of memory
abbrev pub MatchFault : ClockFault → (Hash → Type 0) → Type 0
MatchFault (UnknownHead h) P = P h
MatchFault NoMemory P = ⊤

abbrev pub MatchMissing : GraphFault → (Hash → Type 0) → Type 0
MatchMissing (fault.MissingDep h) P = P h
MatchMissing fault.NoMemory P = ⊤

-- what the graph has of the hash
abbrev pub find_node : List (Hash × Node) → Hash → Option Node
find_node g h = lookup (equality.eq-value.it h) g

-- the two are equal in each part
abbrev pub same_node : Node → Node → Bool
same_node a b = a.seq == b.seq && a.start == b.start && a.count == b.count && same_bytes a.actor b.actor && pointwise equality.eq-value.it a.deps b.deps

-- what is answered to a change, beside what is held at its hash
abbrev pub Answers : Added → Option Node → Node → Type 0
Answers New held node = held ≡ None
Answers Same held node = held ≡ Some node
Answers Clash held node = (other : Node) × (held ≡ Some other) × (other ≢ node)

-- h is a dependency of a change of the graph
abbrev pub is_named_in : List (Hash × Node) → Hash → Bool
is_named_in g h = list_any (λ e. names e h) g

-- the hashes of the changes with this actor and this seq
abbrev pub having : List (Hash × Node) → List ℕ → ℕ → List Hash
having g actor seq = map (λ e. e.0) (filter (λ e. same_bytes actor e.1.actor && e.1.seq == seq) g)

-- no two changes have one author and one seq
pub record HasDistinctSeqs (g : List (Hash × Node)) : Type 0 where
  pub once : (actor : List ℕ) (seq : ℕ) → length (having g actor seq) ≤ 1

-- the least of these hashes, or None where there is none
abbrev pub IsLeast : Option Hash → List Hash → Type 0
IsLeast None hs = hs ≡ []
IsLeast (Some h) hs = Contains hs h × All (λ k. is_gt (hash_cmp h k) ≡ false) hs
