-- How linked nodes spell a list. An element is the number of a node beside its id.
--     spelled nodes at        the elements to which the links lead from `at`, in turn
--     Leads nodes at es       the links lead from `at` through es and end there
--     IsChain nodes first es      they lead from the first through all nodes, whose ids differ
--     IsGap nodes es before at put target      between `before` and `at` there is a gap: with what stands behind it
--                             changed by put, the ids of es are the target
--     IsInserted nodes e target more start     with one more node, for e at the end, they are linked, and the ids along the
--                             chain are the target
use Rattle.std.specs.Prelude.{ℕ, zero, suc, ◌≡◌, ◌≢◌, ◌==◌, ◌<◌, ◌≤◌, ◌++◌, List, [], ◌∷◌, length, map, Option, Some, None, Bool, true, slice_get, option_map, unwrap_or, ⊤}
use Rattle.std.specs.List.{AllByRecursion, list_any}
use Rattle.am_types.specs.declared.OpId.{OpId}
use Rattle.am_types.specs.Limits.{most_operations}
use Rattle.am_chain.specs.declared.node.Node.{Node}
use Rattle.am_chain.specs.declared.chain.Chain.TheInside.{Inside}
use Rattle.am_chain.specs.Sequences.{Sequence}

abbrev pub Element : Type 0
Element = ℕ × OpId

abbrev pub led : ℕ → List Node → Option ℕ → List Element
led zero nodes at = []
led (suc k) nodes None = []
led (suc k) nodes (Some n) = unwrap_or (option_map (λ node. (n, node.id) ∷ led k nodes node.next) (slice_get nodes n)) []

unfoldable pub spelled : List Node → Option ℕ → List Element
spelled nodes at = led (length nodes) nodes at

abbrev pub Leads : List Node → Option ℕ → List Element → Type 0
Leads nodes at [] = at ≡ None
Leads nodes at (e ∷ es) = (at ≡ Some e.0) × ((next : Option ℕ) × (slice_get nodes e.0 ≡ Some (record { id = e.1; next = next })) × Leads nodes next es)

abbrev pub ids_of : List Element → List OpId
ids_of es = map (λ e. e.1) es

-- no element has this id
abbrev pub IsFresh : OpId → List Element → Type 0
IsFresh i es = AllByRecursion (λ e. e.1 ≢ i) es

abbrev pub IdsDiffer : List Element → Type 0
IdsDiffer [] = ⊤
IdsDiffer (e ∷ es) = IsFresh e.1 es × IdsDiffer es

abbrev pub has_node : ℕ → List Element → Bool
has_node n es = list_any (λ e. e.0 == n) es

pub record IsChain (nodes : List Node) (first : Option ℕ) (es : List Element) : Type 0 where
  pub leads : Leads nodes first es
  pub count : length es ≡ length nodes
  pub differ : IdsDiffer es
  pub all : (n : ℕ) → n < length nodes → has_node n es ≡ true
  pub few : length nodes ≤ most_operations

abbrev pub IsLinked : List Node → Option ℕ → Type 0
IsLinked nodes first = IsChain nodes first (spelled nodes first)

abbrev pub IsLinkedInside : Inside → Type 0
IsLinkedInside c = IsLinked c.nodes.items c.first

abbrev pub node_ids : List Node → List OpId
node_ids nodes = map (λ n. n.id) nodes

abbrev pub sequence_of : Inside → Sequence
sequence_of c = record { nodes = node_ids c.nodes.items; walk = ids_of (spelled c.nodes.items c.first) }

-- the last of es is the node n, or there is none
abbrev pub IsLast : Option ℕ → List Element → Type 0
IsLast None es = es ≡ []
IsLast (Some n) es = (fs : List Element) × (i : OpId) × (es ≡ fs ++ (n, i) ∷ [])

pub record IsGap (nodes : List Node) (es : List Element) (before at : Option ℕ) (put : List OpId → List OpId) (target : List OpId) : Type 0 where
  pub passed : List Element
  pub rest : List Element
  pub whole : es ≡ passed ++ rest
  pub leads : Leads nodes at rest
  pub last : IsLast before passed
  pub there : target ≡ ids_of passed ++ put (ids_of rest)

-- The nodes have one more, for e at their end, and the ids of the chain are the target.
pub record IsInserted (nodes : List Node) (e : OpId) (target : List OpId) (more : List Node) (start : Option ℕ) : Type 0 where
  pub linked : IsLinked more start
  pub ids : node_ids more ≡ node_ids nodes ++ e ∷ []
  pub walk : ids_of (spelled more start) ≡ target
