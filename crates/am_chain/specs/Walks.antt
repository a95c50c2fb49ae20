-- What is left of a walk.
use Rattle.std.specs.Prelude.{ℕ, Option, true, ◌≡◌, ◌++◌, ◌≤◌, List, length}
use Rattle.am_types.specs.declared.OpId.{OpId}
use Rattle.am_chain.specs.declared.walk.Walk.TheInside.{Inside}
use Rattle.am_chain.specs.Chains.{Element, spelled, ids_of, Leads, has_node}
use Rattle.am_chain.specs.declared.node.Node.{Node}

abbrev pub ids_left : Inside → List OpId
ids_left w = ids_of (spelled w.nodes.now w.at)

abbrev pub IsLeft : Inside → Type 0
IsLeft w = (es : List Element) × Leads w.nodes.now w.at es × (length es ≤ length w.nodes.now)

-- `at` is reached after so many elements, and the node is not among them
pub record IsReached (nodes : List Node) (es : List Element) (at : Option ℕ) (place node : ℕ) : Type 0 where
  pub passed : List Element
  pub rest : List Element
  pub whole : es ≡ passed ++ rest
  pub leads : Leads nodes at rest
  pub count : length passed ≡ place
  pub held : has_node node rest ≡ true
