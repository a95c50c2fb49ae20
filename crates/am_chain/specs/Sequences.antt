-- What a chain stands for.
--     sequence.nodes          the id of each node, by its number
--     sequence.walk           the same ids in the order of the list
--     key_of_node nodes after         the node `after` as the key of an insertion: its id, or the front
--     IsNodeBelow nodes e after       there is such a node, or none is named, and its id is less than e
--     IsStanding count after          the node is one of so many, or none is named
use Rattle.std.specs.Prelude.{⊤, ℕ, ◌≡◌, ◌<◌, List, Option, Some, None, slice_get, option_map, unwrap_or}
use Rattle.std.specs.declared.cmp.Ordering.TheVariants.{Less}
use Rattle.am_types.specs.declared.OpId.{OpId}
use Rattle.am_types.specs.declared.Key.{Key}
use Rattle.am_types.specs.declared.Key.TheVariants.{Head, Elem}
use Rattle.am_types.specs.Order.{id_cmp}

pub record Sequence : Type 0 where
  pub nodes : List OpId
  pub walk : List OpId

abbrev pub key_of_id : OpId → Key
key_of_id i = Elem i

abbrev pub key_of_node : List OpId → Option ℕ → Key
key_of_node nodes None = Head
key_of_node nodes (Some n) = unwrap_or (option_map key_of_id (slice_get nodes n)) Head

-- a node stands there, and its id is less than e
abbrev pub IsNodeBelow : List OpId → OpId → Option ℕ → Type 0
IsNodeBelow nodes e None = ⊤
IsNodeBelow nodes e (Some n) = (r : OpId) × (slice_get nodes n ≡ Some r) × (id_cmp r e ≡ Less)

abbrev pub IsStanding : ℕ → Option ℕ → Type 0
IsStanding count None = ⊤
IsStanding count (Some n) = n < count
