-- The order in which what starts is sorted. Operations are given in ascending id, and what ties stays in order: so of those
-- that are no insertions the id is left out.
--     turn_cmp s t          by the ids of insertions, the greatest first
--     start_lane_cmp s t    within one object
--     by_start x y          by object, then by lane, name and turn
--     start_key o l n       a number for what stands in the lane l of the object o, at a name with the front n: for the root
--                           the lane and the first 62 bits of the name, and behind all these the counters of other objects
--     key_at x              that of an operation: the lesser key comes first, and where keys are the same, they tell no order
--     actor_in o            the actor of the object o; the root has none
--     Placed                an operation beside its place
--     by_placed p q         by_start of two of these
--     Stands A p            the operation of p stands at the place of p in A
use Rattle.std.specs.Prelude.{ℕ, ◌≡◌, ◌<◌, ◌+◌, ◌*◌, ◌/◌, ◌^◌, List, [], ◌∷◌, length, min}
use Rattle.std.specs.Ordering.{nat_cmp, on, then_cmp}
use Rattle.std.specs.declared.cmp.Ordering.{Ordering}
use Rattle.am_types.specs.declared.ObjId.{ObjId}
use Rattle.am_types.specs.declared.ObjId.TheVariants.{Root, Made}
use Rattle.am_types.specs.Order.{bytes_cmp, object_cmp}
use Rattle.am_types.specs.Operations.{Operation}
use Rattle.am_merge.specs.Aims.{one_at}
use Rattle.am_merge.specs.Fronts.{front_at}
use Rattle.am_merge.specs.Walk.{Spot, falling_cmp, falling_id, lane_of, name_in, spot_of}

abbrev pub turn_cmp : Spot → Spot → Ordering
turn_cmp = on (λ s. falling_id s.insert s.id) falling_cmp

abbrev pub start_lane_cmp : Spot → Spot → Ordering
start_lane_cmp = then_cmp (on (λ s. lane_of s.insert s.key) nat_cmp) (then_cmp (on (λ s. name_in s.key) bytes_cmp) turn_cmp)

abbrev pub by_start : Operation → Operation → Ordering
by_start = on spot_of (then_cmp (on (λ s. s.obj) object_cmp) start_lane_cmp)

-- counters from 2 ^ 61 on have one number
abbrev pub start_key : ObjId → ℕ → ℕ → ℕ
start_key Root l n = l * 2 ^ 62 + n / 2 ^ 66
start_key (Made i) l n = 3 * 2 ^ 62 + min i.counter (2 ^ 61)

abbrev pub key_at : Operation → ℕ
key_at x = start_key x.op.obj (lane_of x.op.insert x.op.key) (front_at x)

abbrev pub actor_in : ObjId → List ℕ
actor_in Root = []
actor_in (Made i) = i.actor

pub record Placed : Type 0 where
  pub operation : Operation
  pub place : ℕ

abbrev pub by_placed : Placed → Placed → Ordering
by_placed = on (λ p. p.operation) by_start

pub record Stands (A : List Operation) (p : Placed) : Type 0 where
  pub within : p.place < length A
  pub is : one_at A p.place ≡ p.operation ∷ []
