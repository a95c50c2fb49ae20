-- One walk over the rows of a set, row by row, which gives the rows of a larger set. New operations wait on a stack, the
-- next one first. Here A are the added operations, in ascending id.
--     Spot                  what the walk compares: an object, whether it is an insertion, a key and an id
--     spot_of_row, spot_of  of a row, and of an operation
--     spot_cmp s t          by object; within it what stands at names first, by name and id; then the values of the element
--                           that has come, by id; then insertions, the one with the greatest id first
--     is_next y r           the new operation y comes before the old row r
--    is_first ws r         the first of those that wait does
--     hangs_on o e x        x names the element e of o
--     hanging A             the operations that name elements, as they are put on the stack: insertions, then values, the
--                           last first
--     hung A o e            those that wait once the element e of o has come
--     behind A s waiting    the stack once what stands at the spot s has come
--     beginning A           the stack at first: what stands at names and at the fronts of lists
--     walked A rs n ws      the events for the old rows rs, where ws wait and at most n operations come
--     Walks A rs ws out     out are the rows that come of the old rows rs where ws wait
use Rattle.std.specs.Prelude.{ℕ, zero, suc, Bool, true, false, ◌≡◌, ◌==◌, ◌&&◌, not, List, [], ◌∷◌, ◌++◌, reverse, filter, if◌then◌else◌}
use Rattle.std.specs.Ordering.{is_gt, nat_cmp, on, then_cmp}
use Rattle.std.specs.declared.cmp.Ordering.{Ordering}
use Rattle.am_types.specs.declared.OpId.{OpId}
use Rattle.am_types.specs.declared.ObjId.{ObjId}
use Rattle.am_types.specs.declared.Key.{Key}
use Rattle.am_types.specs.declared.Key.TheVariants.{Name, Head, Elem}
use Rattle.am_types.specs.declared.Row.{Row}
use Rattle.am_types.specs.Actions as actions
use Rattle.am_types.specs.Order.{bytes_cmp, id_cmp, object_cmp, sorted_by}
use Rattle.am_types.specs.Same.{same_object, same_key}
use Rattle.am_types.specs.Operations.{Operation}
use Rattle.am_types.specs.Rows.{succs, row_of}
use Rattle.am_merge.specs.Merge.{extended}
use Rattle.am_merge.specs.Turns.{pushed}
use Rattle.am_merge.specs.Plans.{Event, Take, Put}

-- ---- the order of the walk

pub record Spot : Type 0 where
  pub obj : ObjId
  pub insert : Bool
  pub key : Key
  pub id : OpId

abbrev pub spot_of_row : Row → Spot
spot_of_row r = record { obj = r.obj; insert = r.insert; key = r.key; id = r.id }

abbrev pub spot_of : Operation → Spot
spot_of x = record { obj = x.op.obj; insert = x.op.insert; key = x.op.key; id = x.id }

-- names first, insertions last
abbrev pub lane_of : Bool → Key → ℕ
lane_of true k = 2
lane_of false (Name n) = 0
lane_of false Head = 1
lane_of false (Elem e) = 1

abbrev pub name_in : Key → List ℕ
name_in (Name n) = n
name_in Head = []
name_in (Elem e) = []

abbrev pub no_id : OpId
no_id = record { counter = 0; actor = [] }

-- the id by which it rises: that of an insertion doesn't count here, and alone counts there
abbrev pub rising_id : Bool → OpId → OpId
rising_id true i = no_id
rising_id false i = i

abbrev pub falling_id : Bool → OpId → OpId
falling_id true i = i
falling_id false i = no_id

abbrev pub falling_cmp : OpId → OpId → Ordering
falling_cmp i j = id_cmp j i

abbrev pub id_turn_cmp : Spot → Spot → Ordering
id_turn_cmp = then_cmp (on (λ s. rising_id s.insert s.id) id_cmp) (on (λ s. falling_id s.insert s.id) falling_cmp)

abbrev pub lane_cmp : Spot → Spot → Ordering
lane_cmp = then_cmp (on (λ s. lane_of s.insert s.key) nat_cmp) (then_cmp (on (λ s. name_in s.key) bytes_cmp) id_turn_cmp)

abbrev pub spot_cmp : Spot → Spot → Ordering
spot_cmp = then_cmp (on (λ s. s.obj) object_cmp) lane_cmp

abbrev pub is_next : Operation → Row → Bool
is_next y r = is_gt (spot_cmp (spot_of_row r) (spot_of y))

abbrev pub is_first : List Operation → Row → Bool
is_first [] r = false
is_first (y ∷ ws) r = is_next y r

-- ---- what waits

abbrev pub inserts : Operation → Bool
inserts x = x.op.insert

-- it has a row, and is no insertion
abbrev pub gives_value : Operation → Bool
gives_value x = not x.op.insert && not (x.op.action == actions.del)

abbrev pub hanging : List Operation → List Operation
hanging A = filter inserts A ++ filter gives_value (reverse A)

abbrev pub hangs_on : ObjId → OpId → Operation → Bool
hangs_on o e x = same_object x.op.obj o && same_key x.op.key (Elem e)

abbrev pub hung : List Operation → ObjId → OpId → List Operation
hung A o e = filter (hangs_on o e) (hanging A)

-- only an insertion makes an element
abbrev pub behind_of : List Operation → Bool → ObjId → OpId → List Operation → List Operation
behind_of A true o e waiting = pushed (hung A o e) waiting
behind_of A false o e waiting = waiting

abbrev pub behind : List Operation → Spot → List Operation → List Operation
behind A s waiting = behind_of A s.insert s.obj s.id waiting

abbrev pub is_elem : Key → Bool
is_elem (Name n) = false
is_elem Head = false
is_elem (Elem e) = true

abbrev pub starts : Operation → Bool
starts x = not (is_elem x.op.key) && not (x.op.action == actions.del)

abbrev pub by_spot : Operation → Operation → Ordering
by_spot = on spot_of spot_cmp

abbrev pub beginning : List Operation → List Operation
beginning A = sorted_by by_spot (filter starts A)

-- ---- the walk

abbrev pub new_row : List Operation → Operation → Row
new_row A x = row_of (succs A x.id) x

-- what comes before the old row r, the row itself, and what rest has for the rows behind it
abbrev pub walk_into : List Operation → Row → (ℕ → List Operation → List Event) → ℕ → List Operation → List Event
walk_into A r rest zero waiting = Take (succs A r.id) ∷ rest zero (behind A (spot_of_row r) waiting)
walk_into A r rest (suc n) [] = Take (succs A r.id) ∷ rest (suc n) (behind A (spot_of_row r) [])
walk_into A r rest (suc n) (y ∷ waiting) =
    if is_next y r then Put (new_row A y) ∷ walk_into A r rest n (behind A (spot_of y) waiting)
    else Take (succs A r.id) ∷ rest (suc n) (behind A (spot_of_row r) (y ∷ waiting))

-- what comes behind the last old row
abbrev pub walk_out : List Operation → ℕ → List Operation → List Event
walk_out A zero waiting = []
walk_out A (suc n) [] = []
walk_out A (suc n) (y ∷ waiting) = Put (new_row A y) ∷ walk_out A n (behind A (spot_of y) waiting)

abbrev pub walked : List Operation → List Row → ℕ → List Operation → List Event
walked A [] = walk_out A
walked A (r ∷ rs) = walk_into A r (walked A rs)

-- the same as a relation, which counts nothing
pub data Walks (A : List Operation) : List Row → List Operation → List Row → Type 0 where
  ends : Walks A [] [] []
  comes_last : (y : Operation) (ws : List Operation) (out : List Row) → Walks A [] (behind A (spot_of y) ws) out → Walks A [] (y ∷ ws) (new_row A y ∷ out)
  comes : (r : Row) (rs : List Row) (y : Operation) (ws : List Operation) (out : List Row) → is_next y r ≡ true
      → Walks A (r ∷ rs) (behind A (spot_of y) ws) out → Walks A (r ∷ rs) (y ∷ ws) (new_row A y ∷ out)
  passes : (r : Row) (rs : List Row) (ws : List Operation) (out : List Row) → is_first ws r ≡ false
      → Walks A rs (behind A (spot_of_row r) ws) out → Walks A (r ∷ rs) ws (extended A r ∷ out)
