-- Laws over the definitions. Each is the contract of a function of the same name, which does nothing. C is a set, and
-- C ++ E the larger one: C, and behind it the members E that are added. Each law says which of the two have to be valid.
--     operations_of C     the operations of the members of C
use Rattle.std.specs.Prelude.{ℕ, ◌+◌, ◌≤◌, length, ◌≡◌, ◌≢◌, true, false, List, [], ◌∷◌, ◌++◌, map, filter, Contains}
use Rattle.std.specs.List.{dedup}
use Rattle.am_types.specs.declared.OpId.{OpId}
use Rattle.am_types.specs.declared.ObjId.{ObjId}
use Rattle.am_types.specs.declared.Key.{Key}
use Rattle.am_types.specs.declared.Key.TheVariants.{Head, Elem}
use Rattle.am_types.specs.Order.{bytes_cmp, sorted_by}
use Rattle.am_types.specs.Same.{same_bytes}
use Rattle.am_types.specs.Operations.{Operation, all_operations, ascending}
use Rattle.am_types.specs.Members.{Member, changes, hashes, holds, heads}
use Rattle.am_types.specs.ValidSets.{Valid, JoinInTurn}
use Rattle.am_types.specs.Clocks.{covers}
use Rattle.am_types.specs.Elements.{elements, insertions}
use Rattle.am_types.specs.Rows.{rows}
use Rattle.am_types.specs.Canonical.{depth, order}
use Rattle.am_types.specs.Documents.{index, metas, used_actors, table}
use Rattle.am_laws.specs.Tables.{authors}
use Rattle.am_merge.specs.Turns.{Old, New, children, others, pushed, grown, going, comes_first, id_of_turn}
use Rattle.am_merge.specs.Merge.{merge, rows_within, merged}
use Rattle.am_merge.specs.Plans.{Slot, AreSlots, plan, carried}
use Rattle.am_merge.specs.Slots.{chain, rows_after}
use Rattle.am_merge.specs.Walk.{beginning, walked, Walks}
use Rattle.am_merge.specs.Tables.{moved, order_after, heads_after, table_after}
use Rattle.am_merge.specs.ChangeRows.{turns, change_rows}

abbrev pub operations_of : List Member → List Operation
operations_of C = all_operations (changes C)

-- where C joins in turn from nothing, and E in turn behind it, both sets are valid, as each law below wants it
abbrev pub JoinedIsValid : Type 0
JoinedIsValid = (C E : List Member) → JoinInTurn [] C → JoinInTurn C E → Valid C × Valid (C ++ E)

-- ---- the smaller set in the larger

-- the rows of the larger set without the added rows and the added successors are those of the smaller: an id is one of
-- the smaller set where its clock covers it
abbrev pub RowsOfSmaller : Type 0
RowsOfSmaller = (C E : List Member) → Valid C → Valid (C ++ E) → rows_within (covers C) (rows (operations_of (C ++ E))) ≡ rows (operations_of C)

-- the rows of the larger set are those of the smaller, with added successors, merged with the new rows by their places
abbrev pub RowsOfLarger : Type 0
RowsOfLarger = (C E : List Member) → Valid C → Valid (C ++ E)
    → rows (operations_of (C ++ E)) ≡ merged (elements (operations_of (C ++ E))) (rows (operations_of C)) (operations_of E)

-- the canonical order of the larger set, beside that of the smaller
pub record ChangeOrder (C E : List Member) : Type 0 where
  -- a member keeps its depth
  pub depths : (m : Member) → Contains C m → depth (C ++ E) m.change ≡ depth C m.change
  pub smaller : filter (λ m. holds C m.hash) (order (C ++ E)) ≡ order C
  pub larger : order (C ++ E) ≡ order_after C E
  -- the dependencies in the change row of an old member are the same, moved
  pub dependencies : (m : Member) → Contains C m
      → map (index (order (C ++ E))) m.change.deps ≡ map (moved (order C) (order (C ++ E))) (map (index (order C)) m.change.deps)

abbrev pub ChangesInOrder : Type 0
ChangesInOrder = (C E : List Member) → Valid C → Valid (C ++ E) → ChangeOrder C E

-- the change rows of the larger set: in its order the rows of the added changes, and between them those of the smaller
-- set, as they were, each dependency moved to the place that its row has now
abbrev pub MetasOfLarger : Type 0
MetasOfLarger = (C E : List Member) → Valid C → Valid (C ++ E)
    → metas (order (C ++ E)) ≡ change_rows (hashes (order (C ++ E))) (turns C (order (C ++ E))) (metas (order C))

-- the heads that no added member depends on, and the heads of the added members
abbrev pub HeadsOfLarger : Type 0
HeadsOfLarger = (C E : List Member) → Valid C → Valid (C ++ E) → heads (C ++ E) ≡ heads_after C E

abbrev pub ActorsOfLarger : Type 0
ActorsOfLarger = (C E : List Member) → used_actors (C ++ E) ≡ dedup same_bytes (merge bytes_cmp (used_actors C) (used_actors E))

-- the same, of the actors of the smaller set and the authors of the added members
abbrev pub AuthorsOfLarger : Type 0
AuthorsOfLarger = (C E : List Member) → Valid C → Valid (C ++ E)
    → used_actors (C ++ E) ≡ dedup same_bytes (sorted_by bytes_cmp (used_actors C ++ authors E))

-- ---- lists

-- how the walk goes on, turn by turn
pub record TurnByTurn : Type 0 where
  pub begins : (fs : List OpId) (xs : List Operation) → grown fs xs ≡ going fs (pushed (children Head xs) []) (others Head xs)
  pub new : (fs : List OpId) (y : Operation) (waiting xs : List Operation) → comes_first (y ∷ waiting) fs ≡ true
      → going fs (y ∷ waiting) xs ≡ New y ∷ going fs (pushed (children (Elem y.id) xs) waiting) (others (Elem y.id) xs)
  pub old : (f : OpId) (fs : List OpId) (waiting xs : List Operation) → comes_first waiting (f ∷ fs) ≡ false
      → going (f ∷ fs) waiting xs ≡ Old f ∷ going fs (pushed (children (Elem f) xs) waiting) (others (Elem f) xs)
  pub ends : going [] [] [] ≡ []
  -- the children of an element are the same until it comes
  pub children : (j k : Key) → j ≢ k → (xs : List Operation) → children k (others j xs) ≡ children k xs

abbrev pub WalkGoesOn : Type 0
WalkGoesOn = TurnByTurn

-- the walk over the elements of a set, with the insertions that are added, gives the elements of the larger set
abbrev pub WalksElements : Type 0
WalksElements = (C E : List Member) → Valid C → Valid (C ++ E) → (o : ObjId)
    → map id_of_turn (grown (elements (operations_of C) o) (insertions (operations_of E) o)) ≡ elements (operations_of (C ++ E)) o

-- the order of elements is the walk of the tree of references, each element before its children, and of these the
-- greatest first
abbrev pub ElementsWalkTree : Type 0
ElementsWalkTree = (C : List Member) → Valid C → (o : ObjId) → map id_of_turn (grown [] (insertions (operations_of C) o)) ≡ elements (operations_of C) o

-- the elements of an object stand in its insert rows, in order
abbrev pub ElementsByRows : Type 0
ElementsByRows = (C : List Member) → Valid C → (o : ObjId) → chain o (rows (operations_of C)) ≡ elements (operations_of C) o

-- ---- one walk over all rows

-- over the slots of the larger set in order, the plan makes the rows of the larger set of those of the smaller
abbrev pub PlansRows : Type 0
PlansRows = (C E : List Member) → Valid C → Valid (C ++ E) → (ss : List Slot) → AreSlots (operations_of (C ++ E)) ss
    → carried (plan (operations_of E) ss (rows (operations_of C))) (rows (operations_of C)) ≡ rows (operations_of (C ++ E))

-- the rows of the larger set, from the rows of the smaller and the added operations alone
abbrev pub MergesRows : Type 0
MergesRows = (C E : List Member) → Valid C → Valid (C ++ E) → rows_after (operations_of E) (rows (operations_of C)) ≡ rows (operations_of (C ++ E))

-- the walk over the rows of the smaller set, and what its function gives where enough operations may come
pub record RowsWalked (C E : List Member) : Type 0 where
  pub walk : Walks (ascending (operations_of E)) (rows (operations_of C)) (beginning (ascending (operations_of E))) (rows (operations_of (C ++ E)))
  pub told : (n : ℕ) → length (rows (operations_of (C ++ E))) ≤ length (rows (operations_of C)) + n
      → carried (walked (ascending (operations_of E)) (rows (operations_of C)) n (beginning (ascending (operations_of E)))) (rows (operations_of C)) ≡ rows (operations_of (C ++ E))

-- one walk over the rows of the smaller set, with a stack of new operations, gives the rows of the larger
abbrev pub WalksRows : Type 0
WalksRows = (C E : List Member) → Valid C → Valid (C ++ E) → RowsWalked C E

-- ---- the whole table

-- the table of the larger set, part by part
abbrev pub MergesTables : Type 0
MergesTables = (C E : List Member) → Valid C → Valid (C ++ E) → table (C ++ E) ≡ table_after C E
