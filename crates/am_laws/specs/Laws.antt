-- Laws over the definitions. Each is the contract of a function of the same name, which does nothing.
use Rattle.std.specs.Prelude.{ℕ, ℤ, ◌+◌, ◌<◌, ◌^◌, ◌≡◌, ◌≢◌, ◌↔◌, true, false, not, List, [], ◌++◌, filter, map, take, slice_get, Some, None, All, Contains, IsTrue, IsSorted, IsPermutation, FitsSigned, Bool, ⊤}
use Rattle.std.specs.Option.{option_map_or}
use Rattle.std.specs.Int.{w64}
use Rattle.std.specs.Cmp.{IsTotalOrder}
use Rattle.std.specs.declared.cmp.Ordering.{Ordering}
use Rattle.std.specs.declared.cmp.Ordering.TheVariants.{Less, Equal, Greater}
use Rattle.am_leb.specs.Leb.{IsUleb, IsLeb}
use Rattle.am_types.specs.Bytes.{IsBytes}
use Rattle.am_laws.specs.Records.{OpId, Hash, ObjId, Key, Name, Head, Elem, Change, Limit, Fits, SeqClash, SeqGap, StartLow, BadReference, Full}
use Rattle.am_types.specs.Order.{id_cmp, hash_cmp, sorted_by}
use Rattle.am_types.specs.Numbers.{unsigned_of, signed_of}
use Rattle.am_types.specs.Same.{same_change}
use Rattle.am_types.specs.Operations.{Operation, all_operations, ascending, slot, DistinctIds, OneOperationPerId}
use Rattle.am_types.specs.Members.{Member, changes, holds, holds_deps, heads, IsClosed, DistinctHashes}
use Rattle.am_types.specs.Ancestors.{ancestors, IsLeastPart}
use Rattle.am_types.specs.References.{has_good_references, first_bad}
use Rattle.am_types.specs.Verdicts.{verdict, seq_clash, seq_gap, start_low, bad_reference, full, limit_passed, NoReasonApplies}
use Rattle.am_types.specs.ValidSets.{Valid, JoinInTurn}
use Rattle.am_types.specs.Deliver.{Sets, settle, IsSettled, TakesOne, MayCome, Waits}
use Rattle.am_types.specs.Elements.{elements, inserts_into, insertions, part, RespectsReferences}
use Rattle.am_types.specs.Places.{slot_cmp}
use Rattle.am_types.specs.Replay.{replay}
use Rattle.am_types.specs.Rows.{rows}
use Rattle.am_types.specs.Clocks.{covers}
use Rattle.am_types.specs.Canonical.{largest, dependencies, depth, order}
use Rattle.am_types.specs.Documents.{table}

-- ---- orders

-- a total order that ties only equal values
pub record IsStrict {X : Type 0} (cmp : X → X → Ordering) : Type 0 where
  pub total : IsTotalOrder cmp
  pub ties : (a b : X) → cmp a b ≡ Equal → a ≡ b

-- ids are totally ordered, and so are hashes
pub record OrdersAreStrict : Type 0 where
  pub ids : IsStrict id_cmp
  pub hashes : IsStrict hash_cmp

-- sorting by cmp gives the same elements, in order, and doesn't depend on how they were listed
pub record SortsOnce {X : Type 0} (cmp : X → X → Ordering) : Type 0 where
  pub same : (xs : List X) → IsPermutation xs (sorted_by cmp xs)
  pub in_order : (xs : List X) → IsSorted cmp (sorted_by cmp xs)
  pub once : (xs ys : List X) → IsPermutation xs ys → sorted_by cmp ys ≡ sorted_by cmp xs

-- sorting ids and hashes does so; sorting operations of which those with one id are one doesn't depend on their listing
abbrev pub SortingIsFree : Type 0
SortingIsFree =
    SortsOnce id_cmp × SortsOnce hash_cmp
    × ((A B : List Operation) → OneOperationPerId A → IsPermutation A B → ascending B ≡ ascending A)

-- ---- values and changes

-- the bytes spell the number, and no shorter list does
pub record NumbersAreShortest : Type 0 where
  pub unsigned : (bytes : List ℕ) (n : ℕ) → IsBytes bytes → (unsigned_of bytes ≡ Some n) ↔ ((n < 2 ^ 64) × IsUleb bytes n)
  pub signed : (bytes : List ℕ) (n : ℤ) → IsBytes bytes → (signed_of bytes ≡ Some n) ↔ (FitsSigned w64 n × IsLeb bytes n)

-- comparing two changes part by part is equality
abbrev pub SameIsEqual : Type 0
SameIsEqual = (a b : Change) → IsTrue (same_change a b) ↔ (a ≡ b)

-- ---- sets

-- the ancestors are the least part with the named members and the dependencies of its own
abbrev pub AncestorsAreLeast : Type 0
AncestorsAreLeast = (C : List Member) (hs : List Hash) → IsLeastPart C hs (ancestors C hs)

-- the ancestors stand in the order in which the set lists them
abbrev pub AncestorsKeepOrder : Type 0
AncestorsKeepOrder = (C : List Member) (hs : List Hash) → ancestors C hs ≡ filter (λ m. holds (ancestors C hs) m.hash) C

-- a change fits exactly where no reason against it applies
abbrev pub FitsExactly : Type 0
FitsExactly = (C : List Member) (c : Change) → (verdict C c ≡ Fits) ↔ NoReasonApplies C c

-- where A are the ancestors of c: each reason is answered, with what it tells, exactly where it applies and none before
-- it does
pub record AnswersFirst (C A : List Member) (c : Change) : Type 0 where
  pub clash : (h : Hash) → (verdict C c ≡ SeqClash h) ↔ (seq_clash C c ≡ Some (SeqClash h))
  pub gap : (verdict C c ≡ SeqGap) ↔ ((seq_clash C c ≡ None) × (seq_gap A c ≡ Some SeqGap))
  pub low : (h : Hash)
      → (verdict C c ≡ StartLow h)
      ↔ ((seq_clash C c ≡ None) × (seq_gap A c ≡ None) × (start_low A c ≡ Some (StartLow h)))
  pub references : (i : ℕ)
      → (verdict C c ≡ BadReference i)
      ↔ ((seq_clash C c ≡ None) × (seq_gap A c ≡ None) × (start_low A c ≡ None) × (bad_reference A c ≡ Some (BadReference i)))
  pub limits : (limit : Limit)
      → (verdict C c ≡ Full limit)
      ↔ ((seq_clash C c ≡ None) × (seq_gap A c ≡ None) × (start_low A c ≡ None) × (bad_reference A c ≡ None) × (full C c ≡ Some (Full limit)))
  pub fits : (verdict C c ≡ Fits) ↔ NoReasonApplies C c

-- a verdict is the first reason that applies, or Fits where none does
abbrev pub VerdictsAreFirst : Type 0
VerdictsAreFirst = (C : List Member) (c : Change) → AnswersFirst C (ancestors C c.deps) c

-- at the place i of xs stands an operation whose references are bad, where those before it in xs are known too
abbrev pub bad_at : List Operation → List Operation → ℕ → Bool
bad_at known xs i = option_map_or (λ x. not (has_good_references (known ++ take i xs) x)) (slice_get xs i) false

-- the operation at the place i is bad, and none before it is
pub record IsLeastBad (known xs : List Operation) (i : ℕ) : Type 0 where
  pub bad : IsTrue (bad_at known xs i)
  pub before : (j : ℕ) → j < i → bad_at known xs j ≡ false

-- the first bad operation is told by the least place at which one is bad, and None exactly where none is
pub record FindsFirstBad (known xs : List Operation) : Type 0 where
  pub some : (i : ℕ) → (first_bad known xs ≡ Some i) ↔ IsLeastBad known xs i
  pub none : (first_bad known xs ≡ None) ↔ ((i : ℕ) → bad_at known xs i ≡ false)

abbrev pub FirstBadIsLeast : Type 0
FirstBadIsLeast = (known xs : List Operation) → FindsFirstBad known xs

-- what the members of a valid set are together
pub record KeepsRules (C : List Member) : Type 0 where
  pub closed : IsClosed C
  pub hashes : DistinctHashes C
  pub members : All MayCome C
  pub limits : limit_passed (changes C) ≡ None

-- a valid set is closed, its hashes are distinct, its members may come, and it is within the limits
abbrev pub ValidSetsKeepRules : Type 0
ValidSetsKeepRules = (C : List Member) → Valid C → KeepsRules C

-- in a valid set no two operations have one id
abbrev pub IdsAreDistinct : Type 0
IdsAreDistinct = (C : List Member) → Valid C → DistinctIds (all_operations (changes C))

-- r is the id of an insertion among A into the object of x, and is less than the id of x
pub record IsReference (A : List Operation) (x : Operation) (r : OpId) : Type 0 where
  pub insertion : Operation
  pub is_among : Contains A insertion
  pub has_id : insertion.id ≡ r
  pub inserts : IsTrue (inserts_into x.op.obj insertion)
  pub lower : id_cmp r x.id ≡ Less

-- what an insertion x with such a key names as its reference is there: the front, or such an element
abbrev pub ReferenceIsThere : List Operation → Operation → Key → Type 0
ReferenceIsThere A x Head = ⊤
ReferenceIsThere A x (Elem r) = IsReference A x r
ReferenceIsThere A x (Name n) = ⊥

-- An element that x names is that of an earlier insertion into its object. An insertion names the front or such an element,
-- and never a name.
pub record NamesWhatIsThere (A : List Operation) (x : Operation) : Type 0 where
  pub element : (r : OpId) → x.op.key ≡ Elem r → IsReference A x r
  pub insertion : IsTrue x.op.insert → ReferenceIsThere A x x.op.key

-- in a valid set the elements that operations name are there
abbrev pub ReferencesAreThere : Type 0
ReferencesAreThere = (C : List Member) → Valid C → (x : Operation) → Contains (all_operations (changes C)) x
    → NamesWhatIsThere (all_operations (changes C)) x

-- the elements of o are the ids of the insertions into it, and each stands behind what its insertion names
pub record FollowReferences (A : List Operation) (o : ObjId) : Type 0 where
  pub ids : IsPermutation (map (λ x. x.id) (insertions A o)) (elements A o)
  pub behind : (x : Operation) → Contains A x → IsTrue (inserts_into o x) → slot_cmp (elements A o) x.op.key (slot x) ≡ Less

-- in a valid set each insertion gives one element, behind its reference
abbrev pub ElementsFollowReferences : Type 0
ElementsFollowReferences = (C : List Member) → Valid C → (o : ObjId) → FollowReferences (all_operations (changes C)) o

-- ---- settling

-- first is a waiting member whose dependencies are held, and none of these has a lesser hash
pub record IsLeastReady (s : Sets) (first : Member) : Type 0 where
  pub waits : Contains s.waiting first
  pub deps : IsTrue (holds_deps s.closed first.change)
  pub least : (m : Member) → Contains s.waiting m → IsTrue (holds_deps s.closed m.change) → hash_cmp first.hash m.hash ≢ Greater

-- settling admits the ready change of least hash and goes on, leaves settled sets as they are, and leaves nothing ready
pub record SettlesInTurn : Type 0 where
  pub takes_least : (s t : Sets) (taken : TakesOne s t) → IsLeastReady s taken.first
  pub goes_on : (s t : Sets) → TakesOne s t → settle s ≡ settle t
  pub stays : (s : Sets) → IsSettled s → settle s ≡ s
  pub ends : (s : Sets) → IsSettled (settle s)

-- settling keeps that each closed change joins those before it
abbrev pub SettlingKeepsOrder : Type 0
SettlingKeepsOrder = (s : Sets) → JoinInTurn [] s.closed → All (Waits s.closed) s.waiting
    → JoinInTurn [] (settle s).closed

-- ---- what is read off a set

-- two sets have the same ancestors of some hashes, and so the same is visible at these
pub record SeesAlike (C D : List Member) (hs : List Hash) : Type 0 where
  pub members : IsPermutation (ancestors C hs) (ancestors D hs)
  pub visible : replay (all_operations (changes (ancestors D hs))) ≡ replay (all_operations (changes (ancestors C hs)))

-- two listings give the same
pub record ReadsAlike (C D : List Member) : Type 0 where
  pub elements : (o : ObjId) → elements (all_operations (changes D)) o ≡ elements (all_operations (changes C)) o
  pub replay : replay (all_operations (changes D)) ≡ replay (all_operations (changes C))
  pub rows : rows (all_operations (changes D)) ≡ rows (all_operations (changes C))
  pub heads : heads D ≡ heads C
  pub order : order D ≡ order C
  pub table : table D ≡ table C
  pub at : (hs : List Hash) → SeesAlike C D hs

-- what is read off a valid set doesn't depend on how it is listed
abbrev pub ListingIsFree : Type 0
ListingIsFree = (C D : List Member) → Valid C → IsPermutation C D → ReadsAlike C D

-- the depth of a member is 0 where it has no dependency, else one more than the greatest depth of a dependency
abbrev pub DepthCounts : Type 0
DepthCounts = (C : List Member) → Valid C → (m : Member) → Contains C m
    → depth C m.change ≡ largest (map (λ d. depth C d.change + 1) (dependencies C m.change))

-- the elements of a part that respects references are those of the whole without the others
abbrev pub ElementsOfPart : Type 0
ElementsOfPart = (q : OpId → Bool) (A : List Operation) → RespectsReferences q A → (o : ObjId) → elements (part q A) o ≡ filter q (elements A o)

-- the operations of some ancestors in a valid set are those that their clock covers, and their elements are those of the
-- whole without the others
pub record ReadsOfAncestors (C : List Member) (hs : List Hash) : Type 0 where
  pub operations : all_operations (changes (ancestors C hs)) ≡ part (covers (ancestors C hs)) (all_operations (changes C))
  pub respects : RespectsReferences (covers (ancestors C hs)) (all_operations (changes C))
  pub elements : (o : ObjId) → elements (all_operations (changes (ancestors C hs))) o ≡ filter (covers (ancestors C hs)) (elements (all_operations (changes C)) o)

abbrev pub AncestorsAreRead : Type 0
AncestorsAreRead = (C : List Member) → Valid C → (hs : List Hash) → ReadsOfAncestors C hs

-- what is visible at members of a valid set is the same in every valid set that has all its members
abbrev pub ViewsStay : Type 0
ViewsStay = (C D : List Member) (hs : List Hash) → Valid C → Valid D → All (Contains D) C → All (λ h. IsTrue (holds C h)) hs → SeesAlike C D hs

-- each member of a valid set is an ancestor of its heads, and the heads are held
abbrev pub HeadsReachAll : Type 0
HeadsReachAll = (C : List Member) → Valid C → (ancestors C (heads C) ≡ C) × All (λ h. holds C h ≡ true) (heads C)

-- the ancestors of members of a valid set are listed alike when other members are listed behind them
abbrev pub AncestorsStay : Type 0
AncestorsStay = (C E : List Member) (hs : List Hash) → Valid C → All (λ h. IsTrue (holds C h)) hs → All (λ m. holds C m.hash ≡ false) E
    → ancestors (C ++ E) hs ≡ ancestors C hs
