-- Laws of validity and delivery. Each is the contract of a function of the same name, which does nothing.
--     Leaves s C W        the closed set is C and the waiting set is W, in some order, and nothing is rejected
--     NoneClash D         one hash, one member; one actor and seq, one member; and D is within the limits
--     AreMembers D Ls     D has just the members of the deliveries Ls
use Rattle.std.specs.Prelude.{◌≡◌, ◌≤◌, ◌+◌, ◌↔◌, false, List, [], ◌∷◌, ◌++◌, length, flat_map, None, All, Contains, IsPermutation}
use Rattle.std.specs.Ordering.{on}
use Rattle.am_types.specs.declared.Hash.{Hash}
use Rattle.am_types.specs.Order.{hash_cmp, sorted_by}
use Rattle.am_types.specs.Members.{Member, changes, holds_deps, DepsFirst, DistinctHashes}
use Rattle.am_types.specs.Ancestors.{ancestors}
use Rattle.am_types.specs.Verdicts.{limit_passed}
use Rattle.am_types.specs.ValidSets.{Valid, Joins, JoinInTurn, IsGreatest}
use Rattle.am_types.specs.Deliver.{Sets, deliver, IsSettled, MayCome, AreStored, Alike, StandFor}

pub record Leaves (s : Sets) (C W : List Member) : Type 0 where
  pub closed : IsPermutation C s.closed
  pub waiting : IsPermutation W s.waiting
  pub rejected : s.rejected ≡ []

pub record NoneClash (D : List Member) : Type 0 where
  pub hashes : (m n : Member) → Contains D m → Contains D n → m.hash ≡ n.hash → m ≡ n
  pub seqs : (m n : Member) → Contains D m → Contains D n → m.change.actor ≡ n.change.actor → m.change.seq ≡ n.change.seq → m ≡ n
  pub limits : limit_passed (changes D) ≡ None

abbrev pub AreMembers : List Member → List (List Member) → Type 0
AreMembers D Ls = (m : Member) → Contains D m ↔ Contains (flat_map (λ L. L) Ls) m

-- ---- sets

-- in every listing of a valid set with dependencies first, each member joins those before it
abbrev pub FitsInEveryListing : Type 0
FitsInEveryListing = (S L : List Member) → Valid S → IsPermutation S L → DepsFirst [] L → JoinInTurn [] L

-- a valid set that is delivered in any order is the closed set
abbrev pub ComesBack : Type 0
ComesBack = (S L : List Member) → Valid S → IsPermutation S L → Leaves (deliver [] [] L) S []

-- a valid set with a member that joins it is valid
abbrev pub JoinedIsValid : Type 0
JoinedIsValid = (C : List Member) (m : Member) → Valid C → Joins C m → Valid (C ++ m ∷ [])

-- the ancestors of any hashes in a valid set are a valid set
abbrev pub PartIsValid : Type 0
PartIsValid = (S : List Member) (hs : List Hash) → Valid S → Valid (ancestors S hs)

-- the rest of a valid set, delivered to such a part in any order, completes it
abbrev pub RestCompletes : Type 0
RestCompletes = (S : List Member) (hs : List Hash) (rest : List Member) → Valid S → IsPermutation S (ancestors S hs ++ rest)
    → Leaves (deliver (ancestors S hs) [] rest) S []

-- the members of both sets, delivered in any order to empty ones, give both sets back
abbrev pub BothComeBack : Type 0
BothComeBack = (C W L : List Member) → Valid C → IsSettled (record { closed = C; waiting = W; rejected = [] })
    → DistinctHashes (C ++ W) → IsPermutation (C ++ W) L → Leaves (deliver [] [] L) C W

-- ---- deliveries

-- where no members of some deliveries clash, the sets that stand for these depend on their members alone
abbrev pub OrderIsFree : Type 0
OrderIsFree = (Ls : List (List Member)) (D C W : List Member) → StandFor C W Ls → AreMembers D Ls → NoneClash D
    → IsGreatest D C × ((m : Member) → Contains W m ↔ (Contains D m × (holds_deps C m.change ≡ false)))

-- deliveries of members that may come leave sets that can be stored
abbrev pub StaysStored : Type 0
StaysStored = (C W L : List Member) → AreStored C W → All MayCome L → AreStored (deliver C W L).closed (deliver C W L).waiting

-- each member that a delivery leaves in the two sets was in one of them, or came
abbrev pub KeepsWhatCame : Type 0
KeepsWhatCame = (C W L : List Member) (m : Member) → Contains ((deliver C W L).closed ++ (deliver C W L).waiting) m → Contains ((C ++ W) ++ L) m

-- no more members are closed than were in the two sets and came
abbrev pub JoinsNoMore : Type 0
JoinsNoMore = (C W L : List Member) → length (deliver C W L).closed ≤ length C + (length W + length L)

-- how the two sets are listed doesn't matter to a delivery
abbrev pub ListingIsFree : Type 0
ListingIsFree = (C D V W L : List Member) → AreStored C V → IsPermutation C D → IsPermutation V W → All MayCome L
    → Alike (deliver C V L) (deliver D W L)

-- what is held is skipped
abbrev pub HeldIsSkipped : Type 0
HeldIsSkipped = (C W L : List Member) → AreStored C W → All (Contains (C ++ W)) L
    → deliver C W L ≡ record { closed = C; waiting = W; rejected = [] }

-- sorted by hash, the waiting members are one list, however they are listed
abbrev pub WaitingSortsAlike : Type 0
WaitingSortsAlike = (C V W : List Member) → AreStored C V → IsPermutation V W → sorted_by (on (λ m. m.hash) hash_cmp) W ≡ sorted_by (on (λ m. m.hash) hash_cmp) V
