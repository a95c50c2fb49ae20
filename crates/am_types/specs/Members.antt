-- Sets of changes. A set is a list of members without repeats; a member is a change beside its hash.
-- (Automerge Binary Document Format, "change graph": a change names the changes before it by their hashes.)
--     hashes C, changes C     those of the members of C
--     holds C h               h is the hash of a member of C
--     member C h              the first member of C with the hash h
--     holds_deps C c          each dependency of c is the hash of a member of C
--     IsClosed C              each dependency of a member is the hash of a member
--     NoRepeats C             no member of C is listed twice
--     DistinctHashes C        no two members of C have one hash
--     DepsFirst [] C          each dependency of a member is the hash of one before it
--     heads C                 the hashes of the members on which no member depends, ascending
use Rattle.std.specs.Prelude.{Bool, not, ◌≢◌, List, [], ◌∷◌, ◌++◌, map, filter, find, Option, All, AllPairs, IsTrue, ⊤}
use Rattle.std.specs.List.{list_any, list_all}
use Rattle.am_types.specs.Records.{Hash, Change}
use Rattle.am_types.specs.Order.{hash_cmp, same, among, sorted_by}

-- a change beside its hash
pub record Member : Type 0 where
  pub hash : Hash
  pub change : Change

abbrev pub hashes : List Member → List Hash
hashes C = map (λ m. m.hash) C

abbrev pub changes : List Member → List Change
changes C = map (λ m. m.change) C

abbrev pub holds : List Member → Hash → Bool
holds C h = among hash_cmp (hashes C) h

abbrev pub member : List Member → Hash → Option Member
member C h = find (λ m. same hash_cmp h m.hash) C

abbrev pub holds_deps : List Member → Change → Bool
holds_deps C c = list_all (holds C) c.deps

abbrev pub IsClosed : List Member → Type 0
IsClosed C = All (λ m. IsTrue (holds_deps C m.change)) C

abbrev pub NoRepeats : List Member → Type 0
NoRepeats C = AllPairs (λ m n. m ≢ n) C

abbrev pub DistinctHashes : List Member → Type 0
DistinctHashes C = AllPairs (λ m n. m.hash ≢ n.hash) C

-- each dependency of one of the rest is the hash of one before it
abbrev pub DepsFirst : List Member → List Member → Type 0
DepsFirst before [] = ⊤
DepsFirst before (m ∷ rest) = IsTrue (holds_deps before m.change) × DepsFirst (before ++ m ∷ []) rest

abbrev pub is_dependency : List Member → Hash → Bool
is_dependency C h = list_any (λ m. among hash_cmp m.change.deps h) C

abbrev pub heads : List Member → List Hash
heads C = sorted_by hash_cmp (filter (λ h. not (is_dependency C h)) (hashes C))
