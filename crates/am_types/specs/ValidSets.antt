-- Valid sets of changes. (A choice of amstore's profile.)
--     Joins before m         m joins those before it: it is new and fine, its dependencies are there, and it fits
--     JoinInTurn [] C        each member of C joins those before it
--     Valid C                the members of C can be listed so that each joins those before it
--     IsValidSet cs          there are hashes with which the changes cs are a valid set
--     IsGreatest D C         C, without repeats, has just the members that stand in some valid set within D
-- `Valid` and `Reachable` hold a listing, so a ghost field with one of them wants ∥ ∥₁ round it.
use Rattle.std.specs.Prelude.{◌≡◌, ◌↔◌, false, List, [], ◌∷◌, ◌++◌, All, Contains, IsTrue, IsPermutation, ⊤}
use Rattle.am_types.specs.Bytes.{IsHash}
use Rattle.am_types.specs.Records.{Change, Fits}
use Rattle.am_types.specs.Fine.{Fine}
use Rattle.am_types.specs.Members.{Member, changes, holds, holds_deps, NoRepeats}
use Rattle.am_types.specs.Verdicts.{verdict}

pub record Joins (before : List Member) (m : Member) : Type 0 where
  pub hash : IsHash m.hash
  pub fresh : holds before m.hash ≡ false
  pub deps : IsTrue (holds_deps before m.change)
  pub fine : Fine m.change
  pub fits : verdict before m.change ≡ Fits

abbrev pub JoinInTurn : List Member → List Member → Type 0
JoinInTurn before [] = ⊤
JoinInTurn before (m ∷ rest) = Joins before m × JoinInTurn (before ++ m ∷ []) rest

pub record Valid (C : List Member) : Type 0 where
  pub listing : List Member
  pub same : IsPermutation C listing
  pub in_turn : JoinInTurn [] listing

pub record IsValidSet (cs : List Change) : Type 0 where
  pub set : List Member
  pub are : changes set ≡ cs
  pub valid : Valid set

-- m stands in a valid set within D
pub record Reachable (D : List Member) (m : Member) : Type 0 where
  pub set : List Member
  pub valid : Valid set
  pub within : All (Contains D) set
  pub has : Contains set m

pub record IsGreatest (D C : List Member) : Type 0 where
  pub once : NoRepeats C
  pub members : (m : Member) → Contains C m ↔ Reachable D m
