-- The places of hashes in a list.
--     place_in hs h         the place of the hash h in the list hs, from 0; the length of the list where it isn't there
--     first_place i hs h    i, and then the place of h in hs, where it is there
--     is_equal g h          whether two hashes are equal, as the map asks
--     TellsPlaces hs m      the map m has the place of each hash of hs, and nothing else
use Rattle.std.specs.Prelude.{ℕ, Bool, ◌≡◌, ◌+◌, List, [], ◌∷◌, Option, Some, None, if◌then◌else◌}
use Rattle.std.specs.List.{position_or_len}
use Rattle.std.specs.HashMap.{HashMap, get}
use Rattle.am_types.specs.contracts.hash.HashPartialEq.TheImpl as equality
use Rattle.am_types.specs.declared.Hash.{Hash}
use Rattle.am_types.specs.Same.{same_hash}

abbrev pub place_in : List Hash → Hash → ℕ
place_in hs h = position_or_len (same_hash h) hs

abbrev pub first_place : ℕ → List Hash → Hash → Option ℕ
first_place i [] h = None
first_place i (x ∷ hs) h = if same_hash h x then Some i else first_place (i + 1) hs h

-- whether two hashes are equal, as the map asks
abbrev pub is_equal : Hash → Hash → Bool
is_equal = equality.eq-value.it

pub record TellsPlaces {S : Type 0} (hs : List Hash) (m : HashMap Hash ℕ S) : Type 0 where
  pub told : (h : Hash) → get is_equal m h ≡ first_place 0 hs h
