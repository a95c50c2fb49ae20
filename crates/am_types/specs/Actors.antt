-- Actors. (The bound of 1,024 bytes is a choice of amstore's profile.)
--     IsActor bytes     there are 1 to 1,024 bytes
use Rattle.std.specs.Prelude.{ℕ, ◌≤◌, List, length}
use Rattle.am_types.specs.Bytes.{IsBytes}
use Rattle.am_types.specs.Limits.{longest_actor}

pub record IsActor (bytes : List ℕ) : Type 0 where
  pub some : 1 ≤ length bytes
  pub few : length bytes ≤ longest_actor
  pub are_bytes : IsBytes bytes
