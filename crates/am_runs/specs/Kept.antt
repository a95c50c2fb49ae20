-- The items that a pending run keeps.
--     Kept             the bytes of all but the last, and those of the last
--     kept bytes size  they stand one after another, and the last has so many bytes
use Rattle.std.specs.Prelude.{ℕ, ◌-◌, List, length, take, drop}

pub record Kept : Type 0 where
  pub front : List ℕ
  pub last : List ℕ

abbrev pub kept : List ℕ → ℕ → Kept
kept bytes size = record { front = take (length bytes - size) bytes; last = drop (length bytes - size) bytes }
