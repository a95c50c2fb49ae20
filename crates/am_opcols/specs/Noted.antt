-- Actors that are noted as they are met.
--     Notes author xs old new     the new ones are the old ones and those of xs other than the author, in any order, each at
--                                 least once
use Rattle.std.specs.Prelude.{◌≡◌, ◌≢◌, ◌⊎◌, ℕ, List}
use Rattle.am_fields.specs.Actors.{IsListed}

pub record Notes (author : List ℕ) (xs old new : List (List ℕ)) : Type 0 where
  pub kept : (a : List ℕ) → IsListed old a → IsListed new a
  pub noted : (a : List ℕ) → IsListed xs a → (a ≡ author) ⊎ IsListed new a
  pub alone : (a : List ℕ) → IsListed new a → (IsListed xs a × (a ≢ author)) ⊎ IsListed old a
