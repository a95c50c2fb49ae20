-- Laws over generated changes. Each is the contract of a function of the same name, which does nothing.
use Rattle.std.specs.Prelude.{ℕ, ◌≤◌, All}
use Rattle.am_types.specs.Fine.{Fine}
use Rattle.am_types.specs.Members.{DistinctHashes}
use Rattle.am_types.specs.ValidSets.{Valid}
use Rattle.am_change.specs.Hashes.{with_hashes}
use Rattle.am_gen.specs.Made.{made}

-- each of the first n generated changes is fine
abbrev pub MadeAreFine : Type 0
MadeAreFine = (n : ℕ) → n ≤ 100000 → All Fine (made n)

-- where no two of them have one hash, they are a valid set
abbrev pub MadeAreValid : Type 0
MadeAreValid = (n : ℕ) → n ≤ 100000 → DistinctHashes (with_hashes (made n)) → Valid (with_hashes (made n))
