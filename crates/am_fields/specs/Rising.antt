-- Ids that follow one another.
--     above id         the id of the same actor whose counter is one more
--     rising id n      n ids from this one on, each of which is above the one before it
use Rattle.std.specs.Prelude.{ℕ, zero, suc, List, [], ◌∷◌}
use Rattle.am_types.specs.declared.OpId.{OpId}

abbrev pub above : OpId → OpId
above id = record { counter = suc id.counter; actor = id.actor }

abbrev pub rising : OpId → ℕ → List OpId
rising id zero = []
rising id (suc n) = id ∷ rising (above id) n
