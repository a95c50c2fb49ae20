-- Rows that are passed over.
--     IsUnnamed counters i     no counter among these is that of the id
use Rattle.std.specs.Prelude.{ℕ, List, Contains}
use Rattle.am_types.specs.declared.OpId.{OpId}

abbrev pub IsUnnamed : List ℕ → OpId → Type 0
IsUnnamed counters i = Contains counters i.counter → ⊥
