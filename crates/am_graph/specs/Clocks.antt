-- How far each actor's changes go among some changes.
--     last_seq A x            the greatest seq of the changes of the actor x among A, or 0
--     reach_of clock x        how far the clock goes for the actor x
--     covers clock i          the clock goes as far as the id i
--     IsClockOf A clock       the clock covers just what A covers (am_types, Clocks), and knows the last seqs of A
use Rattle.std.specs.Prelude.{ℕ, ◌≡◌, Bool, nat_lt, List, filter, find, map}
use Rattle.std.specs.Option.{option_map_or}
use Rattle.am_types.specs.declared.OpId.{OpId}
use Rattle.am_types.specs.Same.{same_bytes}
use Rattle.am_types.specs.Members.{Member}
use Rattle.am_types.specs.Clocks as members
use Rattle.am_types.specs.Canonical.{largest}
use Rattle.am_graph.specs.declared.reach.Reach.{Reach}
use Rattle.am_graph.specs.Reaches.{unreached}

abbrev pub last_seq : List Member → List ℕ → ℕ
last_seq A x = largest (map (λ m. m.change.seq) (filter (λ m. same_bytes m.change.actor x) A))

-- a clock is a list of actors, each beside how far its changes go
abbrev pub reach_of : List (List ℕ × Reach) → List ℕ → Reach
reach_of clock x = option_map_or (λ e. e.1) (find (λ e. same_bytes x e.0) clock) unreached

abbrev pub covers : List (List ℕ × Reach) → OpId → Bool
covers clock i = nat_lt i.counter (reach_of clock i.actor).end

pub record IsClockOf (A : List Member) (clock : List (List ℕ × Reach)) : Type 0 where
  pub covers : (i : OpId) → covers clock i ≡ members.covers A i
  pub last_seq : (x : List ℕ) → (reach_of clock x).seq ≡ last_seq A x
