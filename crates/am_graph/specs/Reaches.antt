-- How far each author's changes go, as a table by the author's number.
--     number authors x      the number of the actor x: its place among the authors
--     end c                 the least counter above those of all operations of c, but at least its start
--     reach_at T a          how far the table T goes for the author with the number a
--     higher r s            as far as the farther of the two
--     IsTableOf authors A T     the table T goes just as far as the changes A do
use Rattle.std.specs.Prelude.{ℕ, ◌+◌, ◌≡◌, ◌≤◌, ◌==◌, ◌⊎◌, List, length, Option, Some, position, slice_index_or, max as larger, Contains, if◌then◌else◌}
use Rattle.am_types.specs.declared.Change.{Change}
use Rattle.am_types.specs.Same.{same_bytes}
use Rattle.am_types.specs.Members.{Member}
use Rattle.am_graph.specs.declared.reach.Reach.{Reach}

abbrev pub number : List (List ℕ) → List ℕ → Option ℕ
number authors actor = position (same_bytes actor) authors

abbrev pub end : Change → ℕ
end c = c.start + length c.ops

abbrev pub unreached : Reach
unreached = record { seq = 0; end = 0 }

abbrev pub reach_at : List Reach → ℕ → Reach
reach_at T a = slice_index_or T a unreached

abbrev pub higher : Reach → Reach → Reach
higher r s = record { seq = larger r.seq s.seq; end = larger r.end s.end }

-- the entry of the author b was raised to r
abbrev pub Raised : List Reach → List Reach → ℕ → Reach → Type 0
Raised old new b r = (a : ℕ) → reach_at new a ≡ (if a == b then higher (reach_at old a) r else reach_at old a)

-- each entry was raised to that of S
abbrev pub Merged : List Reach → List Reach → List Reach → Type 0
Merged old new S = (a : ℕ) → reach_at new a ≡ higher (reach_at old a) (reach_at S a)

-- the table goes at least as far as m
abbrev pub IsBelow : List (List ℕ) → List Reach → Member → Type 0
IsBelow authors T m = (a : ℕ) → number authors m.change.actor ≡ Some a → (m.change.seq ≤ (reach_at T a).seq) × (end m.change ≤ (reach_at T a).end)

-- n is 0, or what f says of a change of the author a among A
abbrev pub Attained : List (List ℕ) → List Member → (Member → ℕ) → ℕ → ℕ → Type 0
Attained authors A f a n = (n ≡ 0) ⊎ ((m : Member) × Contains A m × (number authors m.change.actor ≡ Some a) × (f m ≡ n))

pub record IsTableOf (authors : List (List ℕ)) (A : List Member) (T : List Reach) : Type 0 where
  pub reached : (m : Member) → Contains A m → IsBelow authors T m
  pub seqs : (a : ℕ) → Attained authors A (λ m. m.change.seq) a (reach_at T a).seq
  pub ends : (a : ℕ) → Attained authors A (λ m. end m.change) a (reach_at T a).end
