-- Changes that wait for a walk, by their places.
--     waits pending k        the change at the place k waits
--     is_place_of g hs k     the change at the place k has a hash among hs
--     Walk authors C hs V T     a walk among the ancestors of hs, where V wait and T is the table so far
--     Visits s place ..      the change at the place was taken into the table, and its dependencies wait
use Rattle.std.specs.Prelude.{ℕ, ◌≡◌, ◌<◌, ◌⊎◌, Bool, true, false, List, [], ◌∷◌, length, slice_get, slice_index_or, Contains}
use Rattle.std.specs.Option.{option_map_or}
use Rattle.std.specs.Ordering.{nat_cmp}
use Rattle.std.specs.BTreeSet.{BTreeSet, contains}
use Rattle.am_types.specs.declared.Hash.{Hash}
use Rattle.am_types.specs.Order.{hash_cmp, among}
use Rattle.am_types.specs.Members.{Member}
use Rattle.am_types.specs.Ancestors.{ancestors}
use Rattle.am_graph.specs.declared.node.Node.{Node}
use Rattle.am_graph.specs.declared.reach.Reach.{Reach}
use Rattle.am_graph.specs.declared.parts.Parts.{Parts}
use Rattle.am_graph.specs.Graphs.{ForSet}
use Rattle.am_graph.specs.Reaches.{end, reach_at, IsBelow, Attained}
use Rattle.am_graph.specs.Whole.{authors_of}

abbrev pub waits : BTreeSet ℕ → ℕ → Bool
waits pending k = contains nat_cmp pending k

abbrev pub is_place_of : List (Hash × Node) → List Hash → ℕ → Bool
is_place_of g hs k = option_map_or (λ e. among hash_cmp hs e.0) (slice_get g k) false

-- What waits is an ancestor; each ancestor is in the table, or an ancestor of what waits; the table says no more.
pub record Walk (authors : List (List ℕ)) (C : List Member) (hs : List Hash) (V : ℕ → Bool) (T : List Reach) : Type 0 where
  pub within : (k : ℕ) (d : Member) → k < length C → V k ≡ true → Contains (ancestors C hs) (slice_index_or C k d)
  pub rest : (m : Member) → Contains (ancestors C hs) m → IsBelow authors T m ⊎ ((k : ℕ) × (d : Member) × (k < length C) × (V k ≡ true) × Contains (ancestors C ((slice_index_or C k d).hash ∷ [])) m)
  pub seqs : (a : ℕ) → Attained authors (ancestors C hs) (λ m. m.change.seq) a (reach_at T a).seq
  pub ends : (a : ℕ) → Attained authors (ancestors C hs) (λ m. end m.change) a (reach_at T a).end

-- the change at the place, which waited, was taken in
abbrev pub Visits : Parts → ℕ → BTreeSet ℕ → List Reach → BTreeSet ℕ → List Reach → Type 0
Visits s place old T new U = ForSet s.held.entries (λ C. (hs : List Hash) (V : ℕ → Bool) → Walk (authors_of s) C hs V T → V place ≡ true
    → ((q : ℕ) → waits old q ≡ true → V q ≡ true) → ((q : ℕ) → V q ≡ true → (q ≡ place) ⊎ (waits old q ≡ true)) → Walk (authors_of s) C hs (waits new) U)

-- what waits anew stands before the place
abbrev pub WaitBefore : ℕ → BTreeSet ℕ → BTreeSet ℕ → Type 0
WaitBefore place old new = (q : ℕ) → waits new q ≡ true → (waits old q ≡ true) ⊎ (q < place)
