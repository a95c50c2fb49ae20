-- Names of actors, ascending.
--     names_of names           the bytes of borrowed names
--     mentioned_actors rows    the actors of the ids that the rows have or name
--     IsPlaceOf names a i      the actor a stands at the place i of the names
--     AreNames actors names    the names ascend, and these actors are among them
use Rattle.std.specs.Prelude.{ℕ, ◌<◌, ◌≡◌, List, ◌∷◌, length, map, flat_map, slice_index_or, Contains}
use Rattle.std.specs.Borrow.{Bor}
use Rattle.std.specs.List.Sorted.{IsStrictlySortedBy}
use Rattle.am_types.specs.declared.Row.{Row}
use Rattle.am_types.specs.Order.{bytes_cmp}

abbrev pub names_of : List (Bor (List ℕ)) → List (List ℕ)
names_of names = map (λ n. n.now) names

abbrev pub mentioned_actors : List Row → List (List ℕ)
mentioned_actors rows = flat_map (λ r. r.id.actor ∷ map (λ i. i.actor) r.succs) rows

-- a stands at the place i
abbrev pub IsPlaceOf : List (List ℕ) → List ℕ → ℕ → Type 0
IsPlaceOf names a i = (i < length names) × ((d : List ℕ) → slice_index_or names i d ≡ a)

pub record AreNames (actors names : List (List ℕ)) : Type 0 where
  pub sorted : IsStrictlySortedBy bytes_cmp names
  pub named : (a : List ℕ) → Contains actors a → Contains names a
