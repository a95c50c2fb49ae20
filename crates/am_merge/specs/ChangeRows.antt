-- The change rows of a larger set, from those of the smaller and the added changes.
--     turn C m              None where m is one of C, else its change
--     turns C M             for each member of M its turn
--     old_places i ts       the places of the turns ts that are None, the first counted as i
--     row_in hs c           the change row of c, where hs are the hashes of all change rows in order
--     moved_to is i         the i-th of the places is, or 0
--     moved_by is m         the change row m, each dependency i moved to the i-th of the places is
--     pushed new old t ms   the row for the turn t: that of its change by `new`, or the next of ms by `old`, if there is one
--     left t ms             what is left of ms behind that
--     woven new old ts ms   the rows for all of the turns ts
--     change_rows hs ts ms  the same, of added changes and of the change rows ms, where hs are the hashes of all in order
use Rattle.std.specs.Prelude.{ℕ, ◌+◌, List, [], ◌∷◌, ◌++◌, map, Option, Some, None, slice_get, unwrap_or, if◌then◌else◌}
use Rattle.am_types.specs.declared.Hash.{Hash}
use Rattle.am_types.specs.declared.Change.{Change}
use Rattle.am_types.specs.declared.Meta.{Meta}
use Rattle.am_types.specs.Members.{Member, holds}
use Rattle.am_types.specs.Documents.{meta_of}
use Rattle.am_merge.specs.Places.{place_in}

abbrev pub turn : List Member → Member → Option Change
turn C m = if holds C m.hash then None else Some m.change

abbrev pub turns : List Member → List Member → List (Option Change)
turns C M = map (turn C) M

abbrev pub old_places : ℕ → List (Option Change) → List ℕ
old_places i [] = []
old_places i (None ∷ ts) = i ∷ old_places (i + 1) ts
old_places i (Some c ∷ ts) = old_places (i + 1) ts

abbrev pub row_in : List Hash → Change → Meta
row_in hs c = meta_of c (map (place_in hs) c.deps)

abbrev pub moved_to : List ℕ → ℕ → ℕ
moved_to is i = unwrap_or (slice_get is i) 0

abbrev pub moved_by : List ℕ → Meta → Meta
moved_by is m = record m { deps = map (moved_to is) m.deps }

abbrev pub pushed : (Change → Meta) → (Meta → Meta) → Option Change → List Meta → List Meta
pushed new old (Some c) ms = new c ∷ []
pushed new old None [] = []
pushed new old None (m ∷ ms) = old m ∷ []

abbrev pub left : Option Change → List Meta → List Meta
left (Some c) ms = ms
left None [] = []
left None (m ∷ ms) = ms

abbrev pub woven : (Change → Meta) → (Meta → Meta) → List (Option Change) → List Meta → List Meta
woven new old [] ms = []
woven new old (t ∷ ts) ms = pushed new old t ms ++ woven new old ts (left t ms)

abbrev pub change_rows : List Hash → List (Option Change) → List Meta → List Meta
change_rows hs ts ms = woven (row_in hs) (moved_by (old_places 0 ts)) ts ms
