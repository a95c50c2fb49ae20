-- What a column holds, and which bytes spell it. (Automerge Binary Document Format, "Column Data".)
--     SpellsNumbers, SpellsDeltas, SpellsTexts, SpellsFlags     the bytes spell this list, in any way of runs; no bytes
--                                                               spell any number of nulls, or of falses
--     SpellsCounts, SpellsTimes, SpellsMessages     the same of values of which a null reads as 0, or as the empty text
--     SpellsExtras                  numbers that tell the kinds and lengths of extra bytes
--     Cells                         what a column holds, in terms of the field and not of its bytes
--     Column                        a specification, and what the column holds
--     SpellsCells actors bytes c    the bytes spell what the column holds; actors are told by their places
--     spelling actors c             the one canonical spelling of what it holds
--     SpellsColumns actors columns cs    the columns spell these; one that isn't listed is no bytes
--     spellings actors cs           the canonical columns, also those without bytes
use Rattle.std.specs.Prelude.{◌≡◌, ℕ, suc, List, [], ◌∷◌, map, Option, Some, None, option_map, slice_get, Bool, false, ℤ, pos, if◌then◌else◌}
use Rattle.std.specs.List.{AllByRecursion}
use Rattle.std.specs.Ordering.{nat_cmp, eq_by_cmp}
use Rattle.std.specs.Cmp.Lexicographic.{slice_cmp}
use Rattle.am_leb.specs.Leb.{uleb}
use Rattle.am_runs.specs.Items.{text_spelling}
use Rattle.am_runs.specs.Typed.{JoinsUnsigned, JoinsTexts}
use Rattle.am_runs.specs.Canonical.{canonical_bytes}
use Rattle.am_delta.specs.Deltas.{JoinsDeltas, canonical_delta_bytes}
use Rattle.am_flags.specs.Flags.{JoinsFlags, canonical_maybe_bytes}
use Rattle.am_flags.specs.Flags as flags
use Rattle.am_types.specs.declared.RawValue.{RawValue}
use Rattle.am_types.specs.Documents.{unless_empty}
use Rattle.am_values.specs.Columns.{metadata}
use Rattle.am_colmeta.specs.Metadata.{column_at}
use Rattle.am_fields.specs.Filling.{Fills, Reads}
use Rattle.am_fields.specs.Extras.{AreExtras, extra_value}

abbrev pub SpellsNumbers : List ℕ → List (Option ℕ) → Type 0
SpellsNumbers bytes xs = Fills JoinsUnsigned None bytes xs

abbrev pub SpellsDeltas : List ℕ → List (Option ℤ) → Type 0
SpellsDeltas bytes xs = Fills JoinsDeltas None bytes xs

abbrev pub SpellsTexts : List ℕ → List (Option (List ℕ)) → Type 0
SpellsTexts bytes xs = Fills JoinsTexts None bytes xs

abbrev pub SpellsFlags : List ℕ → List Bool → Type 0
SpellsFlags bytes xs = Fills JoinsFlags false bytes xs

-- numbers, of which a null reads as 0
abbrev pub SpellsCounts : List ℕ → List ℕ → Type 0
SpellsCounts bytes ns = Reads SpellsNumbers 0 bytes ns

-- deltas, of which a null reads as 0
abbrev pub SpellsTimes : List ℕ → List ℤ → Type 0
SpellsTimes bytes times = Reads SpellsDeltas (pos 0) bytes times

-- texts, of which a null reads as the empty one
abbrev pub SpellsMessages : List ℕ → List (List ℕ) → Type 0
SpellsMessages bytes messages = Reads SpellsTexts [] bytes messages

-- the metadata of values that stand for these extra bytes
abbrev pub SpellsExtras : List ℕ → List (List ℕ) → Type 0
SpellsExtras bytes extras = (values : List RawValue) × SpellsCounts bytes (map metadata values) × AreExtras values extras

pub data Cells : Type 0 where
  Numbers : List (Option ℕ) → Cells
  Deltas : List (Option ℤ) → Cells
  Texts : List (Option (List ℕ)) → Cells
  -- actors, which are spelled as places in a list of actors
  Actors : List (Option (List ℕ)) → Cells
  -- flags that are written even where all are false
  Flags : List Bool → Cells
  -- flags that are no bytes where all are false
  RareFlags : List Bool → Cells
  -- bytes as they stand
  Raw : List ℕ → Cells
  -- numbers, of which a null reads as 0
  Counts : List ℕ → Cells
  -- deltas, of which a null reads as 0
  Times : List ℤ → Cells
  -- texts, of which a null reads as the empty one
  Messages : List (List ℕ) → Cells
  -- extra bytes, by the metadata of their values
  Extras : List (List ℕ) → Cells

abbrev pub Column : Type 0
Column = ℕ × Cells

-- whether two actors are one
abbrev pub is_actor : List ℕ → List ℕ → Bool
is_actor = eq_by_cmp (slice_cmp nat_cmp)

-- where an actor stands in a list of actors
abbrev pub place_of : List (List ℕ) → List ℕ → ℕ
place_of [] actor = 0
place_of (a ∷ actors) actor = if is_actor actor a then 0 else suc (place_of actors actor)

-- The places are those of the actors in the list.
abbrev pub Name : List (List ℕ) → List (Option ℕ) → List (Option (List ℕ)) → Type 0
Name actors places names = map (option_map (slice_get actors)) places ≡ map (option_map Some) names

abbrev pub SpellsActors : List (List ℕ) → List ℕ → List (Option (List ℕ)) → Type 0
SpellsActors actors bytes names = (places : List (Option ℕ)) × SpellsNumbers bytes places × Name actors places names

abbrev pub SpellsCells : List (List ℕ) → List ℕ → Cells → Type 0
SpellsCells actors bytes (Numbers xs) = SpellsNumbers bytes xs
SpellsCells actors bytes (Deltas xs) = SpellsDeltas bytes xs
SpellsCells actors bytes (Texts xs) = SpellsTexts bytes xs
SpellsCells actors bytes (Actors names) = SpellsActors actors bytes names
SpellsCells actors bytes (Flags xs) = SpellsFlags bytes xs
SpellsCells actors bytes (RareFlags xs) = SpellsFlags bytes xs
SpellsCells actors bytes (Raw raw) = bytes ≡ raw
SpellsCells actors bytes (Counts ns) = SpellsCounts bytes ns
SpellsCells actors bytes (Times times) = SpellsTimes bytes times
SpellsCells actors bytes (Messages messages) = SpellsMessages bytes messages
SpellsCells actors bytes (Extras extras) = SpellsExtras bytes extras

-- the canonical spelling of numbers and nulls
abbrev pub numbers_bytes : List (Option ℕ) → List ℕ
numbers_bytes xs = canonical_bytes (map (option_map uleb) xs)

-- the canonical spelling of texts and nulls
abbrev pub texts_bytes : List (Option (List ℕ)) → List ℕ
texts_bytes xs = canonical_bytes (map (option_map text_spelling) xs)

abbrev pub spelling : List (List ℕ) → Cells → List ℕ
spelling actors (Numbers xs) = numbers_bytes xs
spelling actors (Deltas xs) = canonical_delta_bytes xs
spelling actors (Texts xs) = texts_bytes xs
spelling actors (Actors names) = numbers_bytes (map (option_map (place_of actors)) names)
spelling actors (Flags xs) = flags.canonical_bytes xs
spelling actors (RareFlags xs) = canonical_maybe_bytes xs
spelling actors (Raw raw) = raw
spelling actors (Counts ns) = numbers_bytes (map Some ns)
spelling actors (Times times) = canonical_delta_bytes (map Some times)
-- an empty text is written as a null
spelling actors (Messages messages) = texts_bytes (map unless_empty messages)
spelling actors (Extras extras) = numbers_bytes (map Some (map metadata (map extra_value extras)))

abbrev pub SpellsColumns : List (List ℕ) → List (ℕ × List ℕ) → List Column → Type 0
SpellsColumns actors columns cs = AllByRecursion (λ c. SpellsCells actors (column_at columns c.0) c.1) cs

abbrev pub spellings : List (List ℕ) → List Column → List (ℕ × List ℕ)
spellings actors cs = map {B = ℕ × List ℕ} (λ c. (c.0, spelling actors c.1)) cs
