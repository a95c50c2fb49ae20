-- What a cache keeps, and what its uses leave.
--     Kept                  the texts by their views, the view used last first, and how many looks found a text
--     text_of v c           the text that is kept for the view v
--     looked_up v c         what is kept after a look for v
--     with_text v text c    what is kept after the text was put for v
use Rattle.std.specs.Prelude.{ℕ, ◌+◌, ◌-◌, ◌^◌, min, List, ◌∷◌, take, Option, None, Some}
use Rattle.std.specs.Map.{lookup, remove_entry}
use Rattle.am_cache.specs.declared.view.View.{View}
use Rattle.am_cache.specs.Views.{same_view}

pub record Kept : Type 0 where
  pub views : List (View × List ℕ)
  pub hits : ℕ

abbrev pub kept : List (View × List ℕ) → ℕ → Kept
kept views hits = record { views = views; hits = hits }

abbrev pub text_of : View → Kept → Option (List ℕ)
text_of v c = lookup (same_view v) c.views

-- the other views, in their order
abbrev pub others : View → List (View × List ℕ) → List (View × List ℕ)
others v views = remove_entry (same_view v) views

-- a view whose text is found goes first, and the look counts, up to 2^64 - 1
abbrev pub found : View → Kept → Option (List ℕ) → Kept
found v c None = c
found v c (Some text) = kept ((v, text) ∷ others v c.views) (min (c.hits + 1) (2 ^ 64 - 1))

abbrev pub looked_up : View → Kept → Kept
looked_up v c = found v c (text_of v c)

-- the view goes first with its text, and the first 16 stay
abbrev pub with_text : View → List ℕ → Kept → Kept
with_text v text c = kept (take 16 ((v, text) ∷ others v c.views)) c.hits
