-- The forms of the command line, and the commands that each of them means.
--     plans              the first word of each form, what stands behind it, and its plan
--     plan_of words      the plan of the words, where they have one
-- No word begins with a hyphen, and each is a word as in a line of a script.
use Rattle.std.specs.Prelude.{ℕ, List, [], ◌∷◌, Bool, ◌&&◌, not, eqb, codes, slice_index, Option, None, Some, Ok, Err, if◌then◌else◌}
use Rattle.std.specs.List.{list_all}
use Rattle.am_script.specs.declared.command.Command.TheVariants.{Load, Save, History, Show}
use Rattle.am_script.specs.declared.planned.Plan.{Plan}
use Rattle.am_script.specs.declared.planned.Plan.TheVariants.{ReadInput, Lines}
use Rattle.am_script.specs.Words.{Text, Read, is_word}
use Rattle.am_script.specs.Tables.{Behind, by_table, nothing, name, two_names, name_and_hashes}

abbrev pub plans : List (Text × Behind Plan)
plans =
    (codes "run", nothing ReadInput)
    ∷ (codes "show", name_and_hashes (λ both. Lines (Load both.0 ∷ Show both.1 ∷ [])))
    ∷ (codes "check", name (λ file. Lines (Load file ∷ [])))
    ∷ (codes "normalize", two_names (λ both. Lines (Load both.0 ∷ Save both.1 ∷ [])))
    ∷ (codes "history", name (λ file. Lines (Load file ∷ History ∷ [])))
    ∷ []

abbrev pub is_plain : Text → Bool
is_plain word = not (eqb (slice_index word 0) 45)

abbrev pub if_read : {A : Type 0} → Read A → Option A
if_read (Ok read) = Some read
if_read (Err fault) = None

abbrev pub plan_of : List Text → Option Plan
plan_of words = if list_all is_word words && list_all is_plain words then if_read (by_table plans words) else None
