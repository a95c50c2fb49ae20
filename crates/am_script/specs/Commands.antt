-- The commands of a script, by the first word of a line. A further command is a row.
--     commands           the word of each command, and what stands behind it
--     command_of line    the command of a line that isn't empty, or why it is none
--     read_line line     the same for any line; an empty one asks for nothing
-- The words of a line stand one space apart, and nothing else stands in it. A line has at most 65,536 bytes.
use Rattle.std.specs.Prelude.{ℕ, List, [], ◌∷◌, length, nat_lt, eqb, codes, Option, None, Some, Ok, Err, if◌then◌else◌}
use Rattle.std.specs.List.{slice_split, list_all}
use Rattle.am_script.specs.declared.command.Command.{Command}
use Rattle.am_script.specs.declared.command.Command.TheVariants.{Frames, Apply, Load, Save, SaveAll, Heads, Waiting, History, Show, Conflicts, Audit, Export, Stats, Bench}
use Rattle.am_script.specs.declared.fault.LineFault.TheVariants.{TooLong, Syntax}
use Rattle.am_script.specs.Words.{Text, Read, made, space, is_word}
use Rattle.am_script.specs.Tables.{Behind, by_table, nothing, name, number, hashes, hash_and_name}

abbrev pub commands : List (Text × Behind Command)
commands =
    (codes "frames", name Frames)
    ∷ (codes "apply", name Apply)
    ∷ (codes "load", name Load)
    ∷ (codes "save", name Save)
    ∷ (codes "saveall", name SaveAll)
    ∷ (codes "heads", nothing Heads)
    ∷ (codes "waiting", nothing Waiting)
    ∷ (codes "history", nothing History)
    ∷ (codes "show", hashes Show)
    ∷ (codes "conflicts", hashes Conflicts)
    ∷ (codes "audit", hashes Audit)
    ∷ (codes "export", hash_and_name (λ both. Export both.0 both.1))
    ∷ (codes "stats", nothing Stats)
    ∷ (codes "bench", number Bench)
    ∷ []

-- what stands between the spaces of a line
abbrev pub parts : List ℕ → List Text
parts line = slice_split (λ byte. eqb byte space) line

abbrev pub by_words : List Text → Read Command
by_words words = by_table commands words

abbrev pub command_of : List ℕ → Read Command
command_of line = if list_all is_word (parts line) then by_words (parts line) else Err Syntax

abbrev pub read_line : List ℕ → Read (Option Command)
read_line [] = Ok None
read_line (byte ∷ more) = if nat_lt 65536 (length (byte ∷ more)) then Err TooLong else made Some (command_of (byte ∷ more))
