-- What the top call answers.
use Rattle.std.specs.Prelude.{◌≡◌, ◌≤◌, ℕ, List, [], length, map, Bool, true, false, Option, None, Some, IfSome, ⊤}
use Rattle.std.specs.List.{list_any}
use Rattle.std.specs.Io.KnownBytes.{IsAtEnd}
use Rattle.am_outside.specs.Counts.{raised}
use Rattle.am_outside.specs.Files.{Files}
use Rattle.am_script.specs.declared.Plan.{Plan}
use Rattle.am_script.specs.declared.Plan.TheVariants.{ReadInput, Lines}
use Rattle.am_session.specs.declared.Request.{Request}
use Rattle.am_session.specs.declared.Request.TheVariants.{Do}
use Rattle.am_cli.specs.Script.{all_asked}
use Rattle.am_session.specs.Replies.{is_refused}
use Rattle.am_session.specs.Machine.{State, first_state}
use Rattle.am_cli.specs.Carried.{Carried, Stopped}
use Rattle.am_cli.specs.declared.halt.Halt.{Halt}
use Rattle.am_cli.specs.declared.halt.Halt.TheVariants as halt
use Rattle.am_cli.specs.declared.run.Status.{Status}
use Rattle.am_cli.specs.declared.run.Status.TheVariants as status

-- the longest script, in bytes
abbrev pub LONGEST : ℕ
LONGEST = 16777216

-- an input, as far as it can be seen: the bytes that are left, where it tells them, and how many were taken
pub record Input : Type 0 where
  pub left : Option (List ℕ)
  pub taken : ℕ

abbrev pub input_of : Option (List ℕ) → ℕ → Input
input_of left taken = record { left = left; taken = taken }

-- a folder and an output, as far as they can be seen
pub record Outside : Type 0 where
  pub files : Option Files
  pub misses : ℕ
  pub written : Option (List ℕ)

abbrev pub outside : Option Files → ℕ → Option (List ℕ) → Outside
outside files misses written = record { files = files; misses = misses; written = written }

-- the whole input was taken, and it is this script
pub record IsWhole (script : List ℕ) (before after : Input) : Type 0 where
  pub told : IfSome before.left (λ all. all ≡ script)
  pub end : IsAtEnd after.left
  pub within : length script ≤ LONGEST
  pub taken : after.taken ≡ raised before.taken (length script)

-- what a plan asks for; one reads it in the input
abbrev pub Asks : Plan → List Request → Input → Input → Type 0
Asks ReadInput asked before after = (script : List ℕ) × IsWhole script before after × (asked ≡ all_asked script)
Asks (Lines commands) asked before after = asked ≡ map Do commands

-- whether nothing more is done after a reply that refuses
abbrev pub stops_of : Plan → Bool
stops_of ReadInput = false
stops_of (Lines commands) = true

-- each command was carried out, and this says whether a reply refuses
abbrev pub some_is_refused : Status → Option Bool
some_is_refused status.Done = Some false
some_is_refused status.SomeRefused = Some true
some_is_refused status.BadWords = None
some_is_refused status.InputFault = None
some_is_refused status.FileFault = None
some_is_refused status.OutputFault = None
some_is_refused status.NoMemory = None
some_is_refused status.InputLong = None

-- the run may have ended within its commands
abbrev pub halt_of : Status → Option Halt
halt_of status.FileFault = Some halt.File
halt_of status.OutputFault = Some halt.Output
halt_of status.NoMemory = Some halt.NoMemory
halt_of status.Done = None
halt_of status.SomeRefused = None
halt_of status.BadWords = None
halt_of status.InputFault = None
halt_of status.InputLong = None

-- the run ended before its first command
abbrev pub IsBefore : Status → Type 0
IsBefore status.BadWords = ⊤
IsBefore status.InputFault = ⊤
IsBefore status.InputLong = ⊤
IsBefore status.Done = ⊥
IsBefore status.SomeRefused = ⊥
IsBefore status.FileFault = ⊥
IsBefore status.OutputFault = ⊥
IsBefore status.NoMemory = ⊥

-- each command was carried out, and its reply written whole
pub record Finished (stops : Bool) (asked : List Request) (refused : Bool) (before after : Outside) : Type 0 where
  pub replies : List (List ℕ)
  pub end : State
  pub carried : Carried stops asked replies [] (first_state before.files) end before.written after.written before.misses after.misses
  pub files : after.files ≡ end.files
  pub refuses : refused ≡ list_any is_refused replies

-- the run ended within the commands
abbrev pub Broken : Bool → List Request → Halt → Outside → Outside → Type 0
Broken stops asked halt before after = Stopped stops asked halt (first_state before.files) after.files before.written after.written before.misses after.misses

-- the exit status, a number for each way in which a run may end
abbrev pub exit_status : Status → ℕ
exit_status status.Done = 0
exit_status status.SomeRefused = 1
exit_status status.BadWords = 2
exit_status status.InputFault = 3
exit_status status.FileFault = 4
exit_status status.OutputFault = 5
exit_status status.NoMemory = 6
exit_status status.InputLong = 7
