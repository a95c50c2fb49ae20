-- What each command owes, whether it gives a reply or not.
--     Seen                                       a folder, as far as it can be seen
--     FilesStay open old new                     the files are as they were, but for the open one
--     Answered asked old before result new after     this is the answer to what is asked, and what was done meanwhile
use Rattle.std.specs.Prelude.{◌≡◌, ℕ, ◌≤◌, List, Option, None, Some, Result, IfOk, IsErrOf, IsTrue}
use Rattle.am_outside.specs.Calls.{Calls}
use Rattle.am_outside.specs.Counts.{Rose}
use Rattle.am_outside.specs.Files.{Files, SameBut}
use Rattle.am_session.specs.Session.{Held}
use Rattle.am_session.specs.Replies.{is_absent}
use Rattle.am_session.specs.Machine.{Answers, state, names_file, kept_file}
use Rattle.am_session.specs.FirstFault.{Ended, is_err_at, is_file_stop}
use Rattle.am_session.specs.declared.request.Request.{Request}
use Rattle.am_session.specs.declared.stop.Stop.{Stop}
use Rattle.am_session.specs.declared.stop.Stop.TheVariants.{File, NoMemory}

pub record Seen : Type 0 where
  pub files : Option Files
  pub misses : ℕ
  pub faults : ℕ
  pub calls : Option Calls

abbrev pub seen : Option Files → ℕ → ℕ → Option Calls → Seen
seen files misses faults calls = record { files = files; misses = misses; faults = faults; calls = calls }

-- the files are as they were, but for the one that is named
abbrev pub FilesStay : Option (List ℕ) → Option Files → Option Files → Type 0
FilesStay None old new = new ≡ old
FilesStay (Some name) old new = SameBut name old new

pub record Answered (asked : Request) (old : Held) (before : Seen) (result : Result (List ℕ) Stop) (new : Held) (after : Seen) : Type 0 where
  -- a reply is one that the machine gives
  pub step : IfOk result (λ reply. Answers (state old before.files) asked reply (state new after.files))
  -- it says "absent" only where a miss was counted
  pub absent : IfOk result (λ reply. IsTrue (is_absent reply) → Rose before.misses after.misses)
  pub misses : before.misses ≤ after.misses
  pub faults : before.faults ≤ after.faults
  -- the folder is blamed only where it failed, by what names a file, and then no file is touched but one that is kept
  pub failed : IsErrOf result File → Rose before.faults after.faults
  pub names : IsErrOf result File → IsTrue (names_file asked)
  pub left : IsErrOf result File → FilesStay (kept_file old asked) before.files after.files
  pub no_memory : IsErrOf result NoMemory → after.files ≡ before.files
  -- no call failed but the last, where the folder is blamed
  pub ended : Ended (is_err_at is_file_stop result) before.calls after.calls
