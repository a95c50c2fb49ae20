-- What a command owes where it gives a reply that doesn't say "absent", and where it keeps a file.
use Rattle.std.proofs.Common.{◌≡◌, ℕ, ◌≤◌, List, true, false, Some, Result, Ok, Err, IfOk, IsTrue, sym, ap, subst, ◌∙◌, length}
use Rattle.std.specs.Prelude.{IsErrOf}
use Rattle.am_outside.specs.Counts.{Rose}
use Rattle.am_outside.specs.Files.{Stands, SameBut}
use Rattle.am_session.specs.declared.request.Request.{Request}
use Rattle.am_session.specs.declared.request.Request.TheVariants.{Do}
use Rattle.am_script.specs.declared.Command.TheVariants.{Frames, Apply, Load}
use Rattle.am_session.specs.declared.stop.Stop.{Stop}
use Rattle.am_session.specs.declared.stop.Stop.TheVariants as stop
use Rattle.am_session.specs.Session.{Held}
use Rattle.am_session.specs.Replies.{is_absent, kept_reply}
use Rattle.am_session.specs.Listing.{Lists}
use Rattle.am_session.specs.Apply.{Applies}
use Rattle.am_session.specs.Machine.{Answers, Keeps, state, with_file, names_file, kept_file}
use Rattle.am_session.specs.Answered.{FilesStay, Seen, Answered}
use Rattle.am_session.specs.FirstFault.{Ended, is_err_at, is_file_stop}
use Rattle.am_session.proofs.Present.{listing_is_there, applied_is_there, kept_is_there}

never : (reply : List ℕ) (why : Stop) → ◌≡◌ {A = Result (List ℕ) Stop} (Ok reply) (Err why) → ⊥
never reply why e = cc

there : (reply : List ℕ) → is_absent reply ≡ false → IsTrue (is_absent reply) → ⊥
there reply is_there is = cc

pub replied : (asked : Request) (old new : Held) (before after : Seen) (reply : List ℕ) → Answers (state old before.files) asked reply (state new after.files) → is_absent reply ≡ false
    → before.misses ≤ after.misses → before.faults ≤ after.faults → Ended false before.calls after.calls → Answered asked old before (Ok reply) new after
replied asked old new before after reply step is_there misses faults ended = record {
  step = step;
  absent = λ is. absurd (there reply is_there is);
  misses = misses;
  faults = faults;
  failed = λ e. absurd (never reply _ e);
  names = λ e. absurd (never reply _ e);
  left = λ e. absurd (never reply _ e);
  no_memory = λ e. absurd (never reply _ e);
  ended = ended;
}

pub listed : (name : List ℕ) (held : Held) (before after : Seen) (bytes reply : List ℕ) → Stands before.files name (Some bytes) → Lists (Some bytes) reply → after.files ≡ before.files
    → before.misses ≤ after.misses → before.faults ≤ after.faults → Ended false before.calls after.calls → Answered (Do (Frames name)) held before (Ok reply) held after
listed name held before after bytes reply stands lists same misses faults ended =
    replied (Do (Frames name)) held held before after reply (Some bytes, stands, lists, ap (state held) same) (listing_is_there bytes reply lists) misses faults ended

pub delivered : (name : List ℕ) (old new : Held) (before after : Seen) (bytes reply : List ℕ) → Stands before.files name (Some bytes) → Applies true (Some bytes) old reply new → after.files ≡ before.files
    → before.misses ≤ after.misses → before.faults ≤ after.faults → Ended false before.calls after.calls → Answered (Do (Apply name)) old before (Ok reply) new after
delivered name old new before after bytes reply stands applies same misses faults ended =
    replied (Do (Apply name)) old new before after reply (Some bytes, stands, applies, same) (applied_is_there true bytes reply old new applies) misses faults ended

pub loaded : (name : List ℕ) (old new : Held) (before after : Seen) (bytes reply : List ℕ) → Stands before.files name (Some bytes) → Applies false (Some bytes) old reply new → after.files ≡ before.files
    → before.misses ≤ after.misses → before.faults ≤ after.faults → Ended false before.calls after.calls → Answered (Do (Load name)) old before (Ok reply) new after
loaded name old new before after bytes reply stands applies same misses faults ended =
    replied (Do (Load name)) old new before after reply (Some bytes, stands, applies, same) (applied_is_there false bytes reply old new applies) misses faults ended

-- a command that keeps such a file under this name
pub keeps : (asked : Request) (name word file bytes : List ℕ) (held : Held) (before after : Seen) (result : Result (List ℕ) Stop) → word ≡ name → bytes ≡ file → IsTrue (names_file asked) → kept_file held asked ≡ Some name
    → ((reply : List ℕ) → Keeps (state held before.files) name file reply (state held after.files) → Answers (state held before.files) asked reply (state held after.files))
    → IfOk result (λ reply. after.files ≡ with_file word bytes before.files) → IfOk result (λ reply. reply ≡ kept_reply (length bytes))
    → (IsErrOf result stop.File → SameBut word before.files after.files) → (IsErrOf result stop.NoMemory → after.files ≡ before.files)
    → before.misses ≤ after.misses → before.faults ≤ after.faults → (IsErrOf result stop.File → Rose before.faults after.faults) → Ended (is_err_at is_file_stop result) before.calls after.calls → Answered asked held before result held after
keeps asked name word file bytes held before after (Ok reply) is are names stands step kept told others no_memory misses faults failed ended =
    let same : kept_reply (length bytes) ≡ kept_reply (length file) = ap (λ all. kept_reply (length all)) are in
    let left : after.files ≡ with_file name file before.files = kept ∙ (λ i. with_file (is i) (are i) before.files) in
    replied asked held held before after reply (step reply (told ∙ same, ap (state held) left)) (ap is_absent told ∙ kept_is_there (length bytes)) misses faults ended
keeps asked name word file bytes held before after (Err why) is are names stands step kept told others no_memory misses faults failed ended = record {
  step = tt;
  absent = tt;
  misses = misses;
  faults = faults;
  failed = failed;
  names = λ e. names;
  left = λ e. subst (λ f. FilesStay f before.files after.files) (sym stands) (subst (λ n. SameBut n before.files after.files) is (others e));
  no_memory = no_memory;
  ended = ended;
}
