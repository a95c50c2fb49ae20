-- The machine that a script drives. It is a relation: from a state it may give this reply to what is asked, and go
-- on to that state. A further command is one more case of Answers, read_file,
-- names_file and kept_file.
--     SameState s t       the same is held, however it is listed, and the same files stand there
--     with_file name bytes files     the files, with this one under this name
--     Keeps old name bytes reply new     a command keeps this file, and tells its length
--     Exports found old hash name reply new     the same of the chunk that is found, or the hash is refused
--     Answers old asked reply new
--     Replied old asked   the machine has some reply to what is asked
--     Runs stops old asked replies new left     the machine gives these replies to the first of what is asked
use Rattle.std.specs.Prelude.{◌≡◌, ℕ, ◌∷◌, List, [], length, codes, Bool, true, false, ◌&&◌, Option, None, Some, if◌then◌else◌}
use Rattle.std.specs.Option.{option_map}
use Rattle.std.specs.FinMap.{insert}
use Rattle.am_types.specs.declared.Hash.{Hash}
use Rattle.am_types.specs.Order.{hash_cmp, sorted_by}
use Rattle.am_types.specs.Members.{heads, hashes}
use Rattle.am_outside.specs.Files.{Files, Stands}
use Rattle.am_json.specs.declared.Form.TheVariants as form
use Rattle.am_store.specs.History.{history}
use Rattle.am_store.specs.Saved.{document, saved_all, chunk_in}
use Rattle.am_script.specs.declared.Command.TheVariants.{Frames, Apply, Load, Save, SaveAll, Heads, Waiting, History, Show, Conflicts, Audit, Export, Stats, Bench}
use Rattle.am_session.specs.declared.request.Request.{Request}
use Rattle.am_session.specs.declared.request.Request.TheVariants.{Do, LongLine, Syntax, BadHash}
use Rattle.am_session.specs.Session.{Held, SameHeld, nothing_held}
use Rattle.am_session.specs.Replies.{refused, is_refused, unknown, hash_list, kept_reply}
use Rattle.am_session.specs.Listing.{Lists}
use Rattle.am_session.specs.Apply.{Applies}
use Rattle.am_session.specs.Reading.{reading}
use Rattle.am_session.specs.Views.{Shows}
use Rattle.am_session.specs.Stats.{stats_text}
use Rattle.am_session.specs.History.{history_text}
use Rattle.am_session.specs.Bench.{bench_text}

-- what stands from command to command: what the session holds, and the files, where the folder tells them
pub record State : Type 0 where
  pub held : Held
  pub files : Option Files

abbrev pub state : Held → Option Files → State
state held files = record { held = held; files = files }

-- nothing is held
abbrev pub first_state : Option Files → State
first_state files = state nothing_held files

pub record SameState (s t : State) : Type 0 where
  pub held : SameHeld s.held t.held
  pub files : s.files ≡ t.files

-- the files, with this one in place of one that stands under its name, where files are told
abbrev pub with_file : List ℕ → List ℕ → Option Files → Option Files
with_file name bytes files = option_map (λ all. insert all name bytes) files

-- this file is kept and its length told; what is held stays
abbrev pub Keeps : State → List ℕ → List ℕ → List ℕ → State → Type 0
Keeps old name bytes reply new = (reply ≡ kept_reply (length bytes)) × (new ≡ state old.held (with_file name bytes old.files))

-- the chunk with this hash is kept, where one is found
abbrev pub Exports : Option (List ℕ) → State → Hash → List ℕ → List ℕ → State → Type 0
Exports None old hash name reply new = (reply ≡ unknown hash) × (new ≡ old)
Exports (Some chunk) old hash name reply new = Keeps old name chunk reply new

-- from old, the machine may give this reply to what is asked, and go on to new
abbrev pub Answers : State → Request → List ℕ → State → Type 0
Answers old (Do (Frames name)) reply new = (found : Option (List ℕ)) × Stands old.files name found × Lists found reply × (new ≡ old)
Answers old (Do (Apply name)) reply new = (found : Option (List ℕ)) × Stands old.files name found × Applies true found old.held reply new.held × (new.files ≡ old.files)
Answers old (Do (Load name)) reply new = (found : Option (List ℕ)) × Stands old.files name found × Applies false found old.held reply new.held × (new.files ≡ old.files)
Answers old (Do (Save name)) reply new = Keeps old name (document old.held.kept.closed) reply new
Answers old (Do (SaveAll name)) reply new = Keeps old name (saved_all old.held.kept) reply new
Answers old (Do Heads) reply new = (reply ≡ hash_list (heads old.held.kept.closed)) × (new ≡ old)
Answers old (Do Waiting) reply new = (reply ≡ hash_list (sorted_by hash_cmp (hashes old.held.kept.waiting))) × (new ≡ old)
Answers old (Do History) reply new = (reply ≡ history_text (history old.held.kept.closed)) × (new ≡ old)
Answers old (Do (Show named)) reply new = Shows form.Winners named old.held reply new.held × (new.files ≡ old.files)
Answers old (Do (Conflicts named)) reply new = Shows form.All named old.held reply new.held × (new.files ≡ old.files)
Answers old (Do (Audit named)) reply new = (reply ≡ reading form.Winners named old.held.kept.closed) × (new ≡ old)
Answers old (Do (Export hash name)) reply new = Exports (chunk_in old.held.kept.closed hash) old hash name reply new
Answers old (Do Stats) reply new = (reply ≡ stats_text old.held.kept old.held.views.hits) × (new ≡ old)
Answers old (Do (Bench count)) reply new = (reply ≡ bench_text count) × (new ≡ old)
Answers old LongLine reply new = (reply ≡ refused (codes "line")) × (new ≡ old)
Answers old Syntax reply new = (reply ≡ refused (codes "syntax")) × (new ≡ old)
Answers old BadHash reply new = (reply ≡ refused (codes "hash")) × (new ≡ old)

-- from old, the machine may give some reply to what is asked
abbrev pub Replied : State → Request → Type 0
Replied old asked = (reply : List ℕ) × (new : State) × Answers old asked reply new

-- what is left to do after a reply: nothing where a run stops at a refused one
abbrev pub left_after : Bool → List ℕ → List Request → List Request
left_after stops reply more = if stops && is_refused reply then [] else more

-- the machine gives these replies to the first of what is asked, and this is left to do
abbrev pub Runs : Bool → State → List Request → List (List ℕ) → State → List Request → Type 0
Runs stops old asked [] new left = (new ≡ old) × (left ≡ asked)
Runs stops old [] (reply ∷ replies) new left = ⊥
Runs stops old (one ∷ more) (reply ∷ replies) new left = (next : State) × Answers old one reply next × Runs stops next (left_after stops reply more) replies new left

-- it reads or keeps a file
abbrev pub names_file : Request → Bool
names_file (Do (Frames name)) = true
names_file (Do (Apply name)) = true
names_file (Do (Load name)) = true
names_file (Do (Save name)) = true
names_file (Do (SaveAll name)) = true
names_file (Do Heads) = false
names_file (Do Waiting) = false
names_file (Do History) = false
names_file (Do (Show named)) = false
names_file (Do (Conflicts named)) = false
names_file (Do (Audit named)) = false
names_file (Do (Export hash name)) = true
names_file (Do Stats) = false
names_file (Do (Bench count)) = false
names_file LongLine = false
names_file Syntax = false
names_file BadHash = false

-- the file that a command reads
abbrev pub read_file : Request → Option (List ℕ)
read_file (Do (Frames name)) = Some name
read_file (Do (Apply name)) = Some name
read_file (Do (Load name)) = Some name
read_file (Do (Save name)) = None
read_file (Do (SaveAll name)) = None
read_file (Do Heads) = None
read_file (Do Waiting) = None
read_file (Do History) = None
read_file (Do (Show named)) = None
read_file (Do (Conflicts named)) = None
read_file (Do (Audit named)) = None
read_file (Do (Export hash name)) = None
read_file (Do Stats) = None
read_file (Do (Bench count)) = None
read_file LongLine = None
read_file Syntax = None
read_file BadHash = None

-- the file that a command keeps, where this is held
abbrev pub kept_file : Held → Request → Option (List ℕ)
kept_file held (Do (Frames name)) = None
kept_file held (Do (Apply name)) = None
kept_file held (Do (Load name)) = None
kept_file held (Do (Save name)) = Some name
kept_file held (Do (SaveAll name)) = Some name
kept_file held (Do Heads) = None
kept_file held (Do Waiting) = None
kept_file held (Do History) = None
kept_file held (Do (Show named)) = None
kept_file held (Do (Conflicts named)) = None
kept_file held (Do (Audit named)) = None
kept_file held (Do (Export hash name)) = option_map (λ chunk. name) (chunk_in held.kept.closed hash)
kept_file held (Do Stats) = None
kept_file held (Do (Bench count)) = None
kept_file held LongLine = None
kept_file held Syntax = None
kept_file held BadHash = None
