-- The replies to show, conflicts and audit.
--     visible C hs              the visible entries at the members of C with the hashes hs
--     named_or_heads named C    the hashes that are named, or the heads of C where none is
--     reading form named C      what is printed at these
use Rattle.std.specs.Prelude.{ℕ, ◌∷◌, List, [], ◌++◌, codes, not, nat_le, find, Option, None, Some, if◌then◌else◌}
use Rattle.serde_json.specs.Data.{Data, depth}
use Rattle.serde_json.specs.Written.{compact_text}
use Rattle.am_types.specs.declared.Hash.{Hash}
use Rattle.am_types.specs.declared.Entry.{Entry}
use Rattle.am_types.specs.Operations.{all_operations}
use Rattle.am_types.specs.Members.{Member, changes, holds, heads}
use Rattle.am_types.specs.Ancestors.{ancestors}
use Rattle.am_types.specs.Replay.{replay}
use Rattle.am_json.specs.Shown.{json_data}
use Rattle.am_json.specs.declared.Form.{Form}
use Rattle.am_session.specs.Replies.{newline, refused, unknown}

abbrev pub visible : List Member → List Hash → List Entry
visible C hs = replay (all_operations (changes (ancestors C hs)))

-- a text may nest so deep
abbrev pub DEEPEST : ℕ
DEEPEST = 127

abbrev pub printed : Data → List ℕ
printed shown = if nat_le (depth shown) DEEPEST then compact_text shown ++ newline ∷ [] else refused (codes "deep")

-- the first of some hashes that isn't held is told, where there is one
abbrev pub reading_by : Option Hash → Form → List Entry → List ℕ
reading_by (Some hash) form entries = unknown hash
reading_by None form entries = printed (json_data form entries)

abbrev pub reading_at : Form → List Hash → List Member → List ℕ
reading_at form hs C = reading_by (find (λ h. not (holds C h)) hs) form (visible C hs)

-- the heads of a set are held
abbrev pub named_or_heads : List Hash → List Member → List Hash
named_or_heads [] C = heads C
named_or_heads (h ∷ hs) C = h ∷ hs

abbrev pub reading : Form → List Hash → List Member → List ℕ
reading form named C = reading_at form (named_or_heads named C) C
