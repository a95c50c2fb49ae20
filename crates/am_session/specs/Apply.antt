-- The reply to apply, and what it does to the two sets of a store.
--     report_text added waiting rejected     how many changes joined and how many wait, and then what was rejected
--     Delivers old cs reply new              the changes cs are delivered to the sets old, and leave the sets new
--     Applies only file old reply new        the changes of a file are delivered to what a session holds, or the file is
--                                            refused; `only` says whether documents are refused even where they can be read
use Rattle.std.specs.Prelude.{◌≡◌, ℕ, ◌∷◌, List, [], ◌++◌, ◌-◌, length, codes, decimal, Bool, Option, None, Some, flat_map, IsPermutation, ◌⊎◌}
use Rattle.am_types.specs.declared.Change.{Change}
use Rattle.am_types.specs.declared.Limit.{Limit}
use Rattle.am_types.specs.declared.Limit.TheVariants.{Changes, Operations, Preds, Links}
use Rattle.am_types.specs.declared.Why.{Why}
use Rattle.am_types.specs.declared.Why.TheVariants.{HashClash, SeqClash, SeqGap, StartLow, BadReference, Full}
use Rattle.am_types.specs.declared.Rejected.{Rejected}
use Rattle.am_types.specs.Deliver.{Sets, deliver}
use Rattle.am_change.specs.Hashes.{with_hashes}
use Rattle.am_store.specs.Kept.{Kept}
use Rattle.am_store.specs.Files.{IsFile, FirstBad}
use Rattle.am_store.specs.declared.LoadFault.{LoadFault}
use Rattle.am_store.specs.declared.LoadFault.TheVariants.{BadMagic, Truncated, BadLength, BadChecksum, ChunkType, CompressedChunk, DocumentHere, CompressedColumn, BadChange, BadDocument, NoHistory, HeadsMismatch}
use Rattle.am_session.specs.Session.{Held, with_kept}
use Rattle.am_session.specs.Replies.{newline, refused, absent, hash_text}

-- ---- what is told of a delivery

abbrev pub limit_word : Limit → List ℕ
limit_word Changes = codes "changes"
limit_word Operations = codes "operations"
limit_word Preds = codes "preds"
limit_word Links = codes "links"

-- why a change was rejected
abbrev pub why_text : Why → List ℕ
why_text HashClash = codes "hash-clash"
why_text (SeqClash hash) = codes "seq-clash " ++ hash_text hash
why_text SeqGap = codes "seq-gap"
why_text (StartLow hash) = codes "start-low " ++ hash_text hash
why_text (BadReference place) = codes "bad-reference " ++ decimal place
why_text (Full limit) = codes "full " ++ limit_word limit

abbrev pub rejected_line : Rejected → List ℕ
rejected_line one = codes "rejected " ++ hash_text one.hash ++ codes " " ++ why_text one.why ++ newline ∷ []

abbrev pub report_text : ℕ → ℕ → List Rejected → List ℕ
report_text added waiting rejected = codes "ok added " ++ decimal added ++ codes " waiting " ++ decimal waiting ++ codes " rejected " ++ decimal (length rejected) ++ newline ∷ [] ++ flat_map rejected_line rejected

-- what the delivery of cs to these sets leaves
abbrev pub outcome : Kept → List Change → Sets
outcome old cs = deliver old.closed old.waiting (with_hashes cs)

-- the sets new are those that the delivery leaves, in some order
pub record Delivers (old : Kept) (cs : List Change) (reply : List ℕ) (new : Kept) : Type 0 where
  pub closed : IsPermutation (outcome old cs).closed new.closed
  pub waiting : IsPermutation (outcome old cs).waiting new.waiting
  pub reply_is : reply ≡ report_text (length (outcome old cs).closed - length old.closed) (length (outcome old cs).waiting) (outcome old cs).rejected

-- ---- files

-- the word for what is wrong with a chunk
abbrev pub load_word : LoadFault → List ℕ
load_word BadMagic = codes "bad-magic"
load_word Truncated = codes "truncated"
load_word BadLength = codes "bad-length"
load_word BadChecksum = codes "bad-checksum"
load_word (ChunkType type) = codes "chunk-type " ++ decimal type
load_word CompressedChunk = codes "compressed-chunk"
load_word DocumentHere = codes "document-here"
load_word CompressedColumn = codes "compressed-column"
load_word BadChange = codes "bad-change"
load_word BadDocument = codes "bad-document"
load_word NoHistory = codes "no-history"
load_word (HeadsMismatch hash) = codes "heads-mismatch " ++ hash_text hash

-- the reply where chunk number k of a file is bad
abbrev pub bad_file : LoadFault → ℕ → List ℕ
bad_file fault k = refused (load_word fault ++ codes " chunk " ++ decimal k)

abbrev pub Applies : Bool → Option (List ℕ) → Held → List ℕ → Held → Type 0
Applies only None old reply new = (reply ≡ absent) × (new ≡ old)
Applies only (Some bytes) old reply new = ((cs : List Change) × IsFile only bytes cs × Delivers old.kept cs reply new.kept × (new ≡ with_kept old new.kept))
    ⊎ ((k : ℕ) × (fault : LoadFault) × FirstBad only bytes k fault × (reply ≡ bad_file fault k) × (new ≡ old))
