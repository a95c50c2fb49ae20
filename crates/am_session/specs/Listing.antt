-- The reply to frames.
use Rattle.std.specs.Prelude.{◌≡◌, ℕ, ◌∷◌, List, [], ◌++◌, length, codes, decimal, Option, None, Some, eqb, flat_map, ◌⊎◌, if◌then◌else◌}
use Rattle.sha2.specs.Sha256.{sha256}
use Rattle.hex.specs.Hex.{encode_lower}
use Rattle.am_frame.specs.Frames.{Chunk, covered, IsFile}
use Rattle.am_frame.specs.Faults.{FirstBad}
use Rattle.am_frame.specs.declared.FrameFault.{FrameFault}
use Rattle.am_frame.specs.declared.FrameFault.TheVariants.{BadMagic, Truncated, BadLength, BadChecksum, ChunkType, CompressedChunk}
use Rattle.am_session.specs.Replies.{newline, refused, absent}

-- the word for a type of chunk
abbrev pub kind_word : ℕ → List ℕ
kind_word kind = if eqb kind 0 then codes "document" else codes "change"

-- type, length and hash of a chunk
abbrev pub chunk_line : Chunk → List ℕ
chunk_line chunk = kind_word chunk.kind ++ codes " " ++ decimal (length chunk.contents) ++ codes " " ++ encode_lower (sha256 (covered chunk.kind chunk.contents)) ++ newline ∷ []

abbrev pub listing : List Chunk → List ℕ
listing chunks = codes "ok " ++ decimal (length chunks) ++ newline ∷ [] ++ flat_map chunk_line chunks

-- the word for what is wrong with a chunk
abbrev pub fault_word : FrameFault → List ℕ
fault_word BadMagic = codes "bad-magic"
fault_word Truncated = codes "truncated"
fault_word BadLength = codes "bad-length"
fault_word BadChecksum = codes "bad-checksum"
fault_word (ChunkType type) = codes "chunk-type " ++ decimal type
fault_word CompressedChunk = codes "compressed-chunk"

-- the reply where chunk number k of a file is bad
abbrev pub bad_chunk : FrameFault → ℕ → List ℕ
bad_chunk fault k = refused (fault_word fault ++ codes " chunk " ++ decimal k)

-- of a file its chunks, or the first that is bad and why
abbrev pub Lists : Option (List ℕ) → List ℕ → Type 0
Lists None reply = reply ≡ absent
Lists (Some bytes) reply = ((chunks : List Chunk) × IsFile bytes chunks × (reply ≡ listing chunks)) ⊎ ((k : ℕ) × (fault : FrameFault) × FirstBad bytes k fault × (reply ≡ bad_chunk fault k))
