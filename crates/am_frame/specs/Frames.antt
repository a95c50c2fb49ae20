-- The chunks of a file and their frames (Automerge Binary Document Format, chunks). Words in this order: a frame and
-- its parts, a chunk, a file of chunks.
use Rattle.std.specs.Prelude.{◌≡◌, ℕ, ◌<◌, ◌^◌, List, [], ◌∷◌, ◌++◌, length, take, All, flat_map}
use Rattle.am_leb.specs.Leb.{uleb}
use Rattle.sha2.specs.Sha256.{sha256}

-- the four bytes with which each chunk begins
abbrev pub magic : List ℕ
magic = 0x85 ∷ 0x6f ∷ 0x4a ∷ 0x83 ∷ []

-- bytes behind their length
abbrev pub sized : List ℕ → List ℕ
sized bytes = uleb (length bytes) ++ bytes

-- what the hash of a chunk is taken over: its type, its length, its contents
abbrev pub covered : ℕ → List ℕ → List ℕ
covered kind contents = kind ∷ sized contents

-- a frame with some checksum
abbrev pub frame_with : List ℕ → ℕ → List ℕ → List ℕ
frame_with checksum kind contents = magic ++ checksum ++ covered kind contents

-- the right checksum, the first four bytes of the hash
abbrev pub check_of : ℕ → List ℕ → List ℕ
check_of kind contents = take 4 (sha256 (covered kind contents))

-- a frame with its right checksum
abbrev pub framed : ℕ → List ℕ → List ℕ
framed kind contents = frame_with (check_of kind contents) kind contents

pub record Chunk : Type 0 where
  pub kind : ℕ
  pub contents : List ℕ

abbrev pub chunk_of : ℕ → List ℕ → Chunk
chunk_of kind contents = record { kind = kind; contents = contents }

-- a document or a change, of a length that 64 bits can tell
abbrev pub IsChunk : Chunk → Type 0
IsChunk chunk = (chunk.kind < 2) × (length chunk.contents < 2 ^ 64)

abbrev pub chunk_bytes : Chunk → List ℕ
chunk_bytes chunk = framed chunk.kind chunk.contents

-- the bytes begin with this frame, whatever its checksum and its type
pub record IsCut (bytes checksum : List ℕ) (kind : ℕ) (contents rest : List ℕ) : Type 0 where
  pub checksum_is : length checksum ≡ 4
  pub within : length contents < 2 ^ 64
  pub bytes_are : bytes ≡ frame_with checksum kind contents ++ rest

-- the bytes are these chunks, one after another
pub record IsFile (bytes : List ℕ) (chunks : List Chunk) : Type 0 where
  pub bytes_are : bytes ≡ flat_map chunk_bytes chunks
  pub each : All IsChunk chunks
