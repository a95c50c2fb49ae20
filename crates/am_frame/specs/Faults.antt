-- What may be wrong with the first chunk of some bytes. Each fault is told by what the bytes are, and no two apply at
-- once; the first chunk of a file that is bad comes last.
use Rattle.std.specs.Prelude.{◌≡◌, ◌≢◌, ℕ, ◌<◌, ◌+◌, ◌^◌, List, ◌∷◌, ◌++◌, length, take, All, flat_map, ◌⊎◌}
use Rattle.am_leb.specs.Leb.{uleb}
use Rattle.am_frame.specs.Frames.{magic, frame_with, check_of, IsCut, Chunk, IsChunk, chunk_bytes, IsFile}
use Rattle.am_frame.specs.declared.fault.FrameFault.{FrameFault}
use Rattle.am_frame.specs.declared.fault.FrameFault.TheVariants.{BadMagic, Truncated, BadLength, BadChecksum, ChunkType, CompressedChunk}

-- the bytes, at most four, are no front of the magic
abbrev pub IsBadMagic : List ℕ → Type 0
IsBadMagic bytes = take 4 bytes ≢ take (length bytes) magic

-- with some more bytes they are a frame
pub record IsTruncated (bytes : List ℕ) : Type 0 where
  pub checksum : List ℕ
  pub kind : ℕ
  pub contents : List ℕ
  pub more : List ℕ
  pub checksum_is : length checksum ≡ 4
  pub within : length contents < 2 ^ 64
  pub some : 0 < length more
  pub whole : bytes ++ more ≡ frame_with checksum kind contents

-- no shortest number of 64 bits begins the bytes, whatever follows them
abbrev pub BeginsNoNumber : List ℕ → Type 0
BeginsNoNumber bytes = (more : List ℕ) (n : ℕ) (rest : List ℕ) → n < 2 ^ 64 → bytes ++ more ≢ uleb n ++ rest

-- behind the type stands no length
pub record IsBadLength (bytes : List ℕ) : Type 0 where
  pub checksum : List ℕ
  pub kind : ℕ
  pub rest : List ℕ
  pub checksum_is : length checksum ≡ 4
  pub bytes_are : bytes ≡ magic ++ (checksum ++ kind ∷ rest)
  pub bad : BeginsNoNumber rest

-- a frame of which P holds begins the bytes
abbrev pub Cuts : List ℕ → (List ℕ → ℕ → List ℕ → Type 0) → Type 0
Cuts bytes P = (checksum : List ℕ) × (kind : ℕ) × (contents : List ℕ) × (rest : List ℕ) × IsCut bytes checksum kind contents rest × P checksum kind contents

-- this is wrong with the first chunk of the bytes
abbrev pub HasFault : List ℕ → FrameFault → Type 0
HasFault bytes BadMagic = IsBadMagic bytes
HasFault bytes Truncated = IsTruncated bytes
HasFault bytes BadLength = IsBadLength bytes
HasFault bytes BadChecksum = Cuts bytes (λ checksum kind contents. checksum ≢ check_of kind contents)
HasFault bytes (ChunkType type) = Cuts bytes (λ checksum kind contents. (checksum ≡ check_of kind contents) × (kind ≡ type) × (2 < type))
HasFault bytes CompressedChunk = Cuts bytes (λ checksum kind contents. (checksum ≡ check_of kind contents) × (kind ≡ 2))

-- chunks, and then bytes whose first chunk has this fault; counted from 1, that is number k
pub record FirstBad (bytes : List ℕ) (k : ℕ) (fault : FrameFault) : Type 0 where
  pub before : List Chunk
  pub rest : List ℕ
  pub bytes_are : bytes ≡ flat_map chunk_bytes before ++ rest
  pub each : All IsChunk before
  pub more : 0 < length rest
  pub bad : HasFault rest fault
  pub number : k ≡ length before + 1

-- the bytes are a file of chunks, or a first one is bad
abbrev pub IsRead : List ℕ → Type 0
IsRead bytes = ((chunks : List Chunk) × IsFile bytes chunks) ⊎ ((k : ℕ) × (fault : FrameFault) × FirstBad bytes k fault)
