-- How far a file was read.
--     MatchBad fault P            P holds of what is wrong with the chunk, where something is
--     IsWrongWith only chunk f    the fault f is that of the chunk, wherever it stands first
--     GivesPairs only chunk pairs the chunk gives the changes of the pairs, which stand behind their own hashes and may come
--     Appends P old new           new is old, and behind it pairs of which P holds
--     ReadsOne only bytes rest P  the bytes are a chunk and the rest, and P holds of the chunk
--     HasRead only bytes rest pairs k    the bytes are chunks and the rest, the chunks give the pairs, and counted from 1 the
--                                 next one has number k
use Rattle.std.specs.Prelude.{ℕ, ◌≡◌, ◌+◌, Bool, List, ◌++◌, length, flat_map, All, ⊤}
use Rattle.std.specs.List.{AllZip}
use Rattle.am_types.specs.declared.Hash.{Hash}
use Rattle.am_types.specs.declared.Change.{Change}
use Rattle.am_types.specs.Deliver.{MayCome}
use Rattle.am_frame.specs.Frames.{Chunk, IsChunk, chunk_bytes}
use Rattle.am_delivery.specs.Waiting.{members_of}
use Rattle.am_rebuild.specs.Documents.{changes_of, AreOwn}
use Rattle.am_store.specs.declared.fault.LoadFault.{LoadFault}
use Rattle.am_store.specs.declared.chunk.ChunkFault.{ChunkFault}
use Rattle.am_store.specs.declared.chunk.ChunkFault.TheVariants.{Bad, NoMemory}
use Rattle.am_store.specs.Files.{Holds, HasFault}

abbrev pub MatchBad : ChunkFault → (LoadFault → Type 0) → Type 0
MatchBad (Bad fault) P = P fault
MatchBad NoMemory P = ⊤

abbrev pub IsWrongWith : Bool → Chunk → LoadFault → Type 0
IsWrongWith only chunk fault = (rest : List ℕ) → HasFault only (chunk_bytes chunk ++ rest) fault

pub record GivesPairs (only : Bool) (chunk : Chunk) (pairs : List (Hash × Change)) : Type 0 where
  pub holds : Holds only chunk (changes_of pairs)
  pub own_hashes : AreOwn pairs
  pub may_come : All MayCome (members_of pairs)

abbrev pub Appends : (List (Hash × Change) → Type 0) → List (Hash × Change) → List (Hash × Change) → Type 0
Appends P old new = (more : List (Hash × Change)) × (new ≡ old ++ more) × P more

pub record ReadsOne (bytes rest : List ℕ) (P : Chunk → Type 0) : Type 0 where
  pub chunk : Chunk
  pub is_chunk : IsChunk chunk
  pub bytes_are : bytes ≡ chunk_bytes chunk ++ rest
  pub has : P chunk

pub record HasRead (only : Bool) (bytes rest : List ℕ) (pairs : List (Hash × Change)) (k : ℕ) : Type 0 where
  pub chunks : List Chunk
  pub lists : List (List Change)
  pub bytes_are : bytes ≡ flat_map chunk_bytes chunks ++ rest
  pub each : All IsChunk chunks
  pub hold : AllZip (Holds only) chunks lists
  pub are : changes_of pairs ≡ flat_map (λ l. l) lists
  pub own_hashes : AreOwn pairs
  pub may_come : All MayCome (members_of pairs)
  pub number : k ≡ length chunks + 1
