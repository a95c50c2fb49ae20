-- What a file of changes and documents holds. (Automerge Binary Document Format, "Chunk Container", "Document Chunks" and
-- "Change Chunks". Which fault is told where several apply is a choice of amstore's profile.)
--     HoldsChange chunk c         the chunk is that of the fine change c
--     HoldsDocument chunk cs      the chunk is that of a document that tells of the changes cs and states their heads
--     Holds only chunk cs         the chunk gives the changes cs
--     IsFile only bytes cs        the bytes are chunks, and cs the changes that these give, one after another
--     AreOfNoTable, TellNoHistory, TellOtherHeads h     what may be wrong with the contents of a document
--     HasFault only bytes fault   this is wrong with the first chunk of the bytes, and nothing that is judged before it
--     FirstBad only bytes k fault     chunks that give changes, and then a chunk with this fault; counted from 1 it has
--                                 number k
-- `only` says that the file may have change chunks only, so that each document is refused.
use Rattle.std.specs.Prelude.{ℕ, ◌≡◌, ◌<◌, ◌+◌, ◌⊎◌, Bool, true, false, List, [], ◌∷◌, ◌++◌, length, flat_map, All, ⊤}
use Rattle.std.specs.List.{AllZip}
use Rattle.am_types.specs.declared.Change.{Change}
use Rattle.am_types.specs.declared.Hash.{Hash}
use Rattle.am_types.specs.declared.Table.{Table}
use Rattle.am_types.specs.Fine.{Fine}
use Rattle.am_types.specs.Members.{heads}
use Rattle.am_types.specs.Documents.{History}
use Rattle.am_frame.specs.Frames.{Chunk, IsChunk, chunk_of, chunk_bytes}
use Rattle.am_frame.specs.Frames as frames
use Rattle.am_frame.specs.Faults as frame
use Rattle.am_frame.specs.declared.FrameFault.TheVariants as frame_fault
use Rattle.am_change.specs.Contents.{contents}
use Rattle.am_change.specs.Fronts.{IsCompressed}
use Rattle.am_change.specs.Hashes.{with_hashes}
use Rattle.am_doc.specs.Fronts as document
use Rattle.am_doc.specs.Spelling.{SpellsTable}
use Rattle.am_rebuild.specs.Judged.{IsLeastApart}
use Rattle.am_store.specs.declared.fault.LoadFault.{LoadFault}
use Rattle.am_store.specs.declared.fault.LoadFault.TheVariants.{BadMagic, Truncated, BadLength, BadChecksum, ChunkType, CompressedChunk, DocumentHere, CompressedColumn, BadChange, BadDocument, NoHistory, HeadsMismatch}

pub record HoldsChange (chunk : Chunk) (c : Change) : Type 0 where
  pub kind : chunk.kind ≡ 1
  pub fine : Fine c
  pub contents_are : chunk.contents ≡ contents c

-- each change stands behind its own hash in that history
pub record HoldsDocument (chunk : Chunk) (cs : List Change) : Type 0 where
  pub kind : chunk.kind ≡ 0
  pub plain : document.IsCompressed chunk.contents → ⊥
  pub table : Table
  pub spelled : SpellsTable chunk.contents table
  pub history : History table (with_hashes cs)
  pub heads_are : heads (with_hashes cs) ≡ table.heads

-- a change chunk gives its change, and a document those of which it tells
abbrev pub Holds : Bool → Chunk → List Change → Type 0
Holds true chunk cs = (c : Change) × HoldsChange chunk c × (cs ≡ c ∷ [])
Holds false chunk cs = ((c : Change) × HoldsChange chunk c × (cs ≡ c ∷ [])) ⊎ HoldsDocument chunk cs

pub record IsFile (only : Bool) (bytes : List ℕ) (cs : List Change) : Type 0 where
  pub chunks : List Chunk
  pub lists : List (List Change)
  pub file : frames.IsFile bytes chunks
  pub hold : AllZip (Holds only) chunks lists
  pub are : cs ≡ flat_map (λ l. l) lists

-- a chunk of this type begins the bytes, and P holds of its contents
pub record Begins (kind : ℕ) (P : List ℕ → Type 0) (bytes : List ℕ) : Type 0 where
  pub contents : List ℕ
  pub rest : List ℕ
  pub is_chunk : IsChunk (chunk_of kind contents)
  pub bytes_are : bytes ≡ chunk_bytes (chunk_of kind contents) ++ rest
  pub has : P contents

-- the contents are not compressed, and those of no fine change
pub record AreOfNoChange (bytes : List ℕ) : Type 0 where
  pub plain : IsCompressed bytes → ⊥
  pub none : (c : Change) → Fine c → bytes ≡ contents c → ⊥

-- ---- documents

-- the contents are not compressed, and spell no table
pub record AreOfNoTable (bytes : List ℕ) : Type 0 where
  pub plain : document.IsCompressed bytes → ⊥
  pub none : (t : Table) → SpellsTable bytes t → ⊥

-- the table that is spelled is that of no changes
pub record TellNoHistory (bytes : List ℕ) : Type 0 where
  pub plain : document.IsCompressed bytes → ⊥
  pub table : Table
  pub spelled : SpellsTable bytes table
  pub none : (cs : List Change) → History table (with_hashes cs) → ⊥

-- it is that of changes with other heads than it states, and h is the least hash that is among just one of the two
pub record TellOtherHeads (h : Hash) (bytes : List ℕ) : Type 0 where
  pub plain : document.IsCompressed bytes → ⊥
  pub table : Table
  pub spelled : SpellsTable bytes table
  pub cs : List Change
  pub history : History table (with_hashes cs)
  pub apart : IsLeastApart (heads (with_hashes cs)) table.heads h

-- a document begins the bytes, and may stand there, and P holds of its contents
abbrev pub BeginsDocument : Bool → (List ℕ → Type 0) → List ℕ → Type 0
BeginsDocument true P bytes = ⊥
BeginsDocument false P bytes = Begins 0 P bytes

-- a document begins the bytes, where none may stand
abbrev pub IsDocumentHere : Bool → List ℕ → Type 0
IsDocumentHere true bytes = Begins 0 (λ contents. ⊤) bytes
IsDocumentHere false bytes = ⊥

-- ---- faults

abbrev pub HasFault : Bool → List ℕ → LoadFault → Type 0
HasFault only bytes BadMagic = frame.HasFault bytes frame_fault.BadMagic
HasFault only bytes Truncated = frame.HasFault bytes frame_fault.Truncated
HasFault only bytes BadLength = frame.HasFault bytes frame_fault.BadLength
HasFault only bytes BadChecksum = frame.HasFault bytes frame_fault.BadChecksum
HasFault only bytes (ChunkType type) = frame.HasFault bytes (frame_fault.ChunkType type)
HasFault only bytes CompressedChunk = frame.HasFault bytes frame_fault.CompressedChunk
HasFault only bytes DocumentHere = IsDocumentHere only bytes
HasFault only bytes CompressedColumn = Begins 1 IsCompressed bytes ⊎ BeginsDocument only document.IsCompressed bytes
HasFault only bytes BadChange = Begins 1 AreOfNoChange bytes
HasFault only bytes BadDocument = BeginsDocument only AreOfNoTable bytes
HasFault only bytes NoHistory = BeginsDocument only TellNoHistory bytes
HasFault only bytes (HeadsMismatch h) = BeginsDocument only (TellOtherHeads h) bytes

pub record FirstBad (only : Bool) (bytes : List ℕ) (k : ℕ) (fault : LoadFault) : Type 0 where
  pub before : List Chunk
  pub lists : List (List Change)
  pub rest : List ℕ
  pub bytes_are : bytes ≡ flat_map chunk_bytes before ++ rest
  pub each : All IsChunk before
  pub hold : AllZip (Holds only) before lists
  pub more : 0 < length rest
  pub bad : HasFault only rest fault
  pub number : k ≡ length before + 1
