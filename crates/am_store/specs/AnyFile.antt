-- What is found of any bytes.
--     IsTold only chunk       the chunk gives some changes, or has some fault, wherever it stands first
--     IsBad only bytes        some chunk of the bytes is the first bad one
--     IsRead only bytes       the bytes are a file of changes and documents, with `only` of changes alone, or have a first
--                             bad chunk
use Rattle.std.specs.Prelude.{ℕ, ◌⊎◌, Bool, List}
use Rattle.am_types.specs.declared.Change.{Change}
use Rattle.am_frame.specs.Frames.{Chunk}
use Rattle.am_store.specs.declared.fault.LoadFault.{LoadFault}
use Rattle.am_store.specs.Files.{Holds, IsFile, FirstBad}
use Rattle.am_store.specs.Reading.{IsWrongWith}

abbrev pub IsTold : Bool → Chunk → Type 0
IsTold only chunk = ((cs : List Change) × Holds only chunk cs) ⊎ ((fault : LoadFault) × IsWrongWith only chunk fault)

abbrev pub IsBad : Bool → List ℕ → Type 0
IsBad only bytes = (k : ℕ) × (fault : LoadFault) × FirstBad only bytes k fault

abbrev pub IsRead : Bool → List ℕ → Type 0
IsRead only bytes = ((cs : List Change) × IsFile only bytes cs) ⊎ IsBad only bytes
