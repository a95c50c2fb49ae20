use Rattle.std.proofs.Common.{◌≡◌, ◌++◌, List, length}
use Rattle.std.specs.Prelude.{All, flat_map}
use Rattle.am_frame.specs.Frames.{Chunk, IsChunk, chunk_bytes}
use Rattle.am_frame.proofs.reading.some_reading.Given as goal

abbrev pub invariant-chunks : goal.invariant-chunks
invariant-chunks l = (chunks : List Chunk) × (l.fn.bytes ≡ flat_map chunk_bytes chunks ++ l.rest) × All IsChunk chunks

abbrev pub decreases-chunks : goal.decreases-chunks
decreases-chunks l = length l.rest
