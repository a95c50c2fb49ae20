use Rattle.std.proofs.Common.{◌≡◌, ◌≤◌, ◌+◌, ◌++◌, List, length, string_bytes}
use Rattle.std.specs.Prelude.{All, flat_map}
use Rattle.am_frame.specs.Frames.{Chunk, IsChunk, chunk_bytes}
use Rattle.am_session.specs.Listing.{chunk_line}
use Rattle.am_session.proofs.listing.list_frames.Given as goal

abbrev pub invariant-chunks : goal.invariant-chunks
invariant-chunks l = record {
  read : (chunks : List Chunk) × (l.fn.bytes ≡ flat_map chunk_bytes chunks ++ l.rest) × All IsChunk chunks × (string_bytes l.lines ≡ flat_map chunk_line chunks) × (l.count ≡ length chunks);
  bound : l.count + length l.rest ≤ length l.fn.bytes;
}

abbrev pub decreases-chunks : goal.decreases-chunks
decreases-chunks l = length l.rest
