-- A file that is read chunk by chunk.
use Rattle.std.proofs.Common.{◌≡◌, ℕ, ◌<◌, List, [], ◌∷◌, ◌++◌, length, sym, ap, ◌∙◌, arith, append_assoc}
use Rattle.std.specs.Prelude.{All, flat_map}
use Rattle.std.proofs.lemmas.List.{flat_map_more}
use Rattle.std.proofs.lemmas.Grind.{elements}
use Rattle.am_frame.specs.Frames.{Chunk, IsChunk, chunk_bytes}

pub all-more : (chunks : List Chunk) (chunk : Chunk) → All IsChunk chunks → IsChunk chunk → All IsChunk (chunks ++ chunk ∷ [])
all-more chunks chunk all is = grind (arith, elements)

pub bytes-more : (bytes rest later : List ℕ) (chunks : List Chunk) (chunk : Chunk) → bytes ≡ flat_map chunk_bytes chunks ++ rest → rest ≡ chunk_bytes chunk ++ later → bytes ≡ flat_map chunk_bytes (chunks ++ chunk ∷ []) ++ later
bytes-more bytes rest later chunks chunk so_far next =
    so_far ∙ ap (λ r. flat_map chunk_bytes chunks ++ r) next ∙ sym (append_assoc (flat_map chunk_bytes chunks) (chunk_bytes chunk) later) ∙ ap (λ b. b ++ later) (flat_map_more chunk_bytes [] chunks chunk)
