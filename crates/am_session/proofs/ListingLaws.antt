-- A file that is read chunk by chunk.
use Rattle.std.proofs.Common.{◌≡◌, ℕ, ◌+◌, ◌<◌, List, [], ◌∷◌, ◌++◌, length, sym, ap, ◌∙◌, arith, append_assoc, length-append, inr, Some}
use Rattle.std.specs.Prelude.{All, flat_map, Result, IfOk}
use Rattle.std.proofs.lemmas.List.{flat_map_more}
use Rattle.std.proofs.lemmas.Grind.{elements}
use Rattle.std.proofs.lemmas.Result.{IfOk-weaker}
use Rattle.am_frame.specs.Frames.{Chunk, IsChunk, chunk_bytes}
use Rattle.am_frame.specs.Faults.{HasFault}
use Rattle.am_frame.specs.declared.FrameFault.{FrameFault}
use Rattle.am_session.specs.Listing.{Lists, chunk_line, bad_chunk}

pub all-more : (chunks : List Chunk) (chunk : Chunk) → All IsChunk chunks → IsChunk chunk → All IsChunk (chunks ++ chunk ∷ [])
all-more chunks chunk all is = grind (arith, elements)

pub bytes-more : (bytes rest later : List ℕ) (chunks : List Chunk) (chunk : Chunk) → bytes ≡ flat_map chunk_bytes chunks ++ rest → rest ≡ chunk_bytes chunk ++ later → bytes ≡ flat_map chunk_bytes (chunks ++ chunk ∷ []) ++ later
bytes-more bytes rest later chunks chunk so_far next =
    so_far ∙ ap (λ r. flat_map chunk_bytes chunks ++ r) next ∙ sym (append_assoc (flat_map chunk_bytes chunks) (chunk_bytes chunk) later) ∙ ap (λ b. b ++ later) (flat_map_more chunk_bytes [] chunks chunk)

pub lines-more : (lines new : List ℕ) (chunks : List Chunk) (chunk : Chunk) → lines ≡ flat_map chunk_line chunks → new ≡ lines ++ chunk_line chunk → new ≡ flat_map chunk_line (chunks ++ chunk ∷ [])
lines-more lines new chunks chunk so_far next = next ∙ ap (λ b. b ++ chunk_line chunk) so_far ∙ flat_map_more chunk_line [] chunks chunk

pub count-more : (chunks : List Chunk) (chunk : Chunk) (n : ℕ) → n ≡ length chunks → n + 1 ≡ length (chunks ++ chunk ∷ [])
count-more chunks chunk n e = omega (arith, length-append chunks (chunk ∷ []))

pub bad-reply : {E : Type 0} (r : Result (List ℕ) E) (bytes rest : List ℕ) (chunks : List Chunk) (n : ℕ) (fault : FrameFault) → bytes ≡ flat_map chunk_bytes chunks ++ rest → All IsChunk chunks → n ≡ length chunks → 0 < length rest → HasFault rest fault →
    IfOk r (λ reply. reply ≡ bad_chunk fault (n + 1)) → IfOk r (λ reply. Lists (Some bytes) reply)
bad-reply r bytes rest chunks n fault are each count more bad =
    IfOk-weaker r _ _ (λ reply e. inr (n + 1, fault, record { before = chunks; rest = rest; bytes_are = are; each = each; more = more; bad = bad; number = ap (λ k. k + 1) count }, e))
