-- What reading the first chunk finds is all that stands there.
use Rattle.std.proofs.Common.{◌≡◌, ◌++◌, ◌↔◌, ℕ, List, ap, subst, sym, ◌∙◌, Result, Ok, Err}
use Rattle.std.specs.Prelude.{IfOk, IsOkAnd, IsErrOf}
use Rattle.sha2.specs.Sha256.{sha256}
use Rattle.am_frame.specs.Frames.{covered, Chunk, IsChunk, chunk_of, chunk_bytes}
use Rattle.am_frame.specs.Faults.{HasFault}
use Rattle.am_frame.specs.Judged.{Judges}
use Rattle.am_frame.specs.declared.frame.Frame.{Frame}
use Rattle.am_frame.specs.declared.fault.FrameFault.{FrameFault}
use Rattle.am_frame.proofs.OneChunk.{one_chunk}
use Rattle.am_frame.proofs.FaultLaws.{one_fault, none_at_a_chunk}

pub found : (b : List ℕ) (r : Result Frame FrameFault) → Judges b r
    → IfOk r (λ frame. IsChunk (chunk_of frame.kind frame.contents.now) × (b ≡ chunk_bytes (chunk_of frame.kind frame.contents.now) ++ frame.rest.now) × (frame.hash.0 ≡ sha256 (covered frame.kind frame.contents.now)))
found b (Ok frame) j = ((j.0, j.1.within), j.1.bytes_are, j.2)
found b (Err fault) j = tt

pub only : (b : List ℕ) (r : Result Frame FrameFault) (chunk : Chunk) (rest : List ℕ) → Judges b r → IsChunk chunk → b ≡ chunk_bytes chunk ++ rest
    → IsOkAnd r (λ frame. (frame.kind ≡ chunk.kind) × (frame.contents.now ≡ chunk.contents) × (frame.rest.now ≡ rest))
only b (Ok frame) chunk rest j is e =
    let same = one_chunk (chunk_of frame.kind frame.contents.now) chunk frame.rest.now rest (j.0, j.1.within) is (sym j.1.bytes_are ∙ e) in
    (ap (λ c. c.kind) same.0, ap (λ c. c.contents) same.0, same.1)
only b (Err fault) chunk rest j is e = absurd (none_at_a_chunk b chunk rest fault is e j)

pub exact : (b : List ℕ) (r : Result Frame FrameFault) (fault : FrameFault) → Judges b r → IsErrOf r fault ↔ HasFault b fault
exact b (Ok frame) fault j = (
  λ e. absurd (let never : ◌≡◌ {A = Result Frame FrameFault} (Ok frame) (Err fault) = e in cc),
  λ bad. absurd (none_at_a_chunk b (chunk_of frame.kind frame.contents.now) frame.rest.now fault (j.0, j.1.within) j.1.bytes_are bad),
)
exact b (Err first) fault j = (
  λ e. let same : first ≡ fault = cc in subst (λ f. HasFault b f) same j,
  λ bad. ap Err (one_fault b first fault j bad),
)
