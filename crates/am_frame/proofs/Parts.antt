-- The parts of a frame, and that no other parts give the same bytes.
use Rattle.std.proofs.Common.{◌≡◌, ℕ, ◌+◌, ◌≤◌, List, ◌++◌, length, take, drop, get_or, sym, ap, ◌∙◌, arith, append_assoc, length-append, length-take-le}
use Rattle.std.proofs.lemmas.List.{take-append-drop}
use Rattle.std.proofs.Math.Seq.{take-append_seam, drop-append_seam}
use Rattle.std.specs.Prelude.{bytes_eq, true, not}
use Rattle.std.proofs.lemmas.Slice.Eq.{bytes_eq-Decides}
use Rattle.am_leb.specs.Leb.{uleb}
use Rattle.sha2.specs.Sha256.{sha256}
use Rattle.sha2.proofs.Facts256.{length-sha256}
use Rattle.am_frame.specs.Frames.{sized, covered, IsCut, Chunk, IsChunk, chunk_bytes}

pub cut_parts : (bytes body contents rest : List ℕ) (n size : ℕ) → take size bytes ≡ uleb n → size ≤ length bytes → body ≡ drop size bytes → contents ≡ take n body → rest ≡ drop n body → length contents ≡ n →
    (bytes ≡ sized contents ++ rest) × (size + length contents ≡ length (sized contents))
cut_parts bytes body contents rest n size front fits back c r count =
    let joined : body ≡ contents ++ rest = sym (ap (λ x. x ++ rest) c ∙ ap (λ x. take n body ++ x) r ∙ take-append-drop n body) in
    let spelled : take size bytes ≡ uleb (length contents) = front ∙ ap uleb (sym count) in
    let long : size ≡ length (uleb (length contents)) = sym (length-take-le size bytes fits) ∙ ap length spelled in (
      sym (take-append-drop size bytes) ∙ ap (λ x. x ++ drop size bytes) spelled ∙ ap (λ x. uleb (length contents) ++ x) (sym back ∙ joined) ∙ sym (append_assoc (uleb (length contents)) contents rest),
      ap (λ k. k + length contents) long ∙ sym (length-append (uleb (length contents)) contents),
    )

pub only_parts : (bytes body contents rest others more : List ℕ) (n size : ℕ) → n ≡ length others → size ≡ length (uleb (length others)) → body ≡ drop size bytes → contents ≡ take n body → rest ≡ drop n body → bytes ≡ sized others ++ more → (contents ≡ others) × (rest ≡ more)
only_parts bytes body contents rest others more n size count long back c r e =
    let all : bytes ≡ uleb (length others) ++ (others ++ more) = e ∙ append_assoc (uleb (length others)) others more in
    let joined : body ≡ others ++ more = back ∙ ap (λ k. drop k bytes) long ∙ ap (drop (length (uleb (length others)))) all ∙ drop-append_seam (uleb (length others)) (others ++ more) in (
      c ∙ ap (λ k. take k body) count ∙ ap (take (length others)) joined ∙ take-append_seam others more,
      r ∙ ap (λ k. drop k body) count ∙ ap (drop (length others)) joined ∙ drop-append_seam others more,
    )

pub frame_parts : (bytes head body behind checksum contents rest : List ℕ) (kind : ℕ) → head ≡ drop 4 bytes → body ≡ drop 4 head → behind ≡ drop 1 body → IsCut bytes checksum kind contents rest →
    (take 4 head ≡ checksum) × (get_or body 0 0 ≡ kind) × (behind ≡ sized contents ++ rest)
frame_parts bytes head body behind checksum contents rest kind h b l cut =
    let tail = covered kind contents ++ rest in
    let top : head ≡ checksum ++ tail = h ∙ ap (drop 4) cut.bytes_are ∙ append_assoc checksum (covered kind contents) rest in
    let low : body ≡ tail = b ∙ ap (drop 4) top ∙ ap (λ k. drop k (checksum ++ tail)) (sym cut.checksum_is) ∙ drop-append_seam checksum tail in (
      ap (take 4) top ∙ ap (λ k. take k (checksum ++ tail)) (sym cut.checksum_is) ∙ take-append_seam checksum tail,
      ap (λ x. get_or x 0 0) low,
      l ∙ ap (drop 1) low,
    )

pub chunk_cut : (bytes : List ℕ) (chunk : Chunk) (rest : List ℕ) → IsChunk chunk → bytes ≡ chunk_bytes chunk ++ rest → IsCut bytes (take 4 (sha256 (covered chunk.kind chunk.contents))) chunk.kind chunk.contents rest
chunk_cut bytes chunk rest is e =
    let four : 4 ≤ length (sha256 (covered chunk.kind chunk.contents)) = omega (arith, length-sha256 (covered chunk.kind chunk.contents)) in
    record {
      checksum_is = length-take-le 4 (sha256 (covered chunk.kind chunk.contents)) four;
      within = is.1;
      bytes_are = e;
    }

pub not_same : (a b : List ℕ) → true ≡ not (bytes_eq a b) → a ≡ b → ⊥
not_same a b differ same = let e : bytes_eq a b ≡ true = (bytes_eq-Decides a b).1 same in cc
