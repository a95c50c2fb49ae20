-- The bytes of a chunk are those of no other.
use Rattle.std.proofs.Common.{◌≡◌, ℕ, ◌<◌, ◌^◌, List, ◌++◌, length, take, drop, refl, sym, ap, ◌∙◌, append_assoc, Ok}
use Rattle.std.specs.Prelude.{Result}
use Rattle.std.specs.Result.{result_unwrap_or}
use Rattle.std.proofs.lemmas.List.{append_cancel_left}
use Rattle.std.proofs.Math.Seq.{take-append_seam, drop-append_seam}
use Rattle.am_leb.specs.Leb.{uleb}
use Rattle.am_leb.specs.declared.LebFault.{LebFault}
use Rattle.am_leb.proofs.Answering.{only}
use Rattle.am_frame.specs.Frames.{sized, Chunk, IsChunk, chunk_bytes}
use Rattle.am_frame.proofs.Parts.{frame_parts, chunk_cut}

fields : (a b c d : ℕ) → ◌≡◌ {A = Result (ℕ × ℕ) LebFault} (Ok (a, b)) (Ok (c, d)) → a ≡ c
fields a b c d e = ap (λ r. (result_unwrap_or {T = ℕ × ℕ} r (0, 0)).0) e

same_front : (a b r q : List ℕ) → length a ≡ length b → a ++ r ≡ b ++ q → (a ≡ b) × (r ≡ q)
same_front a b r q n e = (
  sym (take-append_seam a r) ∙ ap (take (length a)) e ∙ ap (λ k. take k (b ++ q)) n ∙ take-append_seam b q,
  sym (drop-append_seam a r) ∙ ap (drop (length a)) e ∙ ap (λ k. drop k (b ++ q)) n ∙ drop-append_seam b q,
)

pub one_sized : (a b r q : List ℕ) → length a < 2 ^ 64 → length b < 2 ^ 64 → sized a ++ r ≡ sized b ++ q → (a ≡ b) × (r ≡ q)
one_sized a b r q la lb e =
    let left = only (sized a ++ r) (length a) (a ++ r) la (append_assoc (uleb (length a)) a r) in
    let right = only (sized a ++ r) (length b) (b ++ q) lb (e ∙ append_assoc (uleb (length b)) b q) in
    let n = fields _ _ _ _ (sym left ∙ right) in
    let all : uleb (length a) ++ (a ++ r) ≡ uleb (length a) ++ (b ++ q) =
    sym (append_assoc (uleb (length a)) a r) ∙ e ∙ append_assoc (uleb (length b)) b q ∙ ap (λ k. uleb k ++ (b ++ q)) (sym n) in
    same_front a b r q n (append_cancel_left (uleb (length a)) (a ++ r) (b ++ q) all)

pub one_chunk : (c d : Chunk) (r q : List ℕ) → IsChunk c → IsChunk d → chunk_bytes c ++ r ≡ chunk_bytes d ++ q → (c ≡ d) × (r ≡ q)
one_chunk c d r q is js e =
    let bytes = chunk_bytes c ++ r in
    let head = drop 4 bytes in
    let body = drop 4 head in
    let left = frame_parts bytes head body (drop 1 body) _ c.contents r c.kind refl refl refl (chunk_cut bytes c r is refl) in
    let right = frame_parts bytes head body (drop 1 body) _ d.contents q d.kind refl refl refl (chunk_cut bytes d q js e) in
    let rest = one_sized c.contents d.contents r q is.1 js.1 (sym left.2 ∙ right.2) in
    let kinds = sym left.1 ∙ right.1 in
    (λ i. record { kind = kinds i; contents = rest.0 i }, rest.1)
