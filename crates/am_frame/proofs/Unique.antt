-- Bytes are the frames of chunks in one way at most.
use Rattle.std.proofs.Common.{◌≡◌, ℕ, suc, ◌+◌, List, [], ◌∷◌, ◌++◌, length, refl, sym, ap, subst, ◌∙◌, arith, append_assoc, append-nil}
use Rattle.std.specs.Prelude.{All, flat_map}
use Rattle.am_frame.specs.Frames.{Chunk, IsChunk, chunk_bytes, IsFile}
use Rattle.am_frame.specs.Faults.{HasFault, FirstBad}
use Rattle.am_frame.specs.declared.fault.FrameFault.{FrameFault}
use Rattle.am_frame.proofs.OneChunk.{one_chunk}
use Rattle.am_frame.proofs.FaultLaws.{one_fault, none_at_a_chunk}

-- the bytes begin with no chunk
abbrev BeginsNoChunk : List ℕ → Type 0
BeginsNoChunk bytes = (chunk : Chunk) (rest : List ℕ) → IsChunk chunk → bytes ≡ chunk_bytes chunk ++ rest → ⊥

no_chunk : (b : List ℕ) (fault : FrameFault) → HasFault b fault → BeginsNoChunk b
no_chunk b fault bad chunk rest is e = none_at_a_chunk b chunk rest fault is e bad

later : (x : Chunk) (xs : List Chunk) → All IsChunk (x ∷ xs) → All IsChunk xs
later x xs all k d lt = all (suc k) d (omega arith)

first : (x : Chunk) (xs : List Chunk) → All IsChunk (x ∷ xs) → IsChunk x
first x xs all = all 0 x (omega arith)

-- two readings up to something that is no chunk are one
pub one_reading : (xs ys : List Chunk) (r q : List ℕ) → All IsChunk xs → All IsChunk ys → flat_map chunk_bytes xs ++ r ≡ flat_map chunk_bytes ys ++ q → BeginsNoChunk r → BeginsNoChunk q → (xs ≡ ys) × (r ≡ q)
one_reading [] [] r q a b e m n = (refl, e)
one_reading [] (y ∷ ys) r q a b e m n = absurd (m y (flat_map chunk_bytes ys ++ q) (first y ys b) (e ∙ append_assoc (chunk_bytes y) (flat_map chunk_bytes ys) q))
one_reading (x ∷ xs) [] r q a b e m n = absurd (n x (flat_map chunk_bytes xs ++ r) (first x xs a) (sym e ∙ append_assoc (chunk_bytes x) (flat_map chunk_bytes xs) r))
one_reading (x ∷ xs) (y ∷ ys) r q a b e m n =
    let step = one_chunk x y (flat_map chunk_bytes xs ++ r) (flat_map chunk_bytes ys ++ q) (first x xs a) (first y ys b)
    (sym (append_assoc (chunk_bytes x) (flat_map chunk_bytes xs) r) ∙ e ∙ append_assoc (chunk_bytes y) (flat_map chunk_bytes ys) q) in
    let rest = one_reading xs ys r q (later x xs a) (later y ys b) step.1 m n in
    (λ i. step.0 i ∷ rest.0 i, rest.1)

nothing : BeginsNoChunk []
nothing chunk rest is e = cc

pub one_file : (bytes : List ℕ) (xs ys : List Chunk) → IsFile bytes xs → IsFile bytes ys → xs ≡ ys
one_file bytes xs ys f g = (one_reading xs ys [] [] f.each g.each (ap (λ b. b ++ []) (sym f.bytes_are ∙ g.bytes_are)) nothing nothing).0

pub one_bad : (bytes : List ℕ) (j k : ℕ) (fault other : FrameFault) → FirstBad bytes j fault → FirstBad bytes k other → (j ≡ k) × (fault ≡ other)
one_bad bytes j k fault other f g =
    let same = one_reading f.before g.before f.rest g.rest f.each g.each (sym f.bytes_are ∙ g.bytes_are) (no_chunk f.rest fault f.bad) (no_chunk g.rest other g.bad) in
    (f.number ∙ ap (λ xs. length xs + 1) same.0 ∙ sym g.number, one_fault g.rest fault other (subst (λ r. HasFault r fault) same.1 f.bad) g.bad)

pub never_both : (bytes : List ℕ) (xs : List Chunk) (k : ℕ) (fault : FrameFault) → IsFile bytes xs → FirstBad bytes k fault → ⊥
never_both bytes xs k fault f g =
    let same = one_reading xs g.before [] g.rest f.each g.each (append-nil (flat_map chunk_bytes xs) ∙ sym f.bytes_are ∙ g.bytes_are) nothing (no_chunk g.rest fault g.bad) in
    omega (arith, g.more, ap length same.1)
