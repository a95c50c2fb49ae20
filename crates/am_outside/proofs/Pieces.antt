-- Bytes that are given piece by piece.
use Rattle.std.proofs.Common.{◌≡◌, ℕ, ◌+◌, List, ◌++◌, take, drop, refl}
use Rattle.std.proofs.lemmas.List.{take-append-drop, drop-drop}

-- a piece that is the next n bytes, and what is left behind it
pub given : (bytes piece : List ℕ) (at n : ℕ) → piece ≡ take n (drop at bytes) → drop at bytes ≡ piece ++ drop (at + n) bytes
given bytes piece at n e = rw (e, ← drop-drop n at bytes, take-append-drop n (drop at bytes)) refl
