-- Bytes that all say "more" are the front of a number: the byte 1 ends it.
use Rattle.std.proofs.Common.{◌≡◌, ℕ, ◌+◌, ◌*◌, ◌^◌, ◌%◌, ◌/◌, ◌<◌, ◌≤◌, List, [], ◌∷◌, ◌++◌, length, sym, subst, arith}
use Rattle.std.proofs.Math.Nat.{pow-succ'}
use Rattle.am_leb.specs.Leb.{unsigned_value, IsHigh}
use Rattle.am_leb.proofs.Laws.{Spells, Spells-one, Spells-cons}

abbrev pub completed_value : List ℕ → ℕ
completed_value bytes = unsigned_value (bytes ++ 1 ∷ [])

completed_value-pos : (bytes : List ℕ) → 1 ≤ completed_value bytes
completed_value-pos [] = omega arith
completed_value-pos (b ∷ bytes) = omega (arith, completed_value-pos bytes)

pub completed_value-lt : (bytes : List ℕ) → completed_value bytes < 2 * 128 ^ length bytes
completed_value-lt [] = omega arith
completed_value-lt (b ∷ bytes) = rw pow-succ' (omega (arith, completed_value-lt bytes))

pub completed : (bytes : List ℕ) → IsHigh bytes → Spells (bytes ++ 1 ∷ []) (completed_value bytes)
completed [] high = Spells-one 1 (omega arith)
completed (b ∷ bytes) high =
    let v = completed_value bytes in
    let n = b % 128 + 128 * v in
    let large : 128 ≤ n = omega (arith, completed_value-pos bytes) in
    let below : n / 128 ≡ v = omega arith in
    let digit : n % 128 + 128 ≡ b = omega (arith, high.0, high.1) in
    subst (λ d. Spells (d ∷ (bytes ++ 1 ∷ [])) n) digit (Spells-cons n (bytes ++ 1 ∷ []) large (subst (λ m. Spells (bytes ++ 1 ∷ []) m) (sym below) (completed bytes high.2)))
