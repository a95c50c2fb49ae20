-- Columns that are taken off in ascending order, and what is found of those that are left.
use Rattle.std.proofs.Common.{ℕ, ◌≡◌, ◌<◌, ◌≤◌, List, [], ◌∷◌, false, true, refl, ap, ◌∙◌, arith}
use Rattle.std.specs.Prelude.{nat_eq, cond}
use Rattle.std.proofs.lemmas.Bool.Decides.{nat_tests}
use Rattle.am_colmeta.specs.Metadata.{listing, column_at, Ascend, AscendFrom}

-- the first column is none that is asked for later
pub passed : (first s : ℕ) (bytes : List ℕ) (columns : List (ℕ × List ℕ)) → first < s → column_at ((first, bytes) ∷ columns) s ≡ column_at columns s
passed first s bytes columns h =
    let other : nat_eq first s ≡ false = grind (arith, nat_tests) in
    ap (λ b. cond b bytes (column_at columns s)) other

pub found_first : (first s : ℕ) (bytes : List ℕ) (columns : List (ℕ × List ℕ)) → first ≡ s → column_at ((first, bytes) ∷ columns) s ≡ bytes
found_first first s bytes columns h =
    let same : nat_eq first s ≡ true = grind (arith, nat_tests) in
    ap (λ b. cond b bytes (column_at columns s)) same

none_from : (columns : List (ℕ × List ℕ)) (before s : ℕ) → AscendFrom before (listing columns) → s ≤ before → column_at columns s ≡ []
none_from [] before s h le = refl
none_from ((first, bytes) ∷ columns) before s h le =
    let other : nat_eq first s ≡ false = grind (arith, nat_tests, h.0) in
    ap (λ b. cond b bytes (column_at columns s)) other ∙ none_from columns first s h.1 (omega (arith, h.0))

-- a column below the first isn't listed
pub not_before : (first s : ℕ) (bytes : List ℕ) (columns : List (ℕ × List ℕ)) → Ascend (listing ((first, bytes) ∷ columns)) → s < first → column_at ((first, bytes) ∷ columns) s ≡ []
not_before first s bytes columns h lt =
    let other : nat_eq first s ≡ false = grind (arith, nat_tests) in
    ap (λ b. cond b bytes (column_at columns s)) other ∙ none_from columns first s h (omega arith)
