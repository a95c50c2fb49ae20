-- Runs with one more entry: what they expand to, and their bytes.
use Rattle.std.proofs.Common.{◌≡◌, ℕ, suc, ◌+◌, List, [], ◌∷◌, ◌++◌, length, Some, None, pos, negsuc, neg_ℤ, refl, sym, ap, ◌∙◌, arith, append_assoc, length-append}
use Rattle.std.specs.Prelude.{replicate}
use Rattle.std.proofs.lemmas.List.{append-nil, map-append, replicate_more}
use Rattle.am_leb.specs.Leb.{leb}
use Rattle.am_runs.specs.Runs.{Repeat, Literal, Nulls, expansion, bytes_of}
use Rattle.am_runs.proofs.Opening.{joined}

-- entries at the end
pub expansion-null : (k : ℕ) → expansion (Nulls (suc k)) ≡ expansion (Nulls k) ++ None ∷ []
expansion-null k = ap (λ n. replicate n None) (let q : suc k ≡ k + 1 = omega arith in q) ∙ sym (replicate_more k None)

pub expansion-repeat : (n : ℕ) (x : List ℕ) → expansion (Repeat (suc n) x) ≡ expansion (Repeat n x) ++ Some x ∷ []
expansion-repeat n x = ap (λ n. replicate n (Some x)) (let q : suc n ≡ n + 1 = omega arith in q) ∙ sym (replicate_more n (Some x))

pub expansion-literal : (items : List (List ℕ)) (x : List ℕ) → expansion (Literal (items ++ x ∷ [])) ≡ expansion (Literal items) ++ Some x ∷ []
expansion-literal items x = map-append Some items (x ∷ [])

pub joined-push : (items : List (List ℕ)) (x : List ℕ) → joined (items ++ x ∷ []) ≡ joined items ++ x
joined-push [] x = append-nil x
joined-push (y ∷ items) x = ap (λ s. y ++ s) (joined-push items x) ∙ sym (append_assoc y (joined items) x)

-- the header of a literal run of n + 1 items
pub literal_bytes : (items : List (List ℕ)) (x : List ℕ) (n : ℕ) → length items ≡ n → bytes_of (Literal (items ++ x ∷ [])) ≡ leb (negsuc n) ++ (joined items ++ x)
literal_bytes items x n e = ap (λ z. leb z ++ joined (items ++ x ∷ [])) (number (length (items ++ x ∷ [])) (omega (arith, length-append items (x ∷ [])))) ∙ ap (λ s. leb (negsuc n) ++ s) (joined-push items x)
  where
    number : (m : ℕ) → m ≡ suc n → neg_ℤ (pos m) ≡ negsuc n
    number m h = rw h refl
