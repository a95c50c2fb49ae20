-- Two judgements of the same columns agree, and columns are found whether or not the empty ones are listed.
use Rattle.std.proofs.Common.{◌≡◌, ℕ, ◌≤◌, true, false, cond, List, [], ◌∷◌, Result, Ok, Err, refl, sym, ap, ◌∙◌, arith, inl, inr}
use Rattle.std.specs.Prelude.{nat_eq}
use Rattle.std.proofs.lemmas.Bool.Decides.{nat_tests}
use Rattle.am_colmeta.specs.declared.fault.ColumnFault.{ColumnFault}
use Rattle.am_colmeta.specs.declared.fault.ColumnFault.TheVariants.{CompressedColumn, NotAscending, UnknownColumn, Width}
use Rattle.am_colmeta.specs.Metadata.{listing, not_empty, column_at, Ascend, AscendFrom}
use Rattle.am_colmeta.specs.Judgement.{AreKnown, IsFirstUnknown, AreCut, Judges}
use Rattle.am_colmeta.proofs.Cutting.{cut_is_only, cut_fills}

pub one_cut : (listed : List (ℕ × ℕ)) (bytes : List ℕ) (xs ys : List (ℕ × List ℕ)) → AreCut listed bytes xs → AreCut listed bytes ys → xs ≡ ys
one_cut listed bytes xs ys h k = cut_is_only listed bytes xs h ∙ sym (cut_is_only listed bytes ys k)

first_unknown-one : (known : List ℕ) (listed : List (ℕ × ℕ)) (m n : ℕ) → IsFirstUnknown known listed m → IsFirstUnknown known listed n → m ≡ n
first_unknown-one known [] m n h k = absurd h
first_unknown-one known (pair ∷ listed) m n (inl h) (inl k) = sym h.1 ∙ k.1
first_unknown-one known (pair ∷ listed) m n (inl h) (inr k) = absurd (h.0 k.0)
first_unknown-one known (pair ∷ listed) m n (inr h) (inl k) = absurd (k.0 h.0)
first_unknown-one known (pair ∷ listed) m n (inr h) (inr k) = first_unknown-one known listed m n h.1 k.1

not_known : (known : List ℕ) (listed : List (ℕ × ℕ)) (n : ℕ) → IsFirstUnknown known listed n → AreKnown known listed → ⊥
not_known known [] n h k = h
not_known known (pair ∷ listed) n (inl h) k = h.0 k.0
not_known known (pair ∷ listed) n (inr h) k = not_known known listed n h.1 k.1

pub one_judgement : (listed : List (ℕ × ℕ)) (bytes known : List ℕ) (x y : Result (List (ℕ × List ℕ)) ColumnFault) → Judges listed bytes known x → Judges listed bytes known y → x ≡ y
one_judgement listed bytes known (Err CompressedColumn) (Err CompressedColumn) h k = refl
one_judgement listed bytes known (Err CompressedColumn) (Err NotAscending) h k = absurd (k.0 h)
one_judgement listed bytes known (Err CompressedColumn) (Err (UnknownColumn n)) h k = absurd (k.0 h)
one_judgement listed bytes known (Err CompressedColumn) (Err Width) h k = absurd (k.0 h)
one_judgement listed bytes known (Err CompressedColumn) (Ok ys) h k = absurd (k.0 h)
one_judgement listed bytes known (Err NotAscending) (Err CompressedColumn) h k = absurd (h.0 k)
one_judgement listed bytes known (Err NotAscending) (Err NotAscending) h k = refl
one_judgement listed bytes known (Err NotAscending) (Err (UnknownColumn n)) h k = absurd (h.1 k.1)
one_judgement listed bytes known (Err NotAscending) (Err Width) h k = absurd (h.1 k.1)
one_judgement listed bytes known (Err NotAscending) (Ok ys) h k = absurd (h.1 k.1)
one_judgement listed bytes known (Err (UnknownColumn m)) (Err CompressedColumn) h k = absurd (h.0 k)
one_judgement listed bytes known (Err (UnknownColumn m)) (Err NotAscending) h k = absurd (k.1 h.1)
one_judgement listed bytes known (Err (UnknownColumn m)) (Err (UnknownColumn n)) h k = ap (λ z. Err (UnknownColumn z)) (first_unknown-one known listed m n h.2 k.2)
one_judgement listed bytes known (Err (UnknownColumn m)) (Err Width) h k = absurd (not_known known listed m h.2 k.2)
one_judgement listed bytes known (Err (UnknownColumn m)) (Ok ys) h k = absurd (not_known known listed m h.2 k.2)
one_judgement listed bytes known (Err Width) (Err CompressedColumn) h k = absurd (h.0 k)
one_judgement listed bytes known (Err Width) (Err NotAscending) h k = absurd (k.1 h.1)
one_judgement listed bytes known (Err Width) (Err (UnknownColumn n)) h k = absurd (not_known known listed n k.2 h.2)
one_judgement listed bytes known (Err Width) (Err Width) h k = refl
one_judgement listed bytes known (Err Width) (Ok ys) h k = absurd (h.3 (cut_fills listed bytes ys k.3))
one_judgement listed bytes known (Ok xs) (Err CompressedColumn) h k = absurd (h.0 k)
one_judgement listed bytes known (Ok xs) (Err NotAscending) h k = absurd (k.1 h.1)
one_judgement listed bytes known (Ok xs) (Err (UnknownColumn n)) h k = absurd (not_known known listed n k.2 h.2)
one_judgement listed bytes known (Ok xs) (Err Width) h k = absurd (k.3 (cut_fills listed bytes xs h.3))
one_judgement listed bytes known (Ok xs) (Ok ys) h k = ap (λ z. Ok z) (one_cut listed bytes xs ys h.3 k.3)

-- ---- empty columns

not_listed : (columns : List (ℕ × List ℕ)) (before specification : ℕ) → AscendFrom before (listing columns) → specification ≤ before → column_at (not_empty columns) specification ≡ []
not_listed [] before specification h le = refl
not_listed ((s, []) ∷ columns) before specification h le = not_listed columns s specification h.1 (omega (arith, h.0))
not_listed ((s, (byte ∷ bytes)) ∷ columns) before specification h le =
    let other : nat_eq s specification ≡ false = grind (arith, nat_tests, h.0) in
    ap (λ b. cond b (byte ∷ bytes) (column_at (not_empty columns) specification)) other ∙ not_listed columns s specification h.1 (omega (arith, h.0))

found_from : (columns : List (ℕ × List ℕ)) (before specification : ℕ) → AscendFrom before (listing columns) → column_at (not_empty columns) specification ≡ column_at columns specification
found_from [] before specification h = refl
found_from ((s, []) ∷ columns) before specification h =
    elim (nat_eq s specification) as (λ b. nat_eq s specification ≡ b → column_at (not_empty columns) specification ≡ cond b [] (column_at columns specification)) [
      | true ↦ λ t. not_listed columns s specification h.1 (grind (arith, nat_tests))
      | false ↦ λ t. found_from columns s specification h.1
    ] refl
found_from ((s, (byte ∷ bytes)) ∷ columns) before specification h =
    ap (λ l. cond (nat_eq s specification) (byte ∷ bytes) l) (found_from columns s specification h.1)

pub found_without_empty : (columns : List (ℕ × List ℕ)) (specification : ℕ) → Ascend (listing columns) → column_at (not_empty columns) specification ≡ column_at columns specification
found_without_empty [] specification h = refl
found_without_empty ((s, []) ∷ columns) specification h =
    elim (nat_eq s specification) as (λ b. nat_eq s specification ≡ b → column_at (not_empty columns) specification ≡ cond b [] (column_at columns specification)) [
      | true ↦ λ t. not_listed columns s specification h (grind (arith, nat_tests))
      | false ↦ λ t. found_from columns s specification h
    ] refl
found_without_empty ((s, (byte ∷ bytes)) ∷ columns) specification h =
    ap (λ l. cond (nat_eq s specification) (byte ∷ bytes) l) (found_from columns s specification h)
