-- Runs in canonical order are those into which their list is grouped, so a list has one canonical spelling at most.
use Rattle.std.proofs.Common.{◌≡◌, ◌≢◌, ℕ, suc, zero, ◌≤◌, List, [], ◌∷◌, ◌++◌, length, map, Option, Some, None, Bool, true, false, cond, refl, sym, ap, ◌∙◌, arith, ⊎_elim}
use Rattle.std.specs.Prelude.{replicate}
use Rattle.std.specs.List.{flat_map, AllByRecursion}
use Rattle.std.specs.Str.{bytes_eq}
use Rattle.std.proofs.lemmas.Slice.Eq.{bytes_eq-Decides}
use Rattle.am_runs.specs.Runs.{Run, Repeat, Literal, Nulls, expansion, bytes_of, IsRun}
use Rattle.am_runs.specs.Canonical.{NoEqualNeighbours, last_of, last_entry, MayFollow, AreCanonical, Canon, and_literal, item_first, null_first, entry_first, onto, grouped}

onto-append : (xs ys : List (Option (List ℕ))) (runs : List Run) → onto (xs ++ ys) runs ≡ onto xs (onto ys runs)
onto-append [] ys runs = refl
onto-append (x ∷ xs) ys runs = ap (entry_first x) (onto-append xs ys runs)

same_bytes : (x : List ℕ) → bytes_eq x x ≡ true
same_bytes x = (bytes_eq-Decides x x).1 refl

pub not_true : (b : Bool) → (b ≡ true → ⊥) → b ≡ false
not_true true h = absurd (h refl)
not_true false h = refl

pub other_bytes : (x y : List ℕ) → x ≢ y → bytes_eq x y ≡ false
other_bytes x y h = not_true (bytes_eq x y) (λ e. h ((bytes_eq-Decides x y).0 e))

-- what the first of the runs begins with differs from this entry
abbrev pub Differs : Option (List ℕ) → List Run → Type 0
Differs entry [] = Unit {0}
Differs entry (Repeat n item ∷ runs) = entry ≢ Some item
Differs entry (Literal [] ∷ runs) = ⊥
Differs entry (Literal (x ∷ items) ∷ runs) = entry ≢ Some x
Differs entry (Nulls k ∷ runs) = entry ≢ None

abbrev pub NoLiteral : List Run → Type 0
NoLiteral [] = Unit {0}
NoLiteral (Literal items ∷ runs) = ⊥
NoLiteral (r ∷ runs) = Unit {0}

nulls_onto : (k : ℕ) (runs : List Run) → Differs None runs → onto (replicate (suc k) None) runs ≡ Nulls (suc k) ∷ runs
nulls_onto zero [] d = refl
nulls_onto zero (Repeat n y ∷ runs) d = refl
nulls_onto zero (Literal [] ∷ runs) d = absurd d
nulls_onto zero (Literal (y ∷ ys) ∷ runs) d = refl
nulls_onto zero (Nulls k ∷ runs) d = absurd (d refl)
nulls_onto (suc k) runs d = ap null_first (nulls_onto k runs d)

pub again : (n : ℕ) (x : List ℕ) (runs : List Run) → item_first x (Repeat n x ∷ runs) ≡ Repeat (suc n) x ∷ runs
again n x runs = ap (λ b. cond b (Repeat (suc n) x ∷ runs) (Literal (x ∷ []) ∷ Repeat n x ∷ runs)) (same_bytes x)

pub twice : (x : List ℕ) (ys : List (List ℕ)) (runs : List Run) → item_first x (Literal (x ∷ ys) ∷ runs) ≡ Repeat 2 x ∷ and_literal ys runs
twice x ys runs = ap (λ b. cond b (Repeat 2 x ∷ and_literal ys runs) (Literal (x ∷ x ∷ ys) ∷ runs)) (same_bytes x)

pub before_repeat : (n : ℕ) (x y : List ℕ) (runs : List Run) → x ≢ y → item_first x (Repeat n y ∷ runs) ≡ Literal (x ∷ []) ∷ Repeat n y ∷ runs
before_repeat n x y runs h = ap (λ b. cond b (Repeat (suc n) y ∷ runs) (Literal (x ∷ []) ∷ Repeat n y ∷ runs)) (other_bytes x y h)

pub before_literal : (x y : List ℕ) (ys : List (List ℕ)) (runs : List Run) → x ≢ y → item_first x (Literal (y ∷ ys) ∷ runs) ≡ Literal (x ∷ y ∷ ys) ∷ runs
before_literal x y ys runs h = ap (λ b. cond b (Repeat 2 y ∷ and_literal ys runs) (Literal (x ∷ y ∷ ys) ∷ runs)) (other_bytes x y h)

differ : (x y : List ℕ) → Some x ≢ Some y → x ≢ y
differ x y h e = h (ap Some e)

two_onto : (x : List ℕ) (runs : List Run) → Differs (Some x) runs → item_first x (item_first x runs) ≡ Repeat 2 x ∷ runs
two_onto x [] d = twice x [] []
two_onto x (Repeat n y ∷ runs) d = ap (item_first x) (before_repeat n x y runs (differ x y d)) ∙ twice x [] (Repeat n y ∷ runs)
two_onto x (Literal [] ∷ runs) d = absurd d
two_onto x (Literal (y ∷ ys) ∷ runs) d = ap (item_first x) (before_literal x y ys runs (differ x y d)) ∙ twice x (y ∷ ys) runs
two_onto x (Nulls k ∷ runs) d = twice x [] (Nulls k ∷ runs)

repeat_onto : (n : ℕ) (x : List ℕ) (runs : List Run) → Differs (Some x) runs → onto (replicate (suc (suc n)) (Some x)) runs ≡ Repeat (suc (suc n)) x ∷ runs
repeat_onto zero x runs d = two_onto x runs d
repeat_onto (suc n) x runs d = ap (item_first x) (repeat_onto n x runs d) ∙ again (suc (suc n)) x runs

one_onto : (x : List ℕ) (runs : List Run) → Differs (Some x) runs → NoLiteral runs → item_first x runs ≡ Literal (x ∷ []) ∷ runs
one_onto x [] d l = refl
one_onto x (Repeat n y ∷ runs) d l = before_repeat n x y runs (differ x y d)
one_onto x (Literal ys ∷ runs) d l = absurd l
one_onto x (Nulls k ∷ runs) d l = refl

literal_onto : (items : List (List ℕ)) (runs : List Run) → 1 ≤ length items → NoEqualNeighbours items → Differs (last_of items) runs → NoLiteral runs → onto (map Some items) runs ≡ Literal items ∷ runs
literal_onto [] runs h n d l = absurd (omega arith)
literal_onto (x ∷ []) runs h n d l = one_onto x runs d l
literal_onto (x ∷ y ∷ items) runs h n d l = ap (item_first x) (literal_onto (y ∷ items) runs (omega arith) n.1 d l) ∙ before_literal x y items runs n.0

-- what may follow differs from the last entry
differs : (end : List ℕ → Option ℕ) (r s : Run) (runs : List Run) → IsRun end s → MayFollow r s → Differs (last_entry r) (s ∷ runs)
differs end r (Repeat n item) runs p m = m.0
differs end r (Literal []) runs p m = absurd (omega (arith, p.0))
differs end r (Literal (x ∷ items)) runs p m = m.0
differs end r (Nulls k) runs p m = m.0

no_literal : (xs : List (List ℕ)) (s : Run) (runs : List Run) → MayFollow (Literal xs) s → NoLiteral (s ∷ runs)
no_literal xs (Repeat n item) runs m = tt
no_literal xs (Literal ys) runs m = absurd (m.1 tt)
no_literal xs (Nulls k) runs m = tt

run_onto : (end : List ℕ → Option ℕ) (r : Run) (runs : List Run) → IsRun end r → AllByRecursion (IsRun end) runs → AreCanonical (r ∷ runs) → onto (expansion r) runs ≡ r ∷ runs
run_onto end (Repeat zero x) runs p a c = absurd (omega (arith, p.0))
run_onto end (Repeat (suc zero) x) [] p a c = absurd (omega (arith, c))
run_onto end (Repeat (suc zero) x) (s ∷ runs) p a c = absurd (omega (arith, c.0))
run_onto end (Repeat (suc (suc n)) x) [] p a c = repeat_onto n x [] tt
run_onto end (Repeat (suc (suc n)) x) (s ∷ runs) p a c = repeat_onto n x (s ∷ runs) (differs end (Repeat (suc (suc n)) x) s runs a.0 c.1)
run_onto end (Literal xs) [] p a c = literal_onto xs [] p.0 c tt tt
run_onto end (Literal xs) (s ∷ runs) p a c = literal_onto xs (s ∷ runs) p.0 c.0 (differs end (Literal xs) s runs a.0 c.1) (no_literal xs s runs c.1)
run_onto end (Nulls zero) runs p a c = absurd (omega (arith, p.0))
run_onto end (Nulls (suc k)) [] p a c = nulls_onto k [] tt
run_onto end (Nulls (suc k)) (s ∷ runs) p a c = nulls_onto k (s ∷ runs) (differs end (Nulls (suc k)) s runs a.0 c.1)

rest_canonical : (r : Run) (runs : List Run) → AreCanonical (r ∷ runs) → AreCanonical runs
rest_canonical r [] c = tt
rest_canonical r (s ∷ runs) c = c.2

-- runs in canonical order are those of their list
pub grouped-canonical : (end : List ℕ → Option ℕ) (runs : List Run) → AllByRecursion (IsRun end) runs → AreCanonical runs → grouped (flat_map expansion runs) ≡ runs
grouped-canonical end [] p c = refl
grouped-canonical end (r ∷ runs) p c =
    onto-append (expansion r) (flat_map expansion runs) []
    ∙ ap (onto (expansion r)) (grouped-canonical end runs p.1 (rest_canonical r runs c))
    ∙ run_onto end r runs p.0 p.1 c

-- at most one list of bytes is the canonical spelling
pub Canon-one : (end : List ℕ → Option ℕ) (a b : List ℕ) (list : List (Option (List ℕ))) → Canon end a list → Canon end b list → a ≡ b
Canon-one end a b list p q = ⊎_elim
    (λ n. ⊎_elim (λ m. n.0 ∙ sym m.0) (λ m. absurd (m.0 n.1)) q)
    (λ n. ⊎_elim (λ m. absurd (n.0 m.1))
    (λ m. n.1.3 ∙ ap (flat_map bytes_of) (sym (grouped-canonical end n.1.0 n.1.1 n.1.2) ∙ ap grouped (sym n.1.4 ∙ m.1.4) ∙ grouped-canonical end m.1.0 m.1.1 m.1.2) ∙ sym m.1.3) q)
    p
