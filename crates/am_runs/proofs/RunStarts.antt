-- The place behind a run's number, once the number was read: of nulls, of a repeat, or of a literal run.
use borrow.Author.Tests.{ltb-false}
use lib.Signed.{lt_z}
use Rattle.std.proofs.Common.{◌≡◌, ℕ, suc, zero, ◌-◌, true, false, List, [], length, take, drop, Option, Some, Result, Ok, ℤ, pos, negsuc, nat_abs, refl, sym, ap, ◌∙◌, arith}
use Rattle.std.proofs.lemmas.List.{take_rest}
use Rattle.am_leb.specs.Reading.{first_unsigned, first_signed}
use Rattle.am_leb.specs.declared.LebFault.{LebFault}
use Rattle.am_runs.specs.declared.place.Kind.TheVariants as kinds
use Rattle.am_runs.specs.Walking.{Place, open_nulls, open_repeat, open_at, open_by, open_run}

-- the bytes behind the number
abbrev pub behind_number : List ℕ → ℕ → List ℕ
behind_number bytes len = take (length bytes - len) (drop len bytes)

pub read_start : (end : List ℕ → Option ℕ) (bytes : List ℕ) (r : Result (ℤ × ℕ) LebFault) (n : ℤ) (len : ℕ) (p : Option Place) → r ≡ first_signed bytes → r ≡ Ok (n, len) → p ≡ open_at end n (behind_number bytes len) → p ≡ open_run end bytes
read_start end bytes r n len p exact is opened =
    opened ∙ ap (open_at end n) (take_rest bytes len) ∙ ap (open_by end bytes) (sym is ∙ exact)

pub nulls_start : (end : List ℕ → Option ℕ) (tail : List ℕ) (n : ℤ) (p : Option Place) → n ≡ pos 0 → p ≡ open_nulls tail (first_unsigned tail) → p ≡ open_at end n tail
nulls_start end tail n p none opened = opened ∙ sym (ap (λ (z : ℤ). open_at end z tail) none)

positive_start : (end : List ℕ → Option ℕ) (tail : List ℕ) (n : ℤ) (p : Option Place) → lt_z (pos 0) n ≡ true → p ≡ open_repeat (nat_abs n) tail (end tail) → p ≡ open_at end n tail
positive_start end tail (pos zero) p more opened = absurd (cc)
positive_start end tail (pos (suc n)) p more opened = opened
positive_start end tail (negsuc n) p more opened = absurd (cc)

pub repeat_start : (end : List ℕ → Option ℕ) (tail : List ℕ) (n held : ℤ) (p : Option Place) → held ≡ n → lt_z (pos 0) held ≡ true → p ≡ open_repeat (nat_abs held) tail (end tail) → p ≡ open_at end n tail
repeat_start end tail n held p same more opened =
    positive_start end tail held p more opened ∙ ap (λ (z : ℤ). open_at end z tail) same

abbrev literal_place : ℕ → List ℕ → Place
literal_place count tail = record { kind = kinds.Literal; count = count; item = []; rest = tail }

negative_start : (end : List ℕ → Option ℕ) (tail : List ℕ) (n : ℤ) (count : ℕ) → (n ≡ pos 0 → ⊥) → lt_z (pos 0) n ≡ false → count ≡ nat_abs n → Some (literal_place count tail) ≡ open_at end n tail
negative_start end tail (pos zero) count some less same = absurd (some refl)
negative_start end tail (pos (suc n)) count some less same = absurd (omega (arith, ltb-false 0 (suc n) less))
negative_start end tail (negsuc n) count some less same = ap (λ (k : ℕ). Some (literal_place k tail)) same

pub literal_start : (end : List ℕ → Option ℕ) (tail : List ℕ) (n held : ℤ) (count : ℕ) → held ≡ n → (n ≡ pos 0 → ⊥) → lt_z (pos 0) held ≡ false → count ≡ nat_abs held → Some (record { kind = kinds.Literal; count = count; item = []; rest = tail }) ≡ open_at end n tail
literal_start end tail n held count same some less counted =
    negative_start end tail held count (λ none. some (sym same ∙ none)) less counted ∙ ap (λ (z : ℤ). open_at end z tail) same
