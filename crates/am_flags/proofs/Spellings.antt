-- The lenient relation: it holds for one list of a length at most, and for canonical spellings.
use Rattle.std.proofs.Common.{◌≡◌, ℕ, List, [], ◌∷◌, length, Bool, false, refl, sym, ap, ◌∙◌, arith, inl, inr, ⊎_elim, length-append}
use Rattle.std.specs.List.{flat_map}
use Rattle.std.proofs.lemmas.List.{nil_from_length}
use Rattle.am_leb.specs.Leb.{uleb}
use Rattle.am_flags.specs.Flags.{AreFalse, CanonFlags, CanonMaybe, JoinsFlags, SpellsFlags, alternating}
use Rattle.am_leb.proofs.Laws.{length_uleb-pos}
use Rattle.am_flags.proofs.Counts.{one_counts, numbers_first}

pub JoinsFlags-from_canon : (bytes : List ℕ) (flags : List Bool) → CanonFlags bytes flags → JoinsFlags bytes flags
JoinsFlags-from_canon bytes flags c = (c.0, c.1, c.3, c.4)

pub SpellsFlags-from_canon : (bytes : List ℕ) (flags : List Bool) → CanonMaybe bytes flags → SpellsFlags bytes flags
SpellsFlags-from_canon bytes flags c = ⊎_elim (λ n. inl n) (λ n. inr (JoinsFlags-from_canon bytes flags n.1)) c

pub one_joined : (bytes : List ℕ) (xs ys : List Bool) → JoinsFlags bytes xs → JoinsFlags bytes ys → xs ≡ ys
one_joined bytes xs ys p q = p.3 ∙ ap (alternating false) (one_counts p.0 q.0 (numbers_first p.0 p.1) (numbers_first q.0 q.1) (sym p.2 ∙ q.2)) ∙ sym q.3

no_counts : (counts : List ℕ) → [] ≡ flat_map uleb counts → counts ≡ []
no_counts [] e = refl
no_counts (k ∷ counts) e = absurd (omega (arith, ap length e, length-append (uleb k) (flat_map uleb counts), length_uleb-pos k))

none_joined : (bytes : List ℕ) (flags : List Bool) → bytes ≡ [] → JoinsFlags bytes flags → flags ≡ []
none_joined bytes flags e j = j.3 ∙ ap (alternating false) (no_counts j.0 (sym e ∙ j.2))

same_falses : (xs ys : List Bool) → AreFalse xs → AreFalse ys → length xs ≡ length ys → xs ≡ ys
same_falses [] [] p q l = refl
same_falses [] (y ∷ ys) p q l = absurd (omega arith)
same_falses (x ∷ xs) [] p q l = absurd (omega arith)
same_falses (x ∷ xs) (y ∷ ys) p q l = let a = p.0 in let b = q.0 in let w = same_falses xs ys p.1 q.1 (omega arith) in cc

both_none : (xs ys : List Bool) → ys ≡ [] → length xs ≡ length ys → xs ≡ ys
both_none xs ys e l = nil_from_length xs (l ∙ ap length e) ∙ sym e

pub one_spelled : (bytes : List ℕ) (xs ys : List Bool) → SpellsFlags bytes xs → SpellsFlags bytes ys → length xs ≡ length ys → xs ≡ ys
one_spelled bytes xs ys p q l = ⊎_elim
    (λ n. ⊎_elim (λ m. same_falses xs ys n.0 m.0 l) (λ m. both_none xs ys (none_joined bytes ys n.1 m) l) q)
    (λ n. ⊎_elim (λ m. sym (both_none ys xs (none_joined bytes xs m.1 n) (sym l))) (λ m. one_joined bytes xs ys n m) q)
    p
