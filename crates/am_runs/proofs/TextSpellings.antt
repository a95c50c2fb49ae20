-- Each spelling of a text is that of one text.
use Rattle.std.proofs.Common.{◌≡◌, ℕ, List, [], ◌∷◌, ◌++◌, length, map, Option, Some, None, ap, arith, refl}
use Rattle.std.specs.Option.{option_map}
use Rattle.am_leb.specs.Leb.{IsSpelling, uleb}
use Rattle.am_leb.proofs.Laws.{uleb_spells}
use Rattle.am_runs.specs.Items.{text_end, text_spelling}
use Rattle.am_runs.specs.ItemLaws.{text_reads}
use Rattle.am_runs.specs.Typed.{JoinsTexts}
use Rattle.am_runs.proofs.Unique.{one_list}

-- A number's spelling can't go on in that of another.
behind_spelling : (x y r s : List ℕ) → IsSpelling x → IsSpelling y → x ++ r ≡ y ++ s → r ≡ s
behind_spelling [] y r s h k e = absurd h
behind_spelling (a ∷ x) [] r s h k e = absurd k
behind_spelling (a ∷ []) (b ∷ []) r s h k e = cc
behind_spelling (a ∷ []) (b ∷ c ∷ y) r s h k e = let same : a ≡ b = cc in absurd (omega (arith, k.0))
behind_spelling (a ∷ c ∷ x) (b ∷ []) r s h k e = let same : a ≡ b = cc in absurd (omega (arith, h.0))
behind_spelling (a ∷ c ∷ x) (b ∷ d ∷ y) r s h k e =
    let rest : (c ∷ x) ++ r ≡ (d ∷ y) ++ s = cc in
    behind_spelling (c ∷ x) (d ∷ y) r s h.2 k.2 rest

one_text : (s t : List ℕ) → text_spelling s ≡ text_spelling t → s ≡ t
one_text s t e = behind_spelling (uleb (length s)) (uleb (length t)) s t (uleb_spells (length s)).spelling (uleb_spells (length t)).spelling e

same_texts : (xs ys : List (Option (List ℕ))) → map (option_map text_spelling) xs ≡ map (option_map text_spelling) ys → xs ≡ ys
same_texts [] [] e = refl
same_texts [] (y ∷ ys) e = absurd (cc)
same_texts (x ∷ xs) [] e = absurd (cc)
same_texts (None ∷ xs) (None ∷ ys) e = ap (λ zs. None ∷ zs) (same_texts xs ys (cc))
same_texts (None ∷ xs) (Some y ∷ ys) e = absurd (cc)
same_texts (Some x ∷ xs) (None ∷ ys) e = absurd (cc)
same_texts (Some x ∷ xs) (Some y ∷ ys) e =
    let here : text_spelling x ≡ text_spelling y = cc in
    let a : x ≡ y = one_text x y here in
    let more : xs ≡ ys = same_texts xs ys (cc) in
    cc

pub one_texts : (bytes : List ℕ) (xs ys : List (Option (List ℕ))) → JoinsTexts bytes xs → JoinsTexts bytes ys → xs ≡ ys
one_texts bytes xs ys p q = same_texts xs ys (one_list text_end text_reads bytes (map (option_map text_spelling) xs) (map (option_map text_spelling) ys) p q)
