-- No spelling begins another, and each spells one thing.
use Rattle.std.proofs.Common.{◌≡◌, ℕ, List, [], ◌∷◌, ◌++◌, length, refl, sym, ap, ◌∙◌, arith, append_assoc}
use Rattle.std.specs.List.{flat_map}
use Rattle.am_leb.specs.Leb.{IsSpelling, unsigned_value, uleb}
use Rattle.am_leb.proofs.Laws.{uleb_spells}
use Rattle.am_colmeta.specs.Metadata.{pair_bytes}
use Rattle.am_colmeta.specs.Actors.{prefixed}
use Rattle.am_colmeta.proofs.ReadBack.{counted}

abbrev pub Splits : {A : Type 0} → (A → List ℕ) → Type 0
Splits {A} bytes_of = (x y : A) (r s : List ℕ) → bytes_of x ++ r ≡ bytes_of y ++ s → (x ≡ y) × (r ≡ s)

-- the shorter of two spellings can't go on in the longer
spellings : (x y r s : List ℕ) → IsSpelling x → IsSpelling y → x ++ r ≡ y ++ s → (x ≡ y) × (r ≡ s)
spellings [] y r s h k e = absurd h
spellings (a ∷ x) [] r s h k e = absurd k
spellings (a ∷ []) (b ∷ []) r s h k e = (cc, cc)
spellings (a ∷ []) (b ∷ c ∷ y) r s h k e = let same : a ≡ b = cc in absurd (omega (arith, k.0))
spellings (a ∷ c ∷ x) (b ∷ []) r s h k e = let same : a ≡ b = cc in absurd (omega (arith, h.0))
spellings (a ∷ c ∷ x) (b ∷ d ∷ y) r s h k e =
    let first : a ≡ b = cc in
    let rest : (c ∷ x) ++ r ≡ (d ∷ y) ++ s = cc in
    let more = spellings (c ∷ x) (d ∷ y) r s h.2 k.2 rest in
    (ap (λ z. z ∷ c ∷ x) first ∙ ap (λ l. b ∷ l) more.0, more.1)

pub number-Splits : Splits uleb
number-Splits m n r s e =
    let w = spellings (uleb m) (uleb n) r s (uleb_spells m).spelling (uleb_spells n).spelling e in
    (sym (uleb_spells m).value ∙ ap unsigned_value w.0 ∙ (uleb_spells n).value, w.1)

pair-same : (p q : ℕ × ℕ) → p.0 ≡ q.0 → p.1 ≡ q.1 → p ≡ q
pair-same (a, b) (c, d) e f = ap (λ z. (z, b)) e ∙ ap (λ z. (c, z)) f

pub pair-Splits : Splits pair_bytes
pair-Splits p q r s e =
    let whole : uleb p.0 ++ (uleb p.1 ++ r) ≡ uleb q.0 ++ (uleb q.1 ++ s) = sym (append_assoc (uleb p.0) (uleb p.1) r) ∙ e ∙ append_assoc (uleb q.0) (uleb q.1) s in
    let a = number-Splits p.0 q.0 (uleb p.1 ++ r) (uleb q.1 ++ s) whole in
    let b = number-Splits p.1 q.1 r s a.1 in
    (pair-same p q a.0 b.0, b.1)

same_parts : (x y r s : List ℕ) → length x ≡ length y → x ++ r ≡ y ++ s → (x ≡ y) × (r ≡ s)
same_parts [] [] r s n e = (refl, e)
same_parts [] (b ∷ y) r s n e = absurd (omega arith)
same_parts (a ∷ x) [] r s n e = absurd (omega arith)
same_parts (a ∷ x) (b ∷ y) r s n e =
    let first : a ≡ b = cc in
    let rest : x ++ r ≡ y ++ s = cc in
    let more = same_parts x y r s (omega arith) rest in
    (ap (λ z. z ∷ x) first ∙ ap (λ l. b ∷ l) more.0, more.1)

pub prefixed-Splits : Splits prefixed
prefixed-Splits x y r s e =
    let whole : uleb (length x) ++ (x ++ r) ≡ uleb (length y) ++ (y ++ s) = sym (append_assoc (uleb (length x)) x r) ∙ e ∙ append_assoc (uleb (length y)) y s in
    let a = number-Splits (length x) (length y) (x ++ r) (y ++ s) whole in
    same_parts x y r s a.0 a.1

repeated : {A : Type 0} (bytes_of : A → List ℕ) → Splits bytes_of → (xs ys : List A) (r s : List ℕ) → length xs ≡ length ys → flat_map bytes_of xs ++ r ≡ flat_map bytes_of ys ++ s → (xs ≡ ys) × (r ≡ s)
repeated bytes_of splits [] [] r s n e = (refl, e)
repeated bytes_of splits [] (y ∷ ys) r s n e = absurd (omega arith)
repeated bytes_of splits (x ∷ xs) [] r s n e = absurd (omega arith)
repeated bytes_of splits (x ∷ xs) (y ∷ ys) r s n e =
    let whole : bytes_of x ++ (flat_map bytes_of xs ++ r) ≡ bytes_of y ++ (flat_map bytes_of ys ++ s) = sym (append_assoc (bytes_of x) (flat_map bytes_of xs) r) ∙ e ∙ append_assoc (bytes_of y) (flat_map bytes_of ys) s in
    let here = splits x y (flat_map bytes_of xs ++ r) (flat_map bytes_of ys ++ s) whole in
    let more = repeated bytes_of splits xs ys r s (omega arith) here.1 in
    (ap (λ z. z ∷ xs) here.0 ∙ ap (λ l. y ∷ l) more.0, more.1)

pub counted-Splits : {A : Type 0} (bytes_of : A → List ℕ) → Splits bytes_of → Splits (counted bytes_of)
counted-Splits bytes_of splits xs ys r s e =
    let whole : uleb (length xs) ++ (flat_map bytes_of xs ++ r) ≡ uleb (length ys) ++ (flat_map bytes_of ys ++ s) = sym (append_assoc (uleb (length xs)) (flat_map bytes_of xs) r) ∙ e ∙ append_assoc (uleb (length ys)) (flat_map bytes_of ys) s in
    let n = number-Splits (length xs) (length ys) (flat_map bytes_of xs ++ r) (flat_map bytes_of ys ++ s) whole in
    repeated bytes_of splits xs ys r s n.0 n.1
