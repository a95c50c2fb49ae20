-- Items are the spellings of numbers and of texts, and what they spell is read back.
use Rattle.std.proofs.Common.{◌≡◌, ℕ, ◌^◌, ◌<◌, Bool, true, false, List, [], ◌++◌, length, take, drop, Some, Result, Ok, ℤ, refl, sym, ap, ◌∙◌, subst, arith, rules, length-append, length-drop, FitsSigned, w64}
use Rattle.std.specs.Str.{IsUtf8, is_utf8}
use Rattle.std.proofs.lemmas.Int.{ints}
use Rattle.std.proofs.lemmas.Str.{IsUtf8-from_is_utf8, is_utf8-from_IsUtf8}
use Rattle.std.proofs.lemmas.List.{append-nil, take_all, drop_at}
use Rattle.am_leb.specs.declared.LebFault.{LebFault}
use Rattle.am_leb.specs.Leb.{uleb, leb, unsigned_value, signed_value}
use Rattle.am_leb.specs.Reading.{first_unsigned, first_signed, from_magnitude}
use Rattle.am_leb.proofs.Laws.{uleb_is}
use Rattle.am_leb.proofs.SignedLaws.{leb_is, signs}
use Rattle.am_leb.proofs.Answering.{IsBytes, first_unsigned-front, first_unsigned-uleb, first_signed-fits, first_signed-leb}
use Rattle.am_runs.specs.Items.{IsItem, length_read, unsigned_end, signed_end, text_end, text_spelling, text_of, behind_number}
use Rattle.am_runs.specs.ItemLaws.{signed_read, text_found, text_stands}

pub unsigned_item : (n : ℕ) → n < 2 ^ 64 → IsItem unsigned_end (uleb n)
unsigned_item n h = ap length_read (ap first_unsigned (sym (append-nil (uleb n))) ∙ first_unsigned-uleb n [] h)

fits_magnitude : (negative : Bool) (n : ℕ) → n < 2 ^ 63 → FitsSigned w64 (from_magnitude negative n)
fits_magnitude false n h = search (arith, ints, rules)
fits_magnitude true n h = search (arith, ints, rules)

magnitude_fits : (negative : Bool) (n : ℕ) → FitsSigned w64 (from_magnitude negative n) → n < 2 ^ 63
magnitude_fits false n h = grind (arith, ints, rules)
magnitude_fits true n h = grind (arith, ints, rules)

pub signed_is : (x : List ℕ) → IsBytes x → IsItem signed_end x → (z : ℤ) × FitsSigned w64 z × (x ≡ leb z)
signed_is x f e =
    let w = signed_read x f e in
    let g = first_signed-fits x w.0 w.1 w.2 in
    (w.0, subst (FitsSigned w64) (sym g.3) (fits_magnitude g.0 g.1 g.2), w.3)

pub signed_item : (z : ℤ) → FitsSigned w64 z → IsItem signed_end (leb z)
signed_item z h =
    let s = signs z in
    let n = magnitude_fits s.0 s.1 (subst (FitsSigned w64) s.2 h) in
    subst (λ y. IsItem signed_end (leb y)) (sym s.2) (ap length_read (ap first_signed (sym (append-nil (leb (from_magnitude s.0 s.1)))) ∙ first_signed-leb s.0 s.1 [] n))

pub text_is : (x : List ℕ) → IsBytes x → IsItem text_end x → (t : List ℕ) × IsUtf8 t × (length t < 2 ^ 64) × (x ≡ text_spelling t)
text_is x f e =
    let w = text_found x (length x) e in
    let v = first_unsigned-front x w.n w.len f w.read in
    let t = drop w.len x in
    let size : length t ≡ w.n = omega (arith, w.end_is, w.within, length-drop w.len x) in
    let whole : take w.n t ≡ t = take_all w.n t (omega (arith, size)) in
    (t, IsUtf8-from_is_utf8 t (ap is_utf8 (sym whole) ∙ w.text), omega (arith, size, v.0), v.2 ∙ ap (λ n. uleb n ++ t) (sym size))

pub text_item : (t : List ℕ) → IsUtf8 t → length t < 2 ^ 64 → IsItem text_end (text_spelling t)
text_item t u h = text_stands (text_spelling t) (uleb (length t)) t [] (length t) (length (uleb (length t))) (ap (λ b. uleb (length t) ++ b) (sym (append-nil t))) refl refl (is_utf8-from_IsUtf8 t u) (first_unsigned-uleb (length t) t h)
    ∙ ap Some (sym (length-append (uleb (length t)) t))

-- the value of an item

pub unsigned_value-uleb : (n : ℕ) → unsigned_value (uleb n) ≡ n
unsigned_value-uleb n = (uleb_is n).value_is

pub signed_value-leb : (z : ℤ) → signed_value (leb z) ≡ z
signed_value-leb z = (leb_is z).value_is

pub text_of-spelling : (t : List ℕ) → length t < 2 ^ 64 → text_of (text_spelling t) ≡ t
text_of-spelling t h = ap (behind_number (text_spelling t)) (first_unsigned-uleb (length t) t h) ∙ drop_at (uleb (length t)) t (length (uleb (length t))) refl

-- behind the length of an item of text stands UTF-8
pub text_behind : (x : List ℕ) (n len : ℕ) → IsItem text_end x → Ok (n, len) ≡ first_unsigned x → IsUtf8 (drop len x)
text_behind x n len e r =
    let w = text_found x (length x) e in
    let q : ◌≡◌ {A = Result (ℕ × ℕ) LebFault} (Ok (n, len)) (Ok (w.n, w.len)) = r ∙ w.read in
    let same : ◌≡◌ {A = ℕ × ℕ} (n, len) (w.n, w.len) = cc in
    let l : len ≡ w.len = ap (λ (p : ℕ × ℕ). p.1) same in
    let t = drop w.len x in
    let whole : take w.n t ≡ t = take_all w.n t (omega (arith, w.end_is, w.within, length-drop w.len x)) in
    subst (λ m. IsUtf8 (drop m x)) (sym l) (IsUtf8-from_is_utf8 t (ap is_utf8 (sym whole) ∙ w.text))
