-- The text of an item that begins bytes.
use Rattle.std.proofs.Common.{◌≡◌, ℕ, zero, suc, ◌+◌, ◌-◌, ◌<◌, ◌≤◌, List, [], ◌∷◌, ◌++◌, length, take, drop, get_or, slice_index, Option, Some, None, Result, Ok, refl, sym, ap, subst, ◌∙◌, arith, lit<}
use Rattle.std.specs.Prelude.{IsSome}
use Rattle.std.specs.Str.{IsAscii, IsUtf8}
use Rattle.std.proofs.lemmas.List.{append-nil, length-take-le, drop_at, take_more}
use Rattle.std.proofs.lemmas.Str.{IsAscii-append, IsUtf8-from_is_utf8}
use Rattle.am_leb.specs.declared.LebFault.{LebFault}
use Rattle.am_leb.specs.Reading.{first_unsigned}
use Rattle.am_leb.proofs.Answering.{first_unsigned-prefix}
use Rattle.am_runs.specs.declared.place.Kind.TheVariants.{Literal}
use Rattle.am_runs.specs.Items.{text_end, text_of, behind_number}
use Rattle.am_runs.specs.ItemLaws.{front_parts, text_found}
use Rattle.am_runs.specs.Walking.{Place, entry_by, literal_step, step_at, HasEntries}
use Rattle.am_runs.proofs.Entries.{never_ends}

pub text_of-front : (bytes : List ℕ) (n len : ℕ) → Ok (n, len) ≡ first_unsigned bytes → n ≤ length bytes - len → take n (drop len bytes) ≡ text_of (take (len + n) bytes)
text_of-front bytes n len e h =
    let v = first_unsigned-prefix bytes (n, len) (sym e) in
    let text = take n (drop len bytes) in
    let parts = front_parts bytes len n (omega (arith, h, v.0)) in
    sym (ap text_of parts ∙ ap (behind_number (take len bytes ++ (text ++ []))) (v.1 (text ++ [])) ∙ drop_at (take len bytes) (text ++ []) len (length-take-le len bytes v.0) ∙ append-nil text)

found : (o : Option ℕ) → IsSome o → (k : ℕ) × (o ≡ Some k)
found None h = absurd (cc)
found (Some k) h = (k, refl)

-- where a text is known to begin the bytes, UTF-8 stands behind its length
pub text_known : (bytes : List ℕ) (n len : ℕ) → Ok (n, len) ≡ first_unsigned bytes → IsSome (text_end bytes) → (n ≤ length bytes - len) × IsUtf8 (take n (drop len bytes))
text_known bytes n len r some =
    let k = found (text_end bytes) some in
    let w = text_found bytes k.0 k.1 in
    let q : ◌≡◌ {A = Result (ℕ × ℕ) LebFault} (Ok (n, len)) (Ok (w.n, w.len)) = r ∙ w.read in
    let same : ◌≡◌ {A = ℕ × ℕ} (n, len) (w.n, w.len) = cc in
    let a : n ≡ w.n = ap (λ (p : ℕ × ℕ). p.0) same in
    let b : len ≡ w.len = ap (λ (p : ℕ × ℕ). p.1) same in
    let text : IsUtf8 (take w.n (drop w.len bytes)) = IsUtf8-from_is_utf8 _ w.text in
    (omega (arith, w.within, a, b), subst (λ m. IsUtf8 (take m (drop len bytes))) (sym a) (subst (λ m. IsUtf8 (take w.n (drop m bytes))) (sym b) text))

-- within a literal run of which entries are to come, an item comes next
pub literal_known : (end : List ℕ → Option ℕ) (n : ℕ) (place : Place) → 0 < n → 0 < place.count → place.kind ≡ Literal → HasEntries end n place → IsSome (end place.rest)
literal_known end n place h c k holds = by_end (end place.rest) refl
  where
    none_next : (count : ℕ) → 0 < count → end place.rest ≡ None → None ≡ step_at end count place
    none_next zero c e = absurd (omega arith)
    none_next (suc count) c e = sym (ap (λ kind. entry_by end kind count place.item place.rest) k ∙ ap (literal_step count place.rest) e)

    by_end : (o : Option ℕ) → end place.rest ≡ o → IsSome (end place.rest)
    by_end None e = absurd (never_ends end n place h (none_next place.count c e) holds)
    by_end (Some m) e = subst (λ (o : Option ℕ). IsSome o) (sym e) refl

one_ascii : (b : ℕ) → b < 128 → IsAscii (b ∷ [])
one_ascii b h zero = h
one_ascii b h (suc i) = lit< tt

pub ascii_more : (bytes : List ℕ) (i : ℕ) → IsAscii (take i bytes) → i < length bytes → slice_index bytes i < 128 → IsAscii (take (i + 1) bytes)
ascii_more bytes i low h b = subst IsAscii (sym (take_more bytes i 0 h)) (IsAscii-append (take i bytes) (get_or bytes i 0 ∷ []) low (one_ascii (get_or bytes i 0) b))
