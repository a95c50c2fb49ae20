-- Values with one number, cut out of the raw bytes one after another.
use Rattle.std.proofs.Common.{◌≡◌, ℕ, suc, zero, ◌+◌, ◌*◌, ◌/◌, ◌%◌, ◌-◌, ◌<◌, ◌≤◌, ◌^◌, ◌↔◌, ◌⊎◌, List, [], ◌∷◌, ◌++◌, length, map, take, drop, Option, Some, None, IsSome, inl, inr, refl, sym, ap, ◌∙◌, subst, arith}
use Rattle.std.specs.Prelude.{replicate, IfSome, IfNone}
use Rattle.std.specs.Option.{option_map}
use Rattle.std.specs.Str.{IsAscii}
use Rattle.std.proofs.lemmas.List.{drop-drop, drop-take, length-drop, length-take-le}
use Rattle.std.proofs.lemmas.List.Elements.{All-take, All-drop}
use Rattle.std.proofs.lemmas.Str.{IsAscii-take, IsAscii-drop, IsUtf8-from_ascii}
use Rattle.am_types.specs.declared.RawValue.{RawValue}
use Rattle.am_types.specs.Bytes.{IsBytes}
use Rattle.am_types.specs.Values.{Good}
use Rattle.am_values.specs.declared.nulls.Nulls.{Nulls}
use Rattle.am_values.specs.declared.nulls.Nulls.TheVariants.{AreRefused}
use Rattle.am_values.specs.Columns.{metadata, NoneNull}
use Rattle.am_values.specs.Cutting.{value_from, values_from, width, AreCut, AreAlikeCut, IsCut}
use Rattle.am_values.proofs.Cuts.{cut_one, first_cut}

-- ---- answers

pub some_as : {A : Type 0} (r : Option A) (P Q : A → Type 0) → ((a : A) → P a → Q a) → IfSome r P → IfSome r Q
some_as None P Q f h = tt
some_as (Some a) P Q f h = f a h

pub none_as : {A : Type 0} (r : Option A) (P Q : Type 0) → (P → Q) → IfNone r P → IfNone r Q
none_as None P Q f h = f h
none_as (Some a) P Q f h = tt

pub none_from : {A : Type 0} (r : Option A) (P : Type 0) → P → IfNone r P
none_from None P p = p
none_from (Some a) P p = tt

-- ---- one more

pub alike_zero : (x : Option ℕ) (raw : List ℕ) → AreAlikeCut zero x raw
alike_zero x raw = (omega arith, tt)

-- so many and one more, of which the first stands in front
alike_more : (n : ℕ) (x : Option ℕ) (raw : List ℕ) → (IsCut x raw × AreAlikeCut n x (drop (width x) raw)) ↔ AreAlikeCut (suc n) x raw
alike_more n None raw = (
  λ w. (omega arith, (tt, w.1.1)),
  λ w. (tt, (omega arith, w.1.1)),
)
alike_more n (Some m) raw =
    let w = m / 16 in
    let size : w + n * w ≡ suc n * w = omega arith in (
      λ a. (omega (arith, size, a.0.0, a.1.0, length-drop w raw), (a.0.1, a.1.1)),
      λ a. ((omega (arith, size, a.0), a.1.0), (omega (arith, size, a.0, length-drop w raw), a.1.1)),
    )

pub alike_step : (n : ℕ) (x : Option ℕ) (raw rest : List ℕ) → 0 < n → IsCut x raw → rest ≡ drop (width x) raw → AreAlikeCut (n - 1) x rest ↔ AreAlikeCut n x raw
alike_step zero x raw rest some c e = absurd (omega arith)
alike_step (suc n) x raw rest some c e =
    let less : suc n - 1 ≡ n = omega arith in
    subst (λ m. AreAlikeCut m x rest ↔ AreAlikeCut (suc n) x raw) (sym less) (
      (λ a. (alike_more n x raw).0 (c, subst (AreAlikeCut n x) e a)),
      (λ a. subst (AreAlikeCut n x) (sym e) ((alike_more n x raw).1 a).1),
    )

pub alike_first : (n : ℕ) (x : Option ℕ) (raw : List ℕ) → 0 < n → AreAlikeCut n x raw → IsCut x raw
alike_first zero x raw some a = absurd (omega arith)
alike_first (suc n) x raw some a = ((alike_more n x raw).1 a).0

-- what is behind one more
pub behind_more : (all left w : ℕ) (raw rest next : List ℕ) → 0 < left → left ≤ all → rest ≡ drop ((all - left) * w) raw → next ≡ drop w rest → next ≡ drop ((all - (left - 1)) * w) raw
behind_more all left w raw rest next some few e n =
    let more : all - (left - 1) ≡ suc (all - left) = omega arith in
    let size : (all - left) * w + w ≡ suc (all - left) * w = omega arith in
    n ∙ ap (drop w) e ∙ drop-drop w ((all - left) * w) raw ∙ ap (λ m. drop m raw) (size ∙ ap (λ m. m * w) (sym more))

-- ---- those without bytes

pub alike_none : (n : ℕ) (raw : List ℕ) → AreAlikeCut n None raw
alike_none zero raw = alike_zero None raw
alike_none (suc n) raw = (alike_more n None raw).0 (tt, alike_none n raw)

pub alike_empty : (n : ℕ) (x : Option ℕ) (raw : List ℕ) → width x ≡ 0 → IsCut x raw → AreAlikeCut n x raw
alike_empty zero x raw z c = alike_zero x raw
alike_empty (suc n) x raw z c = (alike_more n x raw).0 (c, subst (AreAlikeCut n x) (sym (ap (λ m. drop m raw) z)) (alike_empty n x raw z c))

pub none_behind : (n w : ℕ) (raw : List ℕ) → w ≡ 0 → drop w raw ≡ drop (n * w) raw
none_behind n w raw z =
    let none : n * w ≡ 0 = ap (λ m. n * m) z ∙ (let q : n * 0 ≡ 0 = omega arith in q) in
    ap (λ m. drop m raw) (z ∙ sym none)

-- ---- texts in ASCII

text_good : (x : ℕ) (raw : List ℕ) → x % 16 ≡ 6 → x < 2 ^ 64 → x / 16 ≤ length raw → IsBytes raw → IsAscii (take (x / 16) raw) → Good (value_from x raw)
text_good x raw k small fits bytes ascii = record {
  kind = omega (arith, k);
  short = omega (arith, small, length-take-le (x / 16) raw fits);
  bytes = All-take (λ b. b < 2 ^ 8) (x / 16) raw bytes;
  empty = λ e. absurd (omega (arith, k, e));
  unsigned = λ e. absurd (omega (arith, k, e));
  signed = λ e. absurd (no_signed e);
  float = λ e. absurd (omega (arith, k, e));
  text = λ e. IsUtf8-from_ascii (take (x / 16) raw) ascii;
}
  where
    no_signed : (x % 16 ≡ 4) ⊎ (x % 16 ≡ 8) ⊎ (x % 16 ≡ 9) → ⊥
    no_signed (inl e) = omega (arith, k, e)
    no_signed (inr (inl e)) = omega (arith, k, e)
    no_signed (inr (inr e)) = omega (arith, k, e)

take-front : (n m : ℕ) (raw : List ℕ) → n ≤ length raw → n ≤ m → take n (take m raw) ≡ take n raw
take-front zero m raw f h = refl
take-front (suc n) m [] f h = absurd (omega (arith, f))
take-front (suc n) zero (b ∷ raw) f h = absurd (omega (arith, h))
take-front (suc n) (suc m) (b ∷ raw) f h = ap (λ l. b ∷ l) (take-front n m raw (omega (arith, f)) (omega (arith, h)))

pub alike_ascii : (n x : ℕ) (raw : List ℕ) → x % 16 ≡ 6 → x < 2 ^ 64 → n * (x / 16) ≤ length raw → IsBytes raw → IsAscii (take (n * (x / 16)) raw) → AreAlikeCut n (Some x) raw
alike_ascii zero x raw k small fits bytes ascii = alike_zero (Some x) raw
alike_ascii (suc n) x raw k small fits bytes ascii =
    let w = x / 16 in
    let size : w + n * w ≡ suc n * w = omega arith in
    let here : w ≤ length raw = omega (arith, fits, size) in
    let front : IsAscii (take w raw) = subst IsAscii (take-front w (suc n * w) raw here (omega (arith, size))) (IsAscii-take (take (suc n * w) raw) w ascii) in
    let back : IsAscii (take (n * w) (drop w raw)) = subst IsAscii (ap (λ m. drop w (take m raw)) (sym size) ∙ drop-take w (n * w) raw) (IsAscii-drop (take (suc n * w) raw) w ascii) in
    let more = alike_ascii n x (drop w raw) k small (omega (arith, fits, size, length-drop w raw)) (All-drop (λ b. b < 2 ^ 8) w raw bytes) back in
    (alike_more n (Some x) raw).0 ((here, text_good x raw k small here bytes front), more)

-- ---- numbers alike at the front

pub cut_alike : (n : ℕ) (x : Option ℕ) (list : List (Option ℕ)) (raw rest : List ℕ) → AreAlikeCut n x raw → rest ≡ drop (n * width x) raw → AreCut list rest ↔ AreCut (replicate n x ++ list) raw
cut_alike zero x list raw rest a e =
    let same : rest ≡ raw = e ∙ ap (λ m. drop m raw) (let z : 0 * width x ≡ 0 = omega arith in z) in
    ((λ c. subst (AreCut list) same c), (λ c. subst (AreCut list) (sym same) c))
cut_alike (suc n) x list raw rest a e =
    let size : width x + n * width x ≡ suc n * width x = omega arith in
    let parts = (alike_more n x raw).1 a in
    let more = cut_alike n x list (drop (width x) raw) rest parts.1 (e ∙ ap (λ m. drop m raw) (sym size) ∙ sym (drop-drop (n * width x) (width x) raw)) in
    let one = cut_one x (replicate n x ++ list) raw (drop (width x) raw) parts.0 refl in
    ((λ c. one.0 (more.0 c)), (λ c. more.1 (one.1 c)))

pub uncut_alike : (n : ℕ) (x : Option ℕ) (list : List (Option ℕ)) (raw : List ℕ) → AreCut (replicate n x ++ list) raw → AreAlikeCut n x raw
uncut_alike zero x list raw c = alike_zero x raw
uncut_alike (suc n) x list raw c =
    let here = first_cut x (replicate n x ++ list) raw c in
    (alike_more n x raw).0 (here, uncut_alike n x list (drop (width x) raw) ((cut_one x (replicate n x ++ list) raw (drop (width x) raw) here refl).1 c))

pub null_alike : (n : ℕ) (x : Option ℕ) (list : List (Option ℕ)) → IsSome x → NoneNull list ↔ NoneNull (replicate n x ++ list)
null_alike zero x list s = ((λ a. a), (λ a. a))
null_alike (suc n) x list s = let more = null_alike n x list s in ((λ a. (s, more.0 a)), (λ a. more.1 a.1))

pub no_null : (n : ℕ) (x : Option ℕ) (list : List (Option ℕ)) → 0 < n → NoneNull (replicate n x ++ list) → IsSome x
no_null zero x list some a = absurd (omega arith)
no_null (suc n) x list some a = a.0

-- the values are cut, and if nulls are refused none is null
pub both_kept : (nulls : Nulls) (n : ℕ) (x : Option ℕ) (list all : List (Option ℕ)) (raw rest : List ℕ) → all ≡ replicate n x ++ list → (nulls ≡ AreRefused → IsSome x) → AreAlikeCut n x raw → rest ≡ drop (n * width x) raw
    → (AreCut list rest × (nulls ≡ AreRefused → NoneNull list)) ↔ (AreCut all raw × (nulls ≡ AreRefused → NoneNull all))
both_kept nulls n x list all raw rest e s a r =
    let cut = cut_alike n x list raw rest a r in (
      λ w. (subst (λ l. AreCut l raw) (sym e) (cut.0 w.0), λ f. subst NoneNull (sym e) ((null_alike n x list (s f)).0 (w.1 f))),
      λ w. (cut.1 (subst (λ l. AreCut l raw) e w.0), λ f. (null_alike n x list (s f)).1 (subst NoneNull e (w.1 f))),
    )

-- ---- values and their numbers

pub none_null-values : (meta : List (Option ℕ)) (raw : List ℕ) → NoneNull meta → NoneNull (values_from meta raw)
none_null-values [] raw h = tt
none_null-values (None ∷ meta) raw h = absurd (let no = h.0 in cc)
none_null-values (Some m ∷ meta) raw h = (refl, none_null-values meta (drop (m / 16) raw) h.1)

pub none_null-numbers : (values : List (Option RawValue)) → NoneNull values → NoneNull (map (option_map metadata) values)
none_null-numbers [] h = tt
none_null-numbers (None ∷ values) h = absurd (let no = h.0 in cc)
none_null-numbers (Some v ∷ values) h = (refl, none_null-numbers values h.1)
