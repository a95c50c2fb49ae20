-- A text that is new has the next number.
use Rattle.std.proofs.Common.{map, slice_get, refl, ℕ, ◌≡◌, ◌<◌, ◌≤◌, ◌++◌, ◌∷◌, List, [], length, get_or, ◌+◌, false, cond, Option, Some, None, sym, ap, ◌∙◌, inl, inr, arith}
use Rattle.std.proofs.Math.ListN.{get_or-map}
use Rattle.std.proofs.lemmas.List.{get_or_append_left, get_or_push, length-append, length-map}
use Rattle.std.proofs.lemmas.Option.{slice_get_read}
use Rattle.std.specs.BTreeMap.{BTreeMap, get, insert_entry, is_at}
use Rattle.std.specs.Map.{lookup}
use Rattle.std.specs.Option.{option_map_or}
use Rattle.std.specs.Ordering.{is_eq}
use Rattle.std.proofs.lemmas.Bool.{cases_Bool, cases_lt, both_ways}
use Rattle.std.proofs.lemmas.Cmp.{nat_list_eq_equiv}
use Rattle.am_types.specs.Bytes.{IsBytes}
use Rattle.am_types.specs.Same.{same_bytes}
use Rattle.am_types.proofs.Orders.{same_bytes-true}
use Rattle.am_graph.specs.Reaches.{number}
use Rattle.am_graph.specs.Numbers.{with_text, key_of, key_cmp, Tells, AreNumbers, AreOnce}
use Rattle.am_graph.proofs.Naming.{some_or, number_more, number_back, number_last}
use Rattle.am_graph.proofs.TextKeys.{keys_tell}
use Rattle.am_graph.proofs.TextMaps.{Text, text_cmp, is_text, inserted}

none_is : (x : ℕ) → ◌≡◌ {A = Option ℕ} None (Some x) → ⊥
none_is x e = cc

-- the numbers with a new text
pub number_pushed : (ts : List (List ℕ)) (y : List ℕ) → number ts y ≡ None → (t : List ℕ) → number (ts ++ y ∷ []) t ≡ cond (same_bytes t y) (Some (length ts)) (number ts t)
number_pushed ts y new t = elim (cases_Bool (same_bytes t y)) [
  | inl s ↦
      (let same : t ≡ y = same_bytes-true t y s in
      ap (number (ts ++ y ∷ [])) same ∙ number_last ts y new (nat_list_eq_equiv.refl y) ∙ sym (ap (λ b. cond b (Some (length ts)) (number ts t)) s))
  | inr s ↦ elim (some_or (number ts t)) [
    | inl f ↦ number_more ts y t f.0 f.1 ∙ sym (ap (λ b. cond b (Some (length ts)) (number ts t)) s ∙ f.1)
    | inr f ↦ elim (some_or (number (ts ++ y ∷ []) t)) [
      | inl g ↦ elim (number_back ts y t g.0 g.1) [
        | inl h ↦ absurd (none_is g.0 (sym f ∙ h))
        | inr h ↦ absurd (both_ways (same_bytes t y) s h.1)
      ]
      | inr g ↦ g ∙ sym (ap (λ b. cond b (Some (length ts)) (number ts t)) s ∙ f)
    ]
  ]
]

-- texts of other lengths are others
longer : (t y : List ℕ) → length y ≤ 16 → 16 < length t → same_bytes t y ≡ false
longer t y few many = elim (cases_Bool (same_bytes t y)) [
  | inl s ↦ let e : length t ≡ length y = ap length (same_bytes-true t y s) in absurd (omega arith)
  | inr s ↦ s
]

shorter : (t y : List ℕ) → 16 < length y → length t ≤ 16 → same_bytes t y ≡ false
shorter t y many few = elim (cases_Bool (same_bytes t y)) [
  | inl s ↦ let e : length t ≡ length y = ap length (same_bytes-true t y s) in absurd (omega arith)
  | inr s ↦ s
]

-- a short text is noted at its key
pub noted_short : (s1 s2 : BTreeMap (ℕ × ℕ) ℕ) (l : BTreeMap Text ℕ) (y : List ℕ) (n : ℕ) (f : List ℕ → Option ℕ) → IsBytes y → length y ≤ 16 → ((k : ℕ × ℕ) → get key_cmp s2 k ≡ cond (is_eq (key_cmp (key_of y) k)) (Some n) (get key_cmp s1 k)) → Tells s1 l f → Tells s2 l (λ t. cond (same_bytes t y) (Some n) (f t))
noted_short s1 s2 l y n f bytes few updates tells = record {
  few = λ t b p. updates (key_of t) ∙ (λ i. cond (keys_tell t y b bytes i) (Some n) (tells.few t b p i));
  many = λ t p. tells.many t p ∙ sym (ap (λ b. cond b (Some n) (f t)) (longer t y few p));
}

-- a longer one at its bytes
pub noted_long : (s : BTreeMap (ℕ × ℕ) ℕ) (l1 l2 : BTreeMap Text ℕ) (k : Text) (y : List ℕ) (n : ℕ) (f : List ℕ → Option ℕ) → k.items ≡ y → 16 < length y → l2.entries ≡ insert_entry text_cmp l1.entries k n → Tells s l1 f → Tells s l2 (λ t. cond (same_bytes t y) (Some n) (f t))
noted_long s l1 l2 k y n f key many entries tells = record {
  few = λ t b p. tells.few t b p ∙ sym (ap (λ b. cond b (Some n) (f t)) (shorter t y many p));
  many = λ t p. ap (lookup (is_text t)) entries ∙ inserted l1.entries k n t ∙ (λ i. cond (same_bytes t (key i)) (Some n) (tells.many t p i));
}

-- the new text is there once
once_pushed : (ts : List (List ℕ)) (y : List ℕ) → AreOnce ts → number ts y ≡ None → AreOnce (ts ++ y ∷ [])
once_pushed ts y once new n t low at = elim (cases_lt n (length ts)) [
  | inl l ↦ number_more ts y t n (once n t l (sym (get_or_append_left ts (y ∷ []) t n l) ∙ at))
  | inr g ↦ (
      let long : length (ts ++ y ∷ []) ≡ length ts + 1 = length-append ts (y ∷ []) in
      let last : n ≡ length ts = omega (arith, long, low, g) in
      let same : y ≡ t = sym (get_or_push ts y t (length ts) refl) ∙ ap (λ k. get_or (ts ++ y ∷ []) k t) (sym last) ∙ at in
      ap (number (ts ++ y ∷ [])) (sym same) ∙ number_last ts y new (nat_list_eq_equiv.refl y) ∙ ap Some (sym last))
]

-- the text at a place
abbrev items : Text → List ℕ
items v = v.items

read_at : (vs : List Text) (n : ℕ) (v : Text) → ((d : Text) → v ≡ get_or vs n d) → get_or (map items vs) n v.items ≡ v.items
read_at vs n v is = get_or-map items vs n v ∙ ap items (sym (is v))

pub kept_at : (vs : List Text) (n : ℕ) (v : Text) (t : List ℕ) → AreOnce (map items vs) → n < length vs → ((d : Text) → v ≡ get_or vs n d) → v.items ≡ t → number (map items vs) t ≡ Some n
kept_at vs n v t once low is e =
    let long = length-map vs items in
    ap (number (map items vs)) (sym e) ∙ once n v.items (omega (arith, long, low)) (read_at vs n v is)

pub text_at : (vs : List Text) (n : ℕ) (v : Text) → n < length vs → ((d : Text) → v ≡ get_or vs n d) → slice_get (map items vs) n ≡ Some v.items
text_at vs n v low is = slice_get_read (map items vs) (length vs) n v.items (sym (length-map vs items)) low (sym (read_at vs n v is))

-- the maps in which the new text is noted tell the new numbers
pub numbers_pushed : (ts : List (List ℕ)) (s1 s2 : BTreeMap (ℕ × ℕ) ℕ) (l1 l2 : BTreeMap Text ℕ) (y : List ℕ) (n : ℕ) → AreNumbers ts s1 l1 → number ts y ≡ None → n ≡ length ts → ((f : List ℕ → Option ℕ) → Tells s1 l1 f → Tells s2 l2 (λ t. cond (same_bytes t y) (Some n) (f t))) → AreNumbers (ts ++ y ∷ []) s2 l2
numbers_pushed ts s1 s2 l1 l2 y n are new size notes =
    let noted = notes (number ts) are.told in
    record {
      told = record {
        few = λ t b p. noted.few t b p ∙ pushed t;
        many = λ t p. noted.many t p ∙ pushed t;
      };
      once = once_pushed ts y are.once new;
    }
  where
    pushed : (t : List ℕ) → cond (same_bytes t y) (Some n) (number ts t) ≡ number (ts ++ y ∷ []) t
    pushed t = (λ i. cond (same_bytes t y) (Some (size i)) (number ts t)) ∙ sym (number_pushed ts y new t)

-- maps with the same entries tell the same
pub same_maps : (s1 s2 : BTreeMap (ℕ × ℕ) ℕ) (l1 l2 : BTreeMap Text ℕ) (f : List ℕ → Option ℕ) → s2.entries ≡ s1.entries → ((t : List ℕ) → lookup (is_text t) l2.entries ≡ lookup (is_text t) l1.entries) → Tells s1 l1 f → Tells s2 l2 f
same_maps s1 s2 l1 l2 f short long tells = record {
  few = λ t b p. ap (lookup (is_at (key_cmp (key_of t)))) short ∙ tells.few t b p;
  many = λ t p. long t ∙ tells.many t p;
}

-- a text that is new comes behind the others, and one that isn't changes nothing
pub with_new : (ts : List (List ℕ)) (y : List ℕ) → number ts y ≡ None → with_text ts y ≡ ts ++ y ∷ []
with_new ts y e = ap (λ o. option_map_or (λ n. ts) o (ts ++ y ∷ [])) e

pub with_old : (ts : List (List ℕ)) (y : List ℕ) (n : ℕ) → number ts y ≡ Some n → with_text ts y ≡ ts
with_old ts y n e = ap (λ o. option_map_or (λ n. ts) o (ts ++ y ∷ [])) e

-- each text keeps its number
pub number_with : (ts : List (List ℕ)) (y t : List ℕ) (n : ℕ) → number ts t ≡ Some n → number (with_text ts y) t ≡ Some n
number_with ts y t n e = elim (some_or (number ts y)) [
  | inl o ↦ ap (λ us. number us t) (with_old ts y o.0 o.1) ∙ e
  | inr o ↦ ap (λ us. number us t) (with_new ts y o) ∙ number_more ts y t n e
]
