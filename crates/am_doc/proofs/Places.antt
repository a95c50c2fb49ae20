-- The places of heads are read back as they are written, and as nothing else.
use Rattle.std.proofs.Common.{◌≡◌, ℕ, ◌^◌, ◌<◌, ◌≤◌, List, [], ◌∷◌, ◌++◌, length, Option, Some, None, IsSome, refl, sym, ap, ◌∙◌, subst, arith, append-nil}
use Rattle.std.specs.List.{flat_map, AllByRecursion}
use Rattle.am_leb.specs.Leb.{uleb, IsSpelling}
use Rattle.am_leb.proofs.Laws.{uleb_spells}
use Rattle.am_leb.proofs.Answering.{IsBytes}
use Rattle.am_colmeta.specs.Reading.{first_number, parts, behind}
use Rattle.am_colmeta.proofs.Counted.{parts_found, parts_again, length-parts}
use Rattle.am_colmeta.proofs.ReadBack.{numbers_back}
use Rattle.am_doc.specs.Spelling.{IsSuffix}
use Rattle.am_doc.specs.Reading.{places_in}

numbers : (end : ℕ) (places : List ℕ) → end ≤ 2 ^ 64 → AllByRecursion (λ i. i < end) places → AllByRecursion (λ i. i < 2 ^ 64) places
numbers end [] small a = tt
numbers end (i ∷ places) small a = (let b : i < end = a.0 in omega (arith, b), numbers end places small a.1)

-- a number has a byte at least
uleb_some : (n : ℕ) (bytes : List ℕ) → uleb n ++ bytes ≡ [] → ⊥
uleb_some n bytes e = go (uleb n) (uleb_spells n).spelling e
  where
    go : (l : List ℕ) → IsSpelling l → l ++ bytes ≡ [] → ⊥
    go [] s e = absurd s
    go (x ∷ l) s e = absurd (cc)

no_places : (places : List ℕ) → 0 < length places → [] ≡ flat_map uleb places → ⊥
no_places [] some e = absurd (omega arith)
no_places (i ∷ places) some e = uleb_some i (flat_map uleb places) (sym e)

pub suffix_right : (heads metas : ℕ) (bytes : List ℕ) → IsBytes bytes → 0 < heads → 0 < length bytes → behind first_number heads bytes ≡ Some []
    → AllByRecursion (λ i. i < metas) (parts first_number heads bytes) → IsSuffix heads metas bytes (places_in heads bytes)
suffix_right heads metas [] all some filled e a = absurd (omega arith)
suffix_right heads metas (byte ∷ bytes) all some filled e a =
    let found = parts_found first_number uleb (λ i. i < 2 ^ 64) numbers_back heads (byte ∷ bytes) [] all e in
    (found.0 ∙ append-nil (flat_map uleb (parts first_number heads (byte ∷ bytes))), length-parts first_number heads (byte ∷ bytes) (is_some e), some, a)
  where
    is_some : {o : Option (List ℕ)} → o ≡ Some [] → IsSome o
    is_some {o} e = subst IsSome (sym e) refl

-- where there are no bytes, no places are told
pub suffix_none : (heads metas : ℕ) (places : Option (List ℕ)) → IsSuffix heads metas [] places → None ≡ places
suffix_none heads metas None s = refl
suffix_none heads metas (Some places) s = absurd (no_places places (let l : length places ≡ heads = s.1 in omega (arith, l, s.2)) s.0)

pub suffix_again : (heads metas : ℕ) (bytes : List ℕ) (places : Option (List ℕ)) → metas ≤ 2 ^ 64 → 0 < length bytes → IsSuffix heads metas bytes places
    → (behind first_number heads bytes ≡ Some []) × AllByRecursion (λ i. i < metas) (parts first_number heads bytes) × (places_in heads bytes ≡ places)
suffix_again heads metas [] places small filled s = absurd (omega arith)
suffix_again heads metas (byte ∷ bytes) None small filled s = absurd (omega (arith, ap length s))
suffix_again heads metas (byte ∷ bytes) (Some places) small filled s =
    let again = parts_again first_number uleb (λ i. i < 2 ^ 64) numbers_back places [] (numbers metas places small s.3) in
    let flat : byte ∷ bytes ≡ flat_map uleb places ++ [] = s.0 ∙ sym (append-nil (flat_map uleb places)) in
    let read : parts first_number heads (byte ∷ bytes) ≡ places = ap (λ n. parts first_number n (byte ∷ bytes)) (sym s.1) ∙ ap (parts first_number (length places)) flat ∙ again.1 in
    (ap (λ n. behind first_number n (byte ∷ bytes)) (sym s.1) ∙ ap (behind first_number (length places)) flat ∙ again.0, subst (AllByRecursion (λ i. i < metas)) (sym read) s.3, ap Some read)

-- bytes tell one list of places
pub suffix_one : (heads metas : ℕ) (bytes : List ℕ) (xs ys : Option (List ℕ)) → metas ≤ 2 ^ 64 → IsSuffix heads metas bytes xs → IsSuffix heads metas bytes ys → xs ≡ ys
suffix_one heads metas [] xs ys small p q = sym (suffix_none heads metas xs p) ∙ suffix_none heads metas ys q
suffix_one heads metas (byte ∷ bytes) xs ys small p q =
    let first = suffix_again heads metas (byte ∷ bytes) xs small (omega arith) p in
    let second = suffix_again heads metas (byte ∷ bytes) ys small (omega arith) q in
    sym first.2 ∙ second.2

-- bytes that are known to be such places are read as these
pub places_known : (heads metas : ℕ) (bytes : List ℕ) (places : Option (List ℕ)) → metas ≤ 2 ^ 64 → IsSuffix heads metas bytes places → places_in heads bytes ≡ places
places_known heads metas [] places small s = suffix_none heads metas places s
places_known heads metas (byte ∷ bytes) places small s = (suffix_again heads metas (byte ∷ bytes) places small (omega arith) s).2
