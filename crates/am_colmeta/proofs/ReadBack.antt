-- Numbers, pairs and bytes behind their length are read back, and counted lists of them.
use Rattle.std.proofs.Common.{◌≡◌, ℕ, suc, zero, ◌+◌, ◌-◌, ◌^◌, ◌<◌, ◌≤◌, Bool, true, false, nat_le, cond, List, [], ◌∷◌, ◌++◌, length, take, drop, Option, Some, None, IsSome, Ok, Err, refl, sym, ap, ◌∙◌, subst, arith, append_assoc, length-append}
use Rattle.std.specs.List.{flat_map, AllByRecursion}
use Rattle.std.proofs.lemmas.List.{take_at, drop_at, take-append-drop}
use Rattle.std.proofs.lemmas.Bool.Decides.{nat_tests}
use Rattle.am_leb.specs.Leb.{uleb}
use Rattle.am_leb.specs.Reading.{first_unsigned}
use Rattle.am_leb.proofs.OneByte.{first_unsigned-low}
use Rattle.am_leb.proofs.Answering.{IsBytes, first_unsigned-front, first_unsigned-uleb}
use Rattle.am_colmeta.specs.Metadata.{pair_bytes, IsPair}
use Rattle.am_colmeta.specs.Actors.{prefixed, IsPrefixed}
use Rattle.am_colmeta.specs.Reading.{number_by, first_number, with_length, pair_by, first_pair, prefixed_by, first_prefixed, parts, behind}
use Rattle.am_colmeta.proofs.Counted.{ReadsBack, IsBytes-behind, parts_found, parts_again, length-parts}

abbrev IsNumber : ℕ → Type 0
IsNumber n = n < 2 ^ 64

number_found : (bytes : List ℕ) (n : ℕ) (rest : List ℕ) → IsBytes bytes → first_number bytes ≡ Some (n, rest) → IsNumber n × (bytes ≡ uleb n ++ rest)
number_found bytes n rest all e = elim (first_unsigned bytes) as (λ o. first_unsigned bytes ≡ o → number_by bytes o ≡ Some (n, rest) → IsNumber n × (bytes ≡ uleb n ++ rest)) [
  | Err fault ↦ λ q g. absurd (cc)
  | Ok x ↦ λ q g.
      let w = first_unsigned-front bytes x.0 x.1 all q in
      let p : ◌≡◌ {A = ℕ × List ℕ} (x.0, drop x.1 bytes) (n, rest) = cc in
      let number : x.0 ≡ n = ap (λ (y : ℕ × List ℕ). y.0) p in
      let tail : drop x.1 bytes ≡ rest = ap (λ (y : ℕ × List ℕ). y.1) p in
      (subst IsNumber number w.0, w.2 ∙ ap (λ m. uleb m ++ drop x.1 bytes) number ∙ ap (λ l. uleb n ++ l) tail)
] refl e

number_again : (n : ℕ) (rest : List ℕ) → IsNumber n → first_number (uleb n ++ rest) ≡ Some (n, rest)
number_again n rest h =
    ap (number_by (uleb n ++ rest)) (first_unsigned-uleb n rest h) ∙ ap (λ l. Some (n, l)) (drop_at (uleb n) rest (length (uleb n)) refl)

-- a number of one byte
pub low_number : (bytes rest : List ℕ) (b : ℕ) → b < 128 → bytes ≡ b ∷ rest → Some (b, rest) ≡ first_number bytes
low_number bytes rest b h e = ap (λ l. Some (b, l)) (sym (ap (drop 1) e)) ∙ sym (ap (number_by bytes) (first_unsigned-low bytes rest b h e))

pub numbers_back : ReadsBack first_number uleb IsNumber
numbers_back = record { found = number_found; again = number_again }

pair_found : (bytes : List ℕ) (pair : ℕ × ℕ) (rest : List ℕ) → IsBytes bytes → first_pair bytes ≡ Some (pair, rest) → IsPair pair × (bytes ≡ pair_bytes pair ++ rest)
pair_found bytes pair rest all e = elim (first_number bytes) as (λ o. first_number bytes ≡ o → pair_by o ≡ Some (pair, rest) → IsPair pair × (bytes ≡ pair_bytes pair ++ rest)) [
  | None ↦ λ q g. absurd (cc)
  | Some x ↦ λ q g.
      let w = number_found bytes x.0 x.1 all q in
      let inner = IsBytes-behind (uleb x.0) x.1 (subst IsBytes w.1 all) in
      elim (first_number x.1) as (λ o. first_number x.1 ≡ o → with_length x.0 o ≡ Some (pair, rest) → IsPair pair × (bytes ≡ pair_bytes pair ++ rest)) [
        | None ↦ λ r h. absurd (cc)
        | Some y ↦ λ r h.
            let v = number_found x.1 y.0 y.1 inner r in
            let p : ◌≡◌ {A = (ℕ × ℕ) × List ℕ} ((x.0, y.0), y.1) (pair, rest) = cc in
            let same : ◌≡◌ {A = ℕ × ℕ} (x.0, y.0) pair = ap (λ (z : (ℕ × ℕ) × List ℕ). z.0) p in
            let tail : y.1 ≡ rest = ap (λ (z : (ℕ × ℕ) × List ℕ). z.1) p in (
              subst IsPair same (w.0, v.0),
              w.1 ∙ ap (λ l. uleb x.0 ++ l) v.1 ∙ sym (append_assoc (uleb x.0) (uleb y.0) y.1) ∙ ap (λ q. pair_bytes q ++ y.1) same ∙ ap (λ l. pair_bytes pair ++ l) tail,
            )
      ] refl g
] refl e

pair_again : (pair : ℕ × ℕ) (rest : List ℕ) → IsPair pair → first_pair (pair_bytes pair ++ rest) ≡ Some (pair, rest)
pair_again pair rest h =
    ap first_pair (append_assoc (uleb pair.0) (uleb pair.1) rest)
    ∙ ap pair_by (number_again pair.0 (uleb pair.1 ++ rest) h.0)
    ∙ ap (with_length pair.0) (number_again pair.1 rest h.1)

pub pairs_back : ReadsBack first_pair pair_bytes IsPair
pairs_back = record { found = pair_found; again = pair_again }

prefixed_found : (bytes part rest : List ℕ) → IsBytes bytes → first_prefixed bytes ≡ Some (part, rest) → IsPrefixed part × (bytes ≡ prefixed part ++ rest)
prefixed_found bytes part rest all e = elim (first_number bytes) as (λ o. first_number bytes ≡ o → prefixed_by o ≡ Some (part, rest) → IsPrefixed part × (bytes ≡ prefixed part ++ rest)) [
  | None ↦ λ q g. absurd (cc)
  | Some x ↦ λ q g.
      let w = number_found bytes x.0 x.1 all q in
      elim (nat_le x.0 (length x.1)) as (λ b. nat_le x.0 (length x.1) ≡ b → ◌≡◌ {A = Option (List ℕ × List ℕ)} (cond b (Some (take x.0 x.1, drop x.0 x.1)) None) (Some (part, rest)) → IsPrefixed part × (bytes ≡ prefixed part ++ rest)) [
        | false ↦ λ t h. absurd (cc)
        | true ↦ λ t h.
            let room : x.0 ≤ length x.1 = grind (arith, nat_tests) in
            let p : ◌≡◌ {A = List ℕ × List ℕ} (take x.0 x.1, drop x.0 x.1) (part, rest) = cc in
            let front : take x.0 x.1 ≡ part = ap (λ (z : List ℕ × List ℕ). z.0) p in
            let tail : drop x.0 x.1 ≡ rest = ap (λ (z : List ℕ × List ℕ). z.1) p in
            fits bytes x.0 x.1 part rest w.0 w.1 room front tail
      ] refl g
] refl e
  where
    fits : (bytes : List ℕ) (n : ℕ) (more part rest : List ℕ) → n < 2 ^ 64 → bytes ≡ uleb n ++ more → n ≤ length more → take n more ≡ part → drop n more ≡ rest → IsPrefixed part × (bytes ≡ prefixed part ++ rest)
    fits bytes n more part rest h e room front tail =
        let size : n ≡ length part = sym (taken n more room) ∙ ap length front in (
          omega arith,
          e ∙ ap (λ l. uleb n ++ l) (sym (take-append-drop n more)) ∙ ap (λ l. uleb n ++ (l ++ drop n more)) front ∙ ap (λ l. uleb n ++ (part ++ l)) tail
              ∙ ap (λ m. uleb m ++ (part ++ rest)) size ∙ sym (append_assoc (uleb (length part)) part rest),
        )
      where
        taken : (n : ℕ) (l : List ℕ) → n ≤ length l → length (take n l) ≡ n
        taken zero l h = refl
        taken (suc n) [] h = absurd (omega arith)
        taken (suc n) (x ∷ l) h = ap suc (taken n l (omega arith))

prefixed_again : (part rest : List ℕ) → IsPrefixed part → first_prefixed (prefixed part ++ rest) ≡ Some (part, rest)
prefixed_again part rest h =
    let room : nat_le (length part) (length (part ++ rest)) ≡ true = grind (arith, nat_tests, length-append part rest) in
    ap first_prefixed (append_assoc (uleb (length part)) part rest)
    ∙ ap prefixed_by (number_again (length part) (part ++ rest) h)
    ∙ ap (λ b. cond b (Some (take (length part) (part ++ rest), drop (length part) (part ++ rest))) None) room
    ∙ ap (λ l. Some (l, drop (length part) (part ++ rest))) (take_at part rest (length part) refl)
    ∙ ap (λ l. Some (part, l)) (drop_at part rest (length part) refl)

pub prefixed_back : ReadsBack first_prefixed prefixed IsPrefixed
prefixed_back = record { found = prefixed_found; again = prefixed_again }

-- ---- counted lists

pub counted_found : {A : Type 0} (first : List ℕ → Option (A × List ℕ)) (bytes_of : A → List ℕ) (IsGood : A → Type 0) → ReadsBack first bytes_of IsGood → (bytes more rest : List ℕ) (n : ℕ) → IsBytes bytes → first_number bytes ≡ Some (n, more) → behind first n more ≡ Some rest
    → (bytes ≡ (uleb (length (parts first n more)) ++ flat_map bytes_of (parts first n more)) ++ rest) × (length (parts first n more) < 2 ^ 64) × AllByRecursion IsGood (parts first n more)
counted_found first bytes_of IsGood back bytes more rest n all e h =
    let w = number_found bytes n more all e in
    let inner = IsBytes-behind (uleb n) more (subst IsBytes w.1 all) in
    let v = parts_found first bytes_of IsGood back n more rest inner h in
    let some : IsSome (behind first n more) = ap is_there h in
    let count : n ≡ length (parts first n more) = sym (length-parts first n more some) in (
      w.1 ∙ ap (λ l. uleb n ++ l) v.0 ∙ sym (append_assoc (uleb n) (flat_map bytes_of (parts first n more)) rest) ∙ ap (λ m. (uleb m ++ flat_map bytes_of (parts first n more)) ++ rest) count,
      subst (λ m. m < 2 ^ 64) count w.0,
      v.1,
    )
  where
    is_there : Option (List ℕ) → Bool
    is_there None = false
    is_there (Some x) = true

pub counted_again : {A : Type 0} (first : List ℕ → Option (A × List ℕ)) (bytes_of : A → List ℕ) (IsGood : A → Type 0) → ReadsBack first bytes_of IsGood → (list : List A) (bytes rest : List ℕ) → length list < 2 ^ 64 → AllByRecursion IsGood list
    → bytes ≡ (uleb (length list) ++ flat_map bytes_of list) ++ rest
    → (first_number bytes ≡ Some (length list, flat_map bytes_of list ++ rest))
    × (behind first (length list) (flat_map bytes_of list ++ rest) ≡ Some rest)
    × (parts first (length list) (flat_map bytes_of list ++ rest) ≡ list)
counted_again first bytes_of IsGood back list bytes rest few good e =
    let v = parts_again first bytes_of IsGood back list rest good in
    (ap first_number (e ∙ append_assoc (uleb (length list)) (flat_map bytes_of list) rest) ∙ number_again (length list) (flat_map bytes_of list ++ rest) few, v.0, v.1)

-- ---- in the form in which the readers meet them

-- the list that a count and its parts spell
abbrev pub counted : {A : Type 0} → (A → List ℕ) → List A → List ℕ
counted bytes_of list = uleb (length list) ++ flat_map bytes_of list

pub read_found : {A : Type 0} (first : List ℕ → Option (A × List ℕ)) (bytes_of : A → List ℕ) (IsGood : A → Type 0) → ReadsBack first bytes_of IsGood → (bytes more rest : List ℕ) (n : ℕ) → IsBytes bytes → Some (n, more) ≡ first_number bytes → Some rest ≡ behind first n more
    → (length rest ≤ length bytes) × (bytes ≡ counted bytes_of (parts first n more) ++ drop (length bytes - length rest) bytes) × (length (parts first n more) < 2 ^ 64) × AllByRecursion IsGood (parts first n more)
read_found first bytes_of IsGood back bytes more rest n all e h =
    let w = counted_found first bytes_of IsGood back bytes more rest n all (sym e) (sym h) in
    let front = counted bytes_of (parts first n more) in
    let size : length bytes ≡ length front + length rest = ap length w.0 ∙ length-append front rest in
    let tail : drop (length bytes - length rest) bytes ≡ rest = ap (drop (length bytes - length rest)) w.0 ∙ drop_at front rest (length bytes - length rest) (omega arith) in
    (omega arith, w.0 ∙ ap (λ l. front ++ l) (sym tail), w.1, w.2)

pub read_only : {A : Type 0} (first : List ℕ → Option (A × List ℕ)) (bytes_of : A → List ℕ) (IsGood : A → Type 0) → ReadsBack first bytes_of IsGood → (list : List A) (bytes tail more rest : List ℕ) (n : ℕ) → length list < 2 ^ 64 → AllByRecursion IsGood list → bytes ≡ counted bytes_of list ++ tail
    → Some (n, more) ≡ first_number bytes → Some rest ≡ behind first n more → (parts first n more ≡ list) × (length bytes - length rest ≡ length (counted bytes_of list))
read_only first bytes_of IsGood back list bytes tail more rest n few good e f h =
    let v = counted_again first bytes_of IsGood back list bytes tail few good e in
    let p : ◌≡◌ {A = ℕ × List ℕ} (n, more) (length list, flat_map bytes_of list ++ tail) = cc in
    let number : n ≡ length list = ap (λ (z : ℕ × List ℕ). z.0) p in
    let behind_it : more ≡ flat_map bytes_of list ++ tail = ap (λ (z : ℕ × List ℕ). z.1) p in
    let same = ap (λ m. behind first m more) number ∙ ap (behind first (length list)) behind_it ∙ v.1 in
    let last : rest ≡ tail = (let q : Some rest ≡ Some tail = h ∙ same in cc) in (
      ap (λ m. parts first m more) number ∙ ap (parts first (length list)) behind_it ∙ v.2,
      omega (arith, ap length e ∙ length-append (counted bytes_of list) tail, ap length last),
    )

pub no_number : {A : Type 0} (first : List ℕ → Option (A × List ℕ)) (bytes_of : A → List ℕ) (IsGood : A → Type 0) → ReadsBack first bytes_of IsGood → (list : List A) (bytes tail : List ℕ) → length list < 2 ^ 64 → AllByRecursion IsGood list → bytes ≡ counted bytes_of list ++ tail → None ≡ first_number bytes → ⊥
no_number first bytes_of IsGood back list bytes tail few good e f =
    let v = counted_again first bytes_of IsGood back list bytes tail few good e in
    let p = v.0 in
    absurd (cc)

pub no_parts : {A : Type 0} (first : List ℕ → Option (A × List ℕ)) (bytes_of : A → List ℕ) (IsGood : A → Type 0) → ReadsBack first bytes_of IsGood → (list : List A) (bytes tail more : List ℕ) (n : ℕ) → length list < 2 ^ 64 → AllByRecursion IsGood list → bytes ≡ counted bytes_of list ++ tail
    → Some (n, more) ≡ first_number bytes → None ≡ behind first n more → ⊥
no_parts first bytes_of IsGood back list bytes tail more n few good e f h =
    let v = counted_again first bytes_of IsGood back list bytes tail few good e in
    let p : ◌≡◌ {A = ℕ × List ℕ} (n, more) (length list, flat_map bytes_of list ++ tail) = cc in
    let number : n ≡ length list = ap (λ (z : ℕ × List ℕ). z.0) p in
    let behind_it : more ≡ flat_map bytes_of list ++ tail = ap (λ (z : ℕ × List ℕ). z.1) p in
    let q : None ≡ Some tail = h ∙ ap (λ m. behind first m more) number ∙ ap (behind first (length list)) behind_it ∙ v.1 in
    absurd (cc)
