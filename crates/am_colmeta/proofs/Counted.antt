-- Parts that are read one after another, for any kind of part that is read back.
use Rattle.std.proofs.Common.{◌≡◌, ℕ, suc, zero, ◌+◌, ◌-◌, ◌<◌, List, [], ◌∷◌, ◌++◌, length, drop, get_or, Option, Some, None, IsSome, refl, sym, ap, ◌∙◌, subst, arith, append_assoc}
use Rattle.std.specs.List.{flat_map, AllByRecursion}
use Rattle.std.proofs.lemmas.List.{get_or-drop, drop_at}
use Rattle.am_leb.proofs.Answering.{IsBytes}
use Rattle.am_colmeta.specs.Reading.{parts, behind, read_on, go_on}

-- what is read stands there, and what stands there is read
pub record ReadsBack {A : Type 0} (first : List ℕ → Option (A × List ℕ)) (bytes_of : A → List ℕ) (IsGood : A → Type 0) : Type 0 where
  pub found : (bytes : List ℕ) (part : A) (rest : List ℕ) → IsBytes bytes → first bytes ≡ Some (part, rest) → IsGood part × (bytes ≡ bytes_of part ++ rest)
  pub again : (part : A) (rest : List ℕ) → IsGood part → first (bytes_of part ++ rest) ≡ Some (part, rest)

pub IsBytes-behind : (front rest : List ℕ) → IsBytes (front ++ rest) → IsBytes rest
IsBytes-behind front rest all i =
    let e : get_or (drop (length front) (front ++ rest)) i 0 ≡ get_or (front ++ rest) (length front + i) 0 = get_or-drop (length front) (front ++ rest) i 0 in
    subst (λ l. get_or l i 0 < 256) (drop_at front rest (length front) refl) (subst (λ n. n < 256) (sym e) (all (length front + i)))

-- ---- one step

pub behind-one : {A : Type 0} (first : List ℕ → Option (A × List ℕ)) (n : ℕ) (bytes : List ℕ) (part : A) (rest : List ℕ) → 0 < n → first bytes ≡ Some (part, rest) → behind first n bytes ≡ behind first (n - 1) rest
behind-one first zero bytes part rest h e = absurd (omega arith)
behind-one first (suc n) bytes part rest h e =
    subst (λ m. go_on (behind first n) (first bytes) ≡ behind first m rest) (let s : n ≡ suc n - 1 = omega arith in s) (ap (go_on (behind first n)) e)

pub parts-one : {A : Type 0} (first : List ℕ → Option (A × List ℕ)) (n : ℕ) (bytes : List ℕ) (part : A) (rest : List ℕ) → 0 < n → first bytes ≡ Some (part, rest) → parts first n bytes ≡ part ∷ parts first (n - 1) rest
parts-one first zero bytes part rest h e = absurd (omega arith)
parts-one first (suc n) bytes part rest h e =
    subst (λ m. read_on (parts first n) (first bytes) ≡ part ∷ parts first m rest) (let s : n ≡ suc n - 1 = omega arith in s) (ap (read_on (parts first n)) e)

pub length-parts : {A : Type 0} (first : List ℕ → Option (A × List ℕ)) (n : ℕ) (bytes : List ℕ) → IsSome (behind first n bytes) → length (parts first n bytes) ≡ n
length-parts first zero bytes h = refl
length-parts {A = A} first (suc n) bytes h = elim (first bytes) as (λ o. IsSome (go_on (behind first n) o) → length (read_on (parts first n) o) ≡ suc n) [
  | None ↦ λ g. absurd (cc g)
  | Some x ↦ λ g. ap suc (length-parts first n x.1 g)
] h

-- ---- all of them

pub parts_found : {A : Type 0} (first : List ℕ → Option (A × List ℕ)) (bytes_of : A → List ℕ) (IsGood : A → Type 0) → ReadsBack first bytes_of IsGood → (n : ℕ) (bytes rest : List ℕ) → IsBytes bytes → behind first n bytes ≡ Some rest
    → (bytes ≡ flat_map bytes_of (parts first n bytes) ++ rest) × AllByRecursion IsGood (parts first n bytes)
parts_found first bytes_of IsGood back zero bytes rest all e = (cc, tt)
parts_found {A = A} first bytes_of IsGood back (suc n) bytes rest all e = elim (first bytes) as (λ o. first bytes ≡ o → go_on (behind first n) o ≡ Some rest → (bytes ≡ flat_map bytes_of (read_on (parts first n) o) ++ rest) × AllByRecursion IsGood (read_on (parts first n) o)) [
  | None ↦ λ q g. absurd (cc)
  | Some x ↦ λ q g.
      let w = back.found bytes x.0 x.1 all q in
      let more = parts_found first bytes_of IsGood back n x.1 rest (IsBytes-behind (bytes_of x.0) x.1 (subst IsBytes w.1 all)) g in
      (w.1 ∙ ap (λ l. bytes_of x.0 ++ l) more.0 ∙ sym (append_assoc (bytes_of x.0) (flat_map bytes_of (parts first n x.1)) rest), (w.0, more.1))
] refl e

pub parts_again : {A : Type 0} (first : List ℕ → Option (A × List ℕ)) (bytes_of : A → List ℕ) (IsGood : A → Type 0) → ReadsBack first bytes_of IsGood → (list : List A) (rest : List ℕ) → AllByRecursion IsGood list
    → (behind first (length list) (flat_map bytes_of list ++ rest) ≡ Some rest) × (parts first (length list) (flat_map bytes_of list ++ rest) ≡ list)
parts_again first bytes_of IsGood back [] rest good = (refl, refl)
parts_again first bytes_of IsGood back (part ∷ list) rest good =
    let whole : flat_map bytes_of (part ∷ list) ++ rest ≡ bytes_of part ++ (flat_map bytes_of list ++ rest) = append_assoc (bytes_of part) (flat_map bytes_of list) rest in
    let one = ap first whole ∙ back.again part (flat_map bytes_of list ++ rest) good.0 in
    let more = parts_again first bytes_of IsGood back list rest good.1 in
    (ap (go_on (behind first (length list))) one ∙ more.0, ap (read_on (parts first (length list))) one ∙ ap (λ l. part ∷ l) more.1)
