-- Rows that are passed over.
use Rattle.std.proofs.Common.{◌≡◌, ◌≢◌, ℕ, zero, suc, add-one, ◌+◌, ◌-◌, ◌<◌, ◌≤◌, ◌∙◌, get_or, List, [], ◌∷◌, length, take, drop, map, true, false, refl, sym, ap, subst, inl, inr, Contains, arith}
use Rattle.std.specs.List.{AllByRecursion}
use Rattle.std.specs.List.Sorted.{IsBinarySearchResult, IsSearchInRange, IsSorted}
use Rattle.std.specs.Ordering.{nat_cmp}
use Rattle.std.specs.Prelude.{Bool, not, Result, Ok, Err, is_ok}
use Rattle.std.specs.declared.cmp.Ordering.TheVariants.{Less, Equal, Greater}
use Rattle.std.proofs.lemmas.Bool.{both_ways, cases_lt}
use Rattle.std.proofs.lemmas.Cmp.{nat_cmp_total, ranked}
use Rattle.std.proofs.lemmas.List.{length-drop, get_or-drop}
use Rattle.std.proofs.lemmas.List.Sorted.{searchable_from_sorted, IsNonDecreasingBy-from_sort}
use Rattle.am_types.specs.declared.OpId.{OpId}
use Rattle.am_doccols.specs.Skipping.{IsUnnamed}

-- ---- a search for a number

equal_is : (y x : ℕ) → nat_cmp y x ≡ Equal → y ≡ x
equal_is y x h = ranked y x Equal (sym h)

less_apart : (y x : ℕ) → nat_cmp y x ≡ Less → y ≡ x → ⊥
less_apart y x h e = let l : y < x = ranked y x Less (sym h) in omega (arith, e)

greater_apart : (y x : ℕ) → nat_cmp y x ≡ Greater → y ≡ x → ⊥
greater_apart y x h e = let l : x < y = ranked y x Greater (sym h) in omega (arith, e)

pub found : (xs : List ℕ) (x : ℕ) (r : Result ℕ ℕ) → IsSearchInRange r (length xs) → IsBinarySearchResult (λ y. nat_cmp y x) xs r → is_ok r ≡ true → Contains xs x
found xs x (Ok i) low h t = (i, low, equal_is _ x (h x))
found xs x (Err i) low h t = absurd (both_ways false refl t)

pub missed : (xs : List ℕ) (x : ℕ) (r : Result ℕ ℕ) → IsSorted nat_cmp xs → IsBinarySearchResult (λ y. nat_cmp y x) xs r → is_ok r ≡ false → Contains xs x → ⊥
missed xs x (Ok i) up h f c = both_ways true f refl
missed xs x (Err i) up h f (k, l, e) =
    let parts = h (searchable_from_sorted nat_cmp_total (λ y. y) xs x up) in
    elim (cases_lt k i) [
      | inl less ↦ less_apart _ x (parts.0 k x (omega arith) less) e
      | inr more ↦ greater_apart _ x (parts.1 k x more l) e
    ]

-- ---- items in front

all_further : {A : Type 0} (P : A → Type 0) (i : ℕ) (xs ys : List A) (x : A) → drop i xs ≡ x ∷ ys → P x → AllByRecursion P (take i xs) → AllByRecursion P (take (suc i) xs)
all_further P zero [] ys x e p all = absurd (cc)
all_further P zero (z ∷ xs) ys x e p all = let same : x ≡ z = cc in (subst P same p, tt)
all_further P (suc i) [] ys x e p all = absurd (cc)
all_further P (suc i) (z ∷ xs) ys x e p all = (all.0, all_further P i xs ys x e p all.1)

pub all_more : {A : Type 0} (P : A → Type 0) (i : ℕ) (xs ys : List A) (x : A) → drop i xs ≡ x ∷ ys → P x → AllByRecursion P (take i xs) → AllByRecursion P (take (i + 1) xs)
all_more P i xs ys x e p all = subst (λ k. AllByRecursion P (take k xs)) (sym (add-one i)) (all_further P i xs ys x e p all)

pub all_mapped : {A B : Type 0} (P : B → Type 0) (f : A → B) (xs : List A) → AllByRecursion P (map f xs) → AllByRecursion (λ x. P (f x)) xs
all_mapped P f [] all = tt
all_mapped P f (x ∷ xs) all = (all.0, all_mapped P f xs all.1)

pub none_behind : {A : Type 0} (n : ℕ) (xs ys : List A) (x : A) → n ≡ length xs → drop n xs ≡ x ∷ ys → ⊥
none_behind n xs ys x e f = omega (arith, e, length-drop n xs, ap length f)

-- ---- the numbers from one on

rising : (xs : List ℕ) (i j d : ℕ) → IsSorted nat_cmp xs → i ≤ j → j < length xs → get_or xs i d ≤ get_or xs j d
rising xs i j d up h l = IsNonDecreasingBy-from_sort (λ y. y) xs up i j d h l

at_any : (xs : List ℕ) (k d e : ℕ) → k < length xs → get_or xs k d ≡ get_or xs k e
at_any [] k d e h = absurd (omega arith)
at_any (x ∷ xs) zero d e h = refl
at_any (x ∷ xs) (suc k) d e h = at_any xs k d e (omega arith)

-- numbers that are not below what was searched stand behind its place
behind_place : (xs : List ℕ) (low at x k : ℕ) → IsSorted nat_cmp xs → IsBinarySearchResult (λ y. nat_cmp y low) xs (Err at) → low ≤ x → k < length xs → get_or xs k x ≡ x → at ≤ k
behind_place xs low at x k up h l b e =
    let parts = h (searchable_from_sorted nat_cmp_total (λ y. y) xs low up) in
    elim (cases_lt k at) [
      | inl less ↦ absurd (let q : get_or xs k x < low = ranked _ low Less (sym (parts.0 k x (omega arith) less)) in omega (arith, e))
      | inr more ↦ more
    ]

pub none_from : (xs : List ℕ) (low at : ℕ) → IsSorted nat_cmp xs → IsBinarySearchResult (λ y. nat_cmp y low) xs (Err at) → length xs ≤ at → (x : ℕ) → low ≤ x → Contains xs x → ⊥
none_from xs low at up h far x l (k, b, e) = let q = behind_place xs low at x k up h l b e in omega (arith, q)

pub least_there : (xs : List ℕ) (low at c : ℕ) → IsSorted nat_cmp xs → IsBinarySearchResult (λ y. nat_cmp y low) xs (Err at) → at < length xs → c ≡ get_or xs at 0 → (x : ℕ) → low ≤ x → x < c → Contains xs x → ⊥
least_there xs low at c up h here is x l less (k, b, e) =
    let q = behind_place xs low at x k up h l b e in
    omega (arith, is, at_any xs at 0 x here, rising xs at k x up q b, e)

pub least_found : (xs : List ℕ) (low at c : ℕ) → IsSorted nat_cmp xs → IsBinarySearchResult (λ y. nat_cmp y low) xs (Err at) → at < length xs → c ≡ get_or xs at 0 → (low ≤ c) × Contains xs c
least_found xs low at c up h here is =
    let parts = h (searchable_from_sorted nat_cmp_total (λ y. y) xs low up) in
    let more : low < get_or xs at 0 = ranked _ low Greater (sym (parts.1 at 0 (omega arith) here)) in
    (omega (arith, is), (at, here, at_any xs at c 0 here ∙ sym is))

-- beside the first and the last there are none
pub above_all : (xs : List ℕ) (low last : ℕ) → IsSorted nat_cmp xs → last + 1 ≡ length xs → get_or xs last 0 < low → (x : ℕ) → low ≤ x → Contains xs x → ⊥
above_all xs low last up all less x l (k, b, e) =
    omega (arith, e, rising xs k last x up (omega arith) (omega arith), at_any xs last 0 x (omega arith))

pub below_all : (xs : List ℕ) (high : ℕ) → IsSorted nat_cmp xs → high < get_or xs 0 0 → (x : ℕ) → x ≤ high → Contains xs x → ⊥
below_all xs high up more x l (k, b, e) =
    omega (arith, e, rising xs 0 k x up (omega arith) b, at_any xs 0 0 x (omega arith))

-- ---- counters of ids

abbrev pub counters_of : List OpId → List ℕ
counters_of ids = map (λ (i : OpId). i.counter) ids

pub all_unnamed : (counters : List ℕ) (n : ℕ) (ids : List OpId) → n ≤ length ids → ((j : ℕ) → j < n → Contains counters (get_or (counters_of ids) j 0) → ⊥) → AllByRecursion (IsUnnamed counters) (take n ids)
all_unnamed counters zero ids few none = tt
all_unnamed counters (suc n) [] few none = tt
all_unnamed counters (suc n) (i ∷ ids) few none = (none 0 (omega arith), all_unnamed counters n ids (omega arith) (λ j h. none (suc j) (omega arith)))

counter_at : (n : ℕ) (ids rest : List OpId) (i : OpId) → drop n ids ≡ i ∷ rest → get_or (counters_of ids) n 0 ≡ i.counter
counter_at zero [] rest i e = absurd (cc)
counter_at zero (j ∷ ids) rest i e = let same : j ≡ i = cc in ap (λ (x : OpId). x.counter) same
counter_at (suc n) [] rest i e = absurd (cc)
counter_at (suc n) (j ∷ ids) rest i e = counter_at n ids rest i e

-- the next numbers are not named either
pub unnamed_further : (counters ns from : List ℕ) (n k : ℕ) → from ≡ drop n ns → ((j : ℕ) → j < n → Contains counters (get_or ns j 0) → ⊥) → ((j : ℕ) → j < k → Contains counters (get_or from j 0) → ⊥) → (j : ℕ) → j < n + k → Contains counters (get_or ns j 0) → ⊥
unnamed_further counters ns from n k e front more j h named = elim (cases_lt j n) [
  | inl less ↦ front j less named
  | inr past ↦
      let there : get_or from (j - n) 0 ≡ get_or ns j 0 = ap (λ l. get_or l (j - n) 0) e ∙ get_or-drop n ns (j - n) 0 ∙ ap (λ i. get_or ns i 0) (let q : n + (j - n) ≡ j = omega arith in q) in
      more (j - n) (omega arith) (subst (Contains counters) (sym there) named)
]

-- the one behind them is named
pub next_named : (counters : List ℕ) (ids : List OpId) (from : List ℕ) (n k : ℕ) → from ≡ drop n (counters_of ids) → Contains counters (get_or from k 0) → (i : OpId) (rest : List OpId) → drop (n + k) ids ≡ i ∷ rest → Contains counters i.counter
next_named counters ids from n k e named i rest d =
    subst (Contains counters) (ap (λ l. get_or l k 0) e ∙ get_or-drop n (counters_of ids) k 0 ∙ counter_at (n + k) ids rest i d) named

pub last_behind : (xs : List ℕ) → xs ≢ [] → length xs - 1 + 1 ≡ length xs
last_behind [] some = absurd (some refl)
last_behind (x ∷ xs) some = omega arith

pub yes_from_not : (b : Bool) → not b ≡ false → b ≡ true
yes_from_not true e = refl
yes_from_not false e = absurd (cc)
