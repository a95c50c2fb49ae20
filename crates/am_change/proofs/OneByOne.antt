-- What is found of ids, and of what is read as operations, one after another.
--     at_pair, pair_next       two neighbours, where all ascend; where those up to the first do and the two do
--     all_read, all_given      what is true of each that is read, and of what it is read as
use Rattle.std.proofs.Common.{◌≡◌, ℕ, ◌+◌, ◌-◌, ◌<◌, List, [], ◌∷◌, length, map, get_or, sym, ap, ◌∙◌, arith, Less}
use Rattle.std.specs.Prelude.{All}
use Rattle.std.specs.List.{AllAdjacentBelow}
use Rattle.std.proofs.lemmas.List.Elements.{All-nil, All-cons, All-head, All-tail}
use Rattle.std.proofs.lemmas.List.Sorted.{all_adjacent_more}
use Rattle.am_types.specs.declared.OpId.{OpId}
use Rattle.am_types.specs.Order.{id_cmp, Ascends}

pub at_pair : (ids : List OpId) (i : ℕ) (a b : OpId) → 0 < i → i < length ids → ((d : OpId) → a ≡ get_or ids (i - 1) d) → ((d : OpId) → b ≡ get_or ids i d) → Ascends id_cmp ids → id_cmp a b ≡ Less
at_pair ids i a b some within first second up =
    let next : i ≡ i - 1 + 1 = omega arith in
    (λ j. id_cmp (first a j) (second a j)) ∙ ap (λ (k : ℕ). id_cmp (get_or ids (i - 1) a) (get_or ids k a)) next ∙ up (i - 1) a (omega arith)

pub pair_next : (ids : List OpId) (i : ℕ) (a b : OpId) → 0 < i → ((d : OpId) → a ≡ get_or ids (i - 1) d) → ((d : OpId) → b ≡ get_or ids i d) → id_cmp a b ≡ Less
    → AllAdjacentBelow (λ (x y : OpId). id_cmp x y ≡ Less) ids i → AllAdjacentBelow (λ (x y : OpId). id_cmp x y ≡ Less) ids (i + 1)
pair_next ids i a b some first second less up =
    all_adjacent_more ids (λ (x y : OpId). id_cmp x y ≡ Less) i some up (λ d. sym (λ j. id_cmp (first d j) (second d j)) ∙ less)

pub all_read : {X Y : Type 0} (P : Y → Type 0) (f : X → Y) (xs : List X) → All (λ x. P (f x)) xs → All P (map f xs)
all_read P f [] all = All-nil P
all_read P f (x ∷ xs) all = All-cons P (f x) (map f xs) (All-head (λ x. P (f x)) x xs all) (all_read P f xs (All-tail (λ x. P (f x)) x xs all))

pub all_given : {X Y : Type 0} (P : Y → Type 0) (f : X → Y) (xs : List X) → All P (map f xs) → All (λ x. P (f x)) xs
all_given P f [] all = All-nil (λ x. P (f x))
all_given P f (x ∷ xs) all = All-cons (λ x. P (f x)) x xs (All-head P (f x) (map f xs) all) (all_given P f xs (All-tail P (f x) (map f xs) all))
