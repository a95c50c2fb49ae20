-- Lent names, sorted and rid of repeats.
use Rattle.std.proofs.Common.{ℕ, ◌≡◌, ◌+◌, List, [], ◌∷◌, ◌++◌, length, get_or, map, Bool, true, false, cond, Bor, All, IsPermutation, refl, sym, subst, ◌∙◌, arith}
use Rattle.std.specs.List.{dedup, dedup_from}
use Rattle.std.specs.List.Sorted.{IsSorted}
use Rattle.std.specs.Ordering.{on, is_lt}
use Rattle.std.proofs.lemmas.Cmp.{nat_list_cmp_total}
use Rattle.std.proofs.lemmas.List.{get_or-map, length-map}
use Rattle.std.proofs.lemmas.List.Elements.{All-append, All-map}
use Rattle.std.proofs.lemmas.List.Sorted.{IsPermutation-map}
use Rattle.am_types.specs.declared.Change.{Change}
use Rattle.am_fields.specs.Limits.{IsShortActor}
use Rattle.std.proofs.lemmas.Map.Lookups.{exact_bytes}
use Rattle.am_types.specs.Order.{bytes_cmp, sorted_by}
use Rattle.am_types.specs.Same.{same_bytes}
use Rattle.am_graph.proofs.SortCalls.{sorted_is}

abbrev pub Lent : Type 0
Lent = Bor (List ℕ)

abbrev pub bytes_of : Lent → List ℕ
bytes_of a = a.now

abbrev pub same_lent : Lent → Lent → Bool
same_lent a b = same_bytes a.now b.now

-- ---- without repeats

either : (b : Bool) (xs ys : List Lent) → map bytes_of (cond b xs ys) ≡ cond b (map bytes_of xs) (map bytes_of ys)
either true xs ys = refl
either false xs ys = refl

once_from : (xs : List Lent) (k : Lent) → map bytes_of (dedup_from same_lent k xs) ≡ dedup_from same_bytes k.now (map bytes_of xs)
once_from [] k = refl
once_from (x ∷ xs) k = rw (either, once_from xs k, once_from xs x)

pub once : (xs : List Lent) → map bytes_of (dedup same_lent xs) ≡ dedup same_bytes (map bytes_of xs)
once [] = refl
once (x ∷ xs) = once_from xs x

-- ---- sorted

sorted_bytes : (xs : List Lent) → IsSorted (on bytes_of bytes_cmp) xs → IsSorted bytes_cmp (map bytes_of xs)
sorted_bytes [] up k d z l = absurd (omega arith)
sorted_bytes (x ∷ xs) up k d z l =
    let long : length (map bytes_of (x ∷ xs)) ≡ length (x ∷ xs) = length-map (x ∷ xs) bytes_of in
    let upper : get_or (map bytes_of (x ∷ xs)) (k + 1) d ≡ bytes_of (get_or (x ∷ xs) (k + 1) x) = get_or-map bytes_of (x ∷ xs) (k + 1) x d (omega arith) in
    let lower : get_or (map bytes_of (x ∷ xs)) k d ≡ bytes_of (get_or (x ∷ xs) k x) = get_or-map bytes_of (x ∷ xs) k x d (omega arith) in
    (λ i. is_lt (bytes_cmp (upper i) (lower i))) ∙ up k x z (omega arith)

pub sorted : (xs ys : List Lent) → IsPermutation xs ys → IsSorted (on bytes_of bytes_cmp) ys → map bytes_of ys ≡ sorted_by bytes_cmp (map bytes_of xs)
sorted xs ys same up =
    sorted_is nat_list_cmp_total (λ _. Unit {0}) (λ x y _ _ e. exact_bytes x y e) (map bytes_of xs) (map bytes_of ys) (λ k d l. tt)
    (IsPermutation-map bytes_of xs ys same) (sorted_bytes ys up)

-- ---- short names

in_map : {X Y : Type 0} (P : Y → Type 0) (f : X → Y) (xs : List X) → All P (map f xs) → All (λ x. P (f x)) xs
in_map P f xs all k d l =
    let long = length-map xs f in
    subst P (get_or-map f xs k d (f d) l) (all k (f d) (omega arith))

-- the names of a list, and of authors behind it
pub short_all : (names : List Lent) (old : List (List ℕ)) (cs : List (Bor Change)) → map bytes_of names ≡ old ++ map (λ (c : Bor Change). c.now.actor) cs
    → All IsShortActor old → All (λ (c : Bor Change). IsShortActor c.now.actor) cs → All (λ (a : Lent). IsShortActor a.now) names
short_all names old cs e a b =
    in_map IsShortActor bytes_of names (subst (All IsShortActor) (sym e)
    (All-append IsShortActor old (map (λ (c : Bor Change). c.now.actor) cs) a (All-map IsShortActor (λ (c : Bor Change). c.now.actor) cs b)))
