-- The hashes of a round, each at its place.
use Rattle.std.proofs.Common.{◌≡◌, ◌≤◌, ◌+◌, zero, suc, List, [], ◌∷◌, length, get_or, refl, subst, ap, ◌∙◌, arith}
use Rattle.std.specs.List.{AllByRecursion}
use Rattle.std.specs.List.Sorted.{IsStrictlySortedBy}
use Rattle.std.specs.BTreeSet.{insert_key}
use Rattle.std.specs.Ordering.{match_ordering, ordering_reverse}
use Rattle.std.specs.declared.cmp.Ordering.{Ordering}
use Rattle.std.specs.declared.cmp.Ordering.TheVariants.{Less, Equal, Greater}
use Rattle.std.proofs.lemmas.Map.Keys.{sorted_head, sorted_tail}
use Rattle.am_types.specs.declared.Hash.{Hash}
use Rattle.am_types.specs.Order.{hash_cmp, Ascends}
use Rattle.am_types.proofs.Orders.{hash_total}

abbrev pub Sorted : List Hash → Type 0
Sorted hs = IsStrictlySortedBy hash_cmp hs

pub none_sorted : Sorted []
unfolding IsStrictlySortedBy
none_sorted = tt

pub one_sorted : (h : Hash) → Sorted (h ∷ [])
unfolding IsStrictlySortedBy
one_sorted h = (tt, tt)

both_sorted : (h : Hash) (hs : List Hash) → AllByRecursion (λ x. hash_cmp h x ≡ Less) hs → Sorted hs → Sorted (h ∷ hs)
unfolding IsStrictlySortedBy
both_sorted h hs above s = (above, s)

above_all : (h x : Hash) (xs : List Hash) → hash_cmp h x ≡ Less → AllByRecursion (λ y. hash_cmp x y ≡ Less) xs → AllByRecursion (λ y. hash_cmp h y ≡ Less) xs
above_all h x [] l all = tt
above_all h x (y ∷ ys) l all = (hash_total.trans h x y l all.0, above_all h x ys l all.1)

insert_above : (x h : Hash) (xs : List Hash) → hash_cmp x h ≡ Less → AllByRecursion (λ y. hash_cmp x y ≡ Less) xs → AllByRecursion (λ y. hash_cmp x y ≡ Less) (insert_key hash_cmp xs h)
insert_above x h [] l all = (l, tt)
insert_above x h (y ∷ ys) l all = go (insert_above x h ys l all.1) (hash_cmp h y)
  where
    go : AllByRecursion (λ y. hash_cmp x y ≡ Less) (insert_key hash_cmp ys h) → (o : Ordering) → AllByRecursion (λ y. hash_cmp x y ≡ Less) (match_ordering o (h ∷ y ∷ ys) (y ∷ ys) (y ∷ insert_key hash_cmp ys h))
    go again Less = (l, all)
    go again Equal = all
    go again Greater = (all.0, again)

pub insert_sorted : (h : Hash) (hs : List Hash) → Sorted hs → Sorted (insert_key hash_cmp hs h)
insert_sorted h [] s = one_sorted h
insert_sorted h (x ∷ xs) s = go (insert_sorted h xs (sorted_tail hash_cmp x xs s)) (hash_cmp h x) refl
  where
    go : Sorted (insert_key hash_cmp xs h) → (o : Ordering) → hash_cmp h x ≡ o → Sorted (match_ordering o (h ∷ x ∷ xs) (x ∷ xs) (x ∷ insert_key hash_cmp xs h))
    go again Less e = both_sorted h (x ∷ xs) (e, above_all h x xs e (sorted_head hash_cmp x xs s)) s
    go again Equal e = s
    go again Greater e =
        let below : hash_cmp x h ≡ Less = hash_total.antisymm x h ∙ ap ordering_reverse e in
        both_sorted x (insert_key hash_cmp xs h) (insert_above x h xs below (sorted_head hash_cmp x xs s)) again

pub insert_short : (h : Hash) (hs : List Hash) → length (insert_key hash_cmp hs h) ≤ length hs + 1
insert_short h [] = omega arith
insert_short h (x ∷ xs) = go (insert_short h xs) (hash_cmp h x)
  where
    go : length (insert_key hash_cmp xs h) ≤ length xs + 1 → (o : Ordering) → length (match_ordering o (h ∷ x ∷ xs) (x ∷ xs) (x ∷ insert_key hash_cmp xs h)) ≤ suc (length xs) + 1
    go short Less = omega arith
    go short Equal = omega arith
    go short Greater = omega arith

pub ascend : (hs : List Hash) → Sorted hs → Ascends hash_cmp hs
ascend [] s k d l = absurd (omega arith)
ascend (x ∷ []) s k d l = absurd (omega arith)
ascend (x ∷ y ∷ hs) s zero d l = (sorted_head hash_cmp x (y ∷ hs) s).0
ascend (x ∷ y ∷ hs) s (suc k) d l =
    let again : hash_cmp (get_or (y ∷ hs) k d) (get_or (y ∷ hs) (k + 1) d) ≡ Less = ascend (y ∷ hs) (sorted_tail hash_cmp x (y ∷ hs) s) k d (omega arith) in
    let next : suc (k + 1) ≡ suc k + 1 = omega arith in
    subst (λ n. hash_cmp (get_or (y ∷ hs) k d) (get_or (x ∷ y ∷ hs) n d) ≡ Less) next again
