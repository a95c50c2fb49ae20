-- Counters of a stretch are those of ids and keys where its ends are.
use Rattle.std.proofs.Common.{◌≡◌, ℕ, zero, suc, ◌-◌, ◌<◌, ◌≤◌, ◌^◌, Bool, true, false, cond, List, length, replicate, Option, Some, None, refl, sym, subst, arith, slice_get, w64}
use mir.Val.{to_z, of_z}
use Rattle.std.specs.Prelude.{is_some, IsSome, ℤ, pos, negsuc, ◌+ℤ◌, ◌≤ℤ◌, IfSome, option_and_then, option_map}
use Rattle.std.specs.List.{AllByRecursion}
use Rattle.std.proofs.lemmas.Bool.Decides.{nat_tests}
use Rattle.std.proofs.lemmas.Int.{ints}
use Rattle.am_types.specs.declared.Key.TheVariants.{Elem}
use Rattle.am_delta.specs.Deltas.{AllBetween, sums_from, stretch}
use Rattle.am_fields.specs.Fields.{is_within, id_with, id_from, id_at, key_at, counters_beside}
use Rattle.am_fields.proofs.Judging.{all_copies}

-- what differs at no value holds of the same sums
sums_alike : (P Q : Option ℤ → Type 0) → ((z : ℤ) → P (Some z) → Q (Some z)) → (d : ℤ) (k : ℕ) (s : ℤ) → AllByRecursion P (sums_from s (replicate k (Some d))) → AllByRecursion Q (sums_from s (replicate k (Some d)))
sums_alike P Q f d zero s all = tt
sums_alike P Q f d (suc k) s all = (f (s +ℤ d) all.0, sums_alike P Q f d k (s +ℤ d) all.1)

pub stretch_alike : (P Q : Option ℤ → Type 0) → ((z : ℤ) → P (Some z) → Q (Some z)) → (first d : ℤ) (k : ℕ) → AllByRecursion P (stretch (Some first) (Some d) k) → AllByRecursion Q (stretch (Some first) (Some d) k)
stretch_alike P Q f first d k all = (f first all.0, sums_alike P Q f d (k - 1) first all.1)

-- the cells of a stretch of one
pub alone : (P : Option ℤ → Type 0) (first d : Option ℤ) → P first → AllByRecursion P (stretch first d 1)
alone P None d p = (p, tt)
alone P (Some z) d p = (p, tt)

pub first_of_all : (P : Option ℤ → Type 0) (first d : Option ℤ) (k : ℕ) → 1 ≤ k → AllByRecursion P (stretch first d k) → P first
first_of_all P None d zero h all = absurd (omega arith)
first_of_all P None d (suc k) h all = all.0
first_of_all P (Some z) d k h all = all.0

-- behind a first value and no difference comes null
pub null_behind : (P : Option ℤ → Type 0) (z : ℤ) (k : ℕ) → 2 ≤ k → AllByRecursion P (stretch (Some z) None k) → P None
null_behind P z zero h all = absurd (omega arith)
null_behind P z (suc zero) h all = absurd (omega arith)
null_behind P z (suc (suc k)) h all =
    let more : AllByRecursion P (sums_from z (replicate (suc k) None)) = subst (λ j. AllByRecursion P (sums_from z (replicate j None))) (let e : suc (suc k) - 1 ≡ suc k = omega arith in e) all.1 in
    more.0

-- ---- where an id is read

no_some : {A : Type 0} (b : Bool) (x : A) → IsSome (cond b (Some x) None) → b ≡ true
no_some true x h = refl
no_some false x h = absurd (cc)

some_if : {A : Type 0} (b : Bool) (x : A) → b ≡ true → IsSome (cond b (Some x) None)
some_if true x h = refl
some_if false x h = absurd (cc)

-- the actor at the place of an id that is read
pub record IsActorAt (actors : List (List ℕ)) (place : ℕ) (actor : List ℕ) : Type 0 where
  pub there : slice_get actors place ≡ Some actor
  pub some : 1 ≤ length actor
  pub few : length actor ≤ 1024

pub actor_read : (actors : List (List ℕ)) (place c : ℕ) → IsSome (id_from actors place c) → (actor : List ℕ) × IsActorAt actors place actor
actor_read actors place c h = by_actor (slice_get actors place) refl h
  where
    by_actor : (o : Option (List ℕ)) → slice_get actors place ≡ o → IsSome (option_and_then (id_with c) o) → (actor : List ℕ) × IsActorAt actors place actor
    by_actor None e h = absurd (cc)
    by_actor (Some a) e h =
        let t : is_within c a ≡ true = no_some (is_within c a) (record { counter = c; actor = a }) h in
        (a, record { there = e; some = grind (arith, nat_tests); few = grind (arith, nat_tests) })

pub counter_read : (actors : List (List ℕ)) (place c : ℕ) → IsSome (id_from actors place c) → (1 ≤ c) × (c < 2 ^ 53)
counter_read actors place c h = by_actor (slice_get actors place) refl h
  where
    by_actor : (o : Option (List ℕ)) → slice_get actors place ≡ o → IsSome (option_and_then (id_with c) o) → (1 ≤ c) × (c < 2 ^ 53)
    by_actor None e h = absurd (cc)
    by_actor (Some a) e h =
        let t : is_within c a ≡ true = no_some (is_within c a) (record { counter = c; actor = a }) h in
        (grind (arith, nat_tests), grind (arith, nat_tests))

pub read_counter : (actors : List (List ℕ)) (place c : ℕ) (a : List ℕ) → IsActorAt actors place a → 1 ≤ c → c < 2 ^ 53 → IsSome (id_from actors place c)
read_counter actors place c a at low high =
    let t : is_within c a ≡ true = within at.some at.few in
    subst (λ (o : Option (List ℕ)). IsSome (option_and_then (id_with c) o)) (sym at.there) (some_if (is_within c a) (record { counter = c; actor = a }) t)
  where
    within : 1 ≤ length a → length a ≤ 1024 → is_within c a ≡ true
    within some few = grind (arith, nat_tests)

-- a counter between the limits is that of an id where one with this place is
pub id_beside : (actors : List (List ℕ)) (place : Option ℕ) (first z : ℤ) → IsSome (id_at actors place (Some first)) → (pos 1 ≤ℤ z) × (z ≤ℤ pos (2 ^ 53 - 1)) → IsSome (id_at actors place (Some z))
id_beside actors None first z some h = absurd (cc)
id_beside actors (Some p) (negsuc c) z some h = absurd (cc)
id_beside actors (Some p) (pos c) (negsuc n) some h = absurd (omega (arith, ints, h.0))
id_beside actors (Some p) (pos c) (pos n) some h =
    let at = actor_read actors p c some in
    read_counter actors p n at.0 at.1 (omega (arith, ints, h.0)) (omega (arith, ints, h.1))

pub id_between : (actors : List (List ℕ)) (place : Option ℕ) (z : ℤ) → IsSome (id_at actors place (Some z)) → (pos 1 ≤ℤ z) × (z ≤ℤ pos (2 ^ 53 - 1))
id_between actors None z some = absurd (cc)
id_between actors (Some p) (negsuc c) some = absurd (cc)
id_between actors (Some p) (pos c) some =
    let w = counter_read actors p c some in
    (omega (arith, ints, w.0), omega (arith, ints, w.1))

mapped : {A B : Type 0} (f : A → B) (o : Option A) → IsSome o → IsSome (option_map f o)
mapped f None h = absurd (cc)
mapped f (Some x) h = refl

unmapped : {A B : Type 0} (f : A → B) (o : Option A) → IsSome (option_map f o) → IsSome o
unmapped f None h = absurd (cc)
unmapped f (Some x) h = refl

-- the same of keys
pub key_beside : (actors : List (List ℕ)) (place : Option ℕ) (name : Option (List ℕ)) (first z : ℤ) → IsSome (key_at actors place (Some first) name) → ((counters_beside place).0 ≤ℤ z) × (z ≤ℤ (counters_beside place).1) → IsSome (key_at actors place (Some z) name)
key_beside actors None name (negsuc c) z some h = absurd (cc)
key_beside actors None name (pos (suc c)) z some h = absurd (cc)
key_beside actors None (Some name) (pos zero) z some h = absurd (cc)
key_beside actors None None (pos zero) (negsuc n) some h = absurd (omega (arith, ints, h.0))
key_beside actors None None (pos zero) (pos zero) some h = refl
key_beside actors None None (pos zero) (pos (suc n)) some h = absurd (omega (arith, ints, h.1))
key_beside actors (Some p) name (negsuc c) z some h = absurd (cc)
key_beside actors (Some p) (Some name) (pos c) z some h = absurd (cc)
key_beside actors (Some p) None (pos c) (negsuc n) some h = absurd (omega (arith, ints, h.0))
key_beside actors (Some p) None (pos c) (pos n) some h =
    let at = actor_read actors p c (unmapped Elem (id_from actors p c) some) in
    mapped Elem (id_from actors p n) (read_counter actors p n at.0 at.1 (omega (arith, ints, h.0)) (omega (arith, ints, h.1)))

pub key_between : (actors : List (List ℕ)) (place : Option ℕ) (name : Option (List ℕ)) (z : ℤ) → IsSome (key_at actors place (Some z) name) → ((counters_beside place).0 ≤ℤ z) × (z ≤ℤ (counters_beside place).1)
key_between actors None name (negsuc c) some = absurd (cc)
key_between actors None name (pos (suc c)) some = absurd (cc)
key_between actors None (Some name) (pos zero) some = absurd (cc)
key_between actors None None (pos zero) some = (omega (arith, ints), omega (arith, ints))
key_between actors (Some p) name (negsuc c) some = absurd (cc)
key_between actors (Some p) (Some name) (pos c) some = absurd (cc)
key_between actors (Some p) None (pos c) some =
    let w = counter_read actors p c (unmapped Elem (id_from actors p c) some) in
    (omega (arith, ints, w.0), omega (arith, ints, w.1))

-- ---- stretches of ids and of keys

none_of : {A : Type 0} (o : Option A) → is_some o ≡ false → o ≡ None
none_of None e = refl
none_of (Some x) e = absurd (cc)

-- a null counter makes no id
no_id : (actors : List (List ℕ)) (place : Option ℕ) → IsSome (id_at actors place None) → ⊥
no_id actors None h = cc
no_id actors (Some p) h = cc

pub ids_end : (actors : List (List ℕ)) (place : Option ℕ) (first d : Option ℤ) (k : ℕ) → IsSome (id_at actors place first) → is_some d ≡ false → 2 ≤ k → AllByRecursion (λ y. IsSome (id_at actors place y)) (stretch first d k) → ⊥
ids_end actors place None d k some e h all = no_id actors place some
ids_end actors place (Some z) d k some e h all =
    no_id actors place (null_behind (λ y. IsSome (id_at actors place y)) z k h (subst (λ x. AllByRecursion (λ y. IsSome (id_at actors place y)) (stretch (Some z) x k)) (none_of d e) all))

pub ids_by : (actors : List (List ℕ)) (place : Option ℕ) (first d : Option ℤ) (k : ℕ) → IsSome (id_at actors place first) → IsSome d → AllBetween (pos 1) (pos (2 ^ 53 - 1)) (stretch first d k) → AllByRecursion (λ y. IsSome (id_at actors place y)) (stretch first d k)
ids_by actors place None d k some h all = absurd (no_id actors place some)
ids_by actors place (Some z) None k some h all = absurd (cc)
ids_by actors place (Some z) (Some x) k some h all =
    stretch_alike (λ y. IfSome y (λ n. (pos 1 ≤ℤ n) × (n ≤ℤ pos (2 ^ 53 - 1)))) (λ y. IsSome (id_at actors place y)) (λ n b. id_beside actors place z n some b) z x k all

pub ids_within : (actors : List (List ℕ)) (place : Option ℕ) (first d : Option ℤ) (k : ℕ) → IsSome (id_at actors place first) → IsSome d → AllByRecursion (λ y. IsSome (id_at actors place y)) (stretch first d k) → AllBetween (pos 1) (pos (2 ^ 53 - 1)) (stretch first d k)
ids_within actors place None d k some h all = absurd (no_id actors place some)
ids_within actors place (Some z) None k some h all = absurd (cc)
ids_within actors place (Some z) (Some x) k some h all =
    stretch_alike (λ y. IsSome (id_at actors place y)) (λ y. IfSome y (λ n. (pos 1 ≤ℤ n) × (n ≤ℤ pos (2 ^ 53 - 1)))) (λ n b. id_between actors place n b) z x k all

-- beside one place and one name, a key has a counter or none
no_key : (actors : List (List ℕ)) (place : Option ℕ) (name : Option (List ℕ)) (z : ℤ) → IsSome (key_at actors place (Some z) name) → IsSome (key_at actors place None name) → ⊥
no_key actors (Some p) name z h k = cc
no_key actors None None z h k = cc
no_key actors None (Some name) (negsuc c) h k = cc
no_key actors None (Some name) (pos zero) h k = cc
no_key actors None (Some name) (pos (suc c)) h k = cc

pub keys_end : (actors : List (List ℕ)) (place : Option ℕ) (name : Option (List ℕ)) (first d : Option ℤ) (k : ℕ) → IsSome (key_at actors place first name) → IsSome first → is_some d ≡ false → 2 ≤ k → AllByRecursion (λ y. IsSome (key_at actors place y name)) (stretch first d k) → ⊥
keys_end actors place name None d k some f e h all = cc
keys_end actors place name (Some z) d k some f e h all =
    no_key actors place name z some (null_behind (λ y. IsSome (key_at actors place y name)) z k h (subst (λ x. AllByRecursion (λ y. IsSome (key_at actors place y name)) (stretch (Some z) x k)) (none_of d e) all))

pub keys_alike : (actors : List (List ℕ)) (place : Option ℕ) (name : Option (List ℕ)) (first d : Option ℤ) (k : ℕ) → IsSome (key_at actors place first name) → is_some first ≡ false → AllByRecursion (λ y. IsSome (key_at actors place y name)) (stretch first d k)
keys_alike actors place name None d k some e = all_copies (λ y. IsSome (key_at actors place y name)) None k some
keys_alike actors place name (Some z) d k some e = absurd (cc)

pub keys_by : (actors : List (List ℕ)) (place : Option ℕ) (name : Option (List ℕ)) (first d : Option ℤ) (k : ℕ) → IsSome (key_at actors place first name) → IsSome first → IsSome d → AllBetween (counters_beside place).0 (counters_beside place).1 (stretch first d k) → AllByRecursion (λ y. IsSome (key_at actors place y name)) (stretch first d k)
keys_by actors place name None d k some f h all = absurd (cc)
keys_by actors place name (Some z) None k some f h all = absurd (cc)
keys_by actors place name (Some z) (Some x) k some f h all =
    stretch_alike (λ y. IfSome y (λ n. ((counters_beside place).0 ≤ℤ n) × (n ≤ℤ (counters_beside place).1))) (λ y. IsSome (key_at actors place y name)) (λ n b. key_beside actors place name z n some b) z x k all

pub keys_within : (actors : List (List ℕ)) (place : Option ℕ) (name : Option (List ℕ)) (first d : Option ℤ) (k : ℕ) → IsSome first → IsSome d → AllByRecursion (λ y. IsSome (key_at actors place y name)) (stretch first d k) → AllBetween (counters_beside place).0 (counters_beside place).1 (stretch first d k)
keys_within actors place name None d k f h all = absurd (cc)
keys_within actors place name (Some z) None k f h all = absurd (cc)
keys_within actors place name (Some z) (Some x) k f h all =
    stretch_alike (λ y. IsSome (key_at actors place y name)) (λ y. IfSome y (λ n. ((counters_beside place).0 ≤ℤ n) × (n ≤ℤ (counters_beside place).1))) (λ n b. key_between actors place name n b) z x k all

pub limits_kept : (place : Option ℕ) → (to_z w64 (of_z w64 (counters_beside place).0) ≡ (counters_beside place).0) × (to_z w64 (of_z w64 (counters_beside place).1) ≡ (counters_beside place).1)
limits_kept None = (refl, refl)
limits_kept (Some p) = (refl, refl)
