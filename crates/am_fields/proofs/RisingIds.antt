-- Ids of one actor whose counters go up by one, read out of runs of both columns.
use Rattle.std.proofs.Common.{◌≡◌, ℕ, zero, suc, ◌-◌, ◌≤◌, List, [], ◌∷◌, ◌++◌, ◌⊎◌, inl, inr, length, take, drop, replicate, Option, Some, None, refl, sym, ap, ◌∙◌, subst, arith, slice_get}
use Rattle.std.specs.Prelude.{IsSome, ℤ, pos, negsuc, ◌+ℤ◌}
use Rattle.std.specs.List.{cons_option}
use Rattle.std.proofs.lemmas.Int.{ints}
use Rattle.am_types.specs.declared.OpId.{OpId}
use Rattle.am_delta.specs.Deltas.{stretch, sums_from}
use Rattle.am_fields.specs.Fields.{id_at}
use Rattle.am_fields.specs.Reading.{readings, AllRead}
use Rattle.am_fields.specs.Rising.{rising}
use Rattle.am_fields.specs.RowLaws.{ids_read}
use Rattle.am_fields.proofs.Alike.{take_alike}

id_with : ℕ → List ℕ → OpId
id_with c a = record { counter = c; actor = a }

-- the cells of counters that go up by one
cells : ℕ → ℕ → List (Option ℤ)
cells c zero = []
cells c (suc k) = Some (pos c) ∷ cells (suc c) k

sums_up : (c m : ℕ) → sums_from (pos c) (replicate m (Some (pos 1))) ≡ cells (suc c) m
unfolding cells
sums_up c zero = refl
sums_up c (suc m) =
    let same : pos c +ℤ pos 1 ≡ pos (suc c) = omega (arith, ints) in
    ap (λ z. Some z ∷ sums_from z (replicate m (Some (pos 1)))) same ∙ ap (λ l. Some (pos (suc c)) ∷ l) (sums_up (suc c) m)

stretch_up : (c m : ℕ) → 1 ≤ m → stretch (Some (pos c)) (Some (pos 1)) m ≡ cells c m
unfolding cells
stretch_up c zero some = absurd (omega (arith, some))
stretch_up c (suc m) some = ap (λ k. Some (pos c) ∷ sums_from (pos c) (replicate k (Some (pos 1)))) (let same : suc m - 1 ≡ m = omega arith in same) ∙ ap (λ l. Some (pos c) ∷ l) (sums_up c m)

take_up : (k m c : ℕ) (ys : List (Option ℤ)) → k ≤ m → take k (cells c m ++ ys) ≡ cells c k
unfolding cells
take_up zero m c ys few = refl
take_up (suc k) zero c ys few = absurd (omega (arith, few))
take_up (suc k) (suc m) c ys few = ap (λ l. Some (pos c) ∷ l) (take_up k m (suc c) ys (omega (arith, few)))

-- the first k cells of a stretch
first_cells : (c : ℕ) (d : Option ℤ) (k m : ℕ) (ys ys' : List (Option ℤ)) → ys ≡ stretch (Some (pos c)) d m ++ ys' → 1 ≤ k → k ≤ m → (d ≡ Some (pos 1)) ⊎ (k ≡ 1) → take k ys ≡ cells c k
unfolding cells
first_cells c d k m ys ys' e some few (inl one) =
    ap (take k) (e ∙ ap (λ d. stretch (Some (pos c)) d m ++ ys') one ∙ ap (λ l. l ++ ys') (stretch_up c m (omega (arith, some, few)))) ∙ take_up k m c ys' few
first_cells c d k m ys ys' e some few (inr one) = subst (λ k. take k ys ≡ cells c k) (sym one) (ap (take 1) e)

-- an id that is read has the actor of its place
one_read : (actors : List (List ℕ)) (p c : ℕ) (a : List ℕ) → slice_get actors p ≡ Some a → IsSome (id_at actors (Some p) (Some (pos c))) → id_at actors (Some p) (Some (pos c)) ≡ Some (id_with c a)
unfolding id_with
one_read actors p c a there some = by_value (id_at actors (Some p) (Some (pos c))) refl some
  where
    by_value : (o : Option OpId) → id_at actors (Some p) (Some (pos c)) ≡ o → IsSome o → id_at actors (Some p) (Some (pos c)) ≡ Some (id_with c a)
    by_value None e some = absurd (cc)
    by_value (Some i) e some =
        let w = (ids_read actors).is (Some p) (Some (pos c)) i e in
        let actor : i.actor ≡ a = let both : Some (Some i.actor) ≡ Some (Some a) = sym w.0 ∙ ap Some there in cc in
        let counter : i.counter ≡ c = let both : Some (pos c) ≡ Some (pos i.counter) = w.1 in cc in
        e ∙ ap (λ a. Some (id_with i.counter a)) actor ∙ ap (λ c. Some (id_with c a)) counter

rows_up : (actors : List (List ℕ)) (p : ℕ) (a : List ℕ) → slice_get actors p ≡ Some a → (k c : ℕ) (xs : List (Option ℕ)) (ys : List (Option ℤ)) → take k xs ≡ replicate k (Some p) → take k ys ≡ cells c k → AllRead (id_at actors) xs ys → readings (id_at actors) xs ys ≡ rising (id_with c a) k ++ readings (id_at actors) (drop k xs) (drop k ys)
unfolding cells id_with
rows_up actors p a there zero c xs ys ex ey all = refl
rows_up actors p a there (suc k) c [] ys ex ey all = absurd (cc)
rows_up actors p a there (suc k) c (x ∷ xs) [] ex ey all = absurd (cc)
rows_up actors p a there (suc k) c (x ∷ xs) (y ∷ ys) ex ey all =
    let first : x ≡ Some p = cc in
    let second : y ≡ Some (pos c) = cc in
    let left : take k xs ≡ replicate k (Some p) = cc in
    let right : take k ys ≡ cells (suc c) k = cc in
    let known : id_at actors x y ≡ id_at actors (Some p) (Some (pos c)) = ap (λ x. id_at actors x y) first ∙ ap (id_at actors (Some p)) second in
    let is : id_at actors x y ≡ Some (id_with c a) = known ∙ one_read actors p c a there (subst (λ (o : Option OpId). IsSome o) known all.0) in
    ap (λ o. cons_option o (readings (id_at actors) xs ys)) is ∙ ap (λ l. id_with c a ∷ l) (rows_up actors p a there k (suc c) xs ys left right all.1)

pub rows_rising : (actors : List (List ℕ)) (x : Option ℕ) (y d : Option ℤ) (n m k : ℕ) (id : OpId) (xs xs' : List (Option ℕ)) (ys ys' : List (Option ℤ)) → id_at actors x y ≡ Some id → xs ≡ replicate n x ++ xs' → ys ≡ stretch y d m ++ ys' → 1 ≤ k → k ≤ m → m ≤ n → (d ≡ Some (pos 1)) ⊎ (k ≡ 1) → AllRead (id_at actors) xs ys
    → readings (id_at actors) xs ys ≡ rising id k ++ readings (id_at actors) (drop k xs) (drop k ys)
unfolding id_with
rows_rising actors None y d n m k id xs xs' ys ys' is ex ey some few more one all = absurd (cc)
rows_rising actors (Some p) None d n m k id xs xs' ys ys' is ex ey some few more one all = absurd (cc)
rows_rising actors (Some p) (Some (negsuc c)) d n m k id xs xs' ys ys' is ex ey some few more one all = absurd (cc)
rows_rising actors (Some p) (Some (pos c)) d n m k id xs xs' ys ys' is ex ey some few more one all =
    let w = (ids_read actors).is (Some p) (Some (pos c)) id is in
    let there : slice_get actors p ≡ Some id.actor = let both : Some (slice_get actors p) ≡ Some (Some id.actor) = w.0 in cc in
    let counter : c ≡ id.counter = let both : Some (pos c) ≡ Some (pos id.counter) = w.1 in cc in
    rows_up actors p id.actor there k c xs ys (ap (take k) ex ∙ take_alike k n (Some p) xs' (omega (arith, few, more))) (first_cells c d k m ys ys' ey some few one) all
    ∙ ap (λ c. rising (id_with c id.actor) k ++ readings (id_at actors) (drop k xs) (drop k ys)) counter

pub first_of_stretch : (y d : Option ℤ) (m : ℕ) (ys ys' : List (Option ℤ)) → ys ≡ stretch y d m ++ ys' → 1 ≤ m → (rest : List (Option ℤ)) × (ys ≡ replicate 1 y ++ rest)
first_of_stretch None d zero ys ys' e some = absurd (omega (arith, some))
first_of_stretch None d (suc m) ys ys' e some = (replicate m None ++ ys', e)
first_of_stretch (Some z) d m ys ys' e some = (sums_from z (replicate (m - 1) d) ++ ys', e)

pub length_rising : (id : OpId) (k : ℕ) (rest ids : List OpId) → ids ≡ rising id k ++ rest → k ≤ length ids
length_rising id k rest ids e = subst (λ l. k ≤ length l) (sym e) (fits k id)
  where
    fits : (k : ℕ) (id : OpId) → k ≤ length (rising id k ++ rest)
    fits zero id = omega arith
    fits (suc k) id = let more = fits k (record { counter = suc id.counter; actor = id.actor }) in omega (arith, more)
