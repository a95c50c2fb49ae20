-- Whole numbers of a column of deltas, each as far above the one before it.
use Rattle.std.proofs.Common.{◌≡◌, ℕ, zero, suc, ◌+◌, ◌-◌, ◌<◌, ◌≤◌, List, [], ◌∷◌, ◌++◌, length, length-append, map, drop, get_or, replicate, Option, Some, None, ◌⊎◌, inl, inr, refl, arith, sym, ap, ◌∙◌, subst, ℤ, pos, negsuc, ◌+ℤ◌, ◌≤ℤ◌}
use Rattle.std.proofs.lemmas.Int.{ints}
use Rattle.std.proofs.lemmas.List.{length-map, drop_at}
use Rattle.am_delta.specs.Deltas.{sums_from, stretch}
use Rattle.am_delta.proofs.Steps.{length-stretch}
use Rattle.am_types.specs.declared.OpId.{OpId}
use Rattle.am_fields.specs.Layout.{whole, id_counter}
use Rattle.am_fields.specs.Wholes.{wholes, IsWhole, AreWhole}

pub item_behind : (i : ℕ) (xs ys : List ℕ) (x : ℕ) → drop i xs ≡ x ∷ ys → x ≡ get_or xs i 0
item_behind zero [] ys x e = absurd (cc)
item_behind zero (z ∷ xs) ys x e = cc
item_behind (suc i) [] ys x e = absurd (cc)
item_behind (suc i) (z ∷ xs) ys x e = item_behind i xs ys x e

-- where the differences are not below 0
rises : (d : ℤ) → pos 0 ≤ℤ d → (m n : ℕ) (ns : List ℕ) (new : List (Option ℤ)) → map whole ns ≡ sums_from (pos n) (replicate m (Some d)) ++ new → (j : ℕ) → j ≤ m → (n ≤ get_or (n ∷ ns) j 0) × (get_or (n ∷ ns) j 0 ≤ get_or (n ∷ ns) m 0)
rises d p zero n ns new e zero h = (omega arith, omega arith)
rises d p zero n ns new e (suc j) h = absurd (omega arith)
rises d p (suc m) n [] new e j h = absurd (cc)
rises d p (suc m) n (x ∷ ns) new e zero h =
    let same : pos x ≡ pos n +ℤ d = cc in
    let rest : map whole ns ≡ sums_from (pos n +ℤ d) (replicate m (Some d)) ++ new = cc in
    let more = rises d p m x ns new (subst (λ v. map whole ns ≡ sums_from v (replicate m (Some d)) ++ new) (sym same) rest) zero (omega arith) in
    let up : n ≤ x = omega (arith, ints, same, p) in
    (omega arith, omega (arith, more.1, up))
rises d p (suc m) n (x ∷ ns) new e (suc j) h =
    let same : pos x ≡ pos n +ℤ d = cc in
    let rest : map whole ns ≡ sums_from (pos n +ℤ d) (replicate m (Some d)) ++ new = cc in
    let more = rises d p m x ns new (subst (λ v. map whole ns ≡ sums_from v (replicate m (Some d)) ++ new) (sym same) rest) j (omega arith) in
    let up : n ≤ x = omega (arith, ints, same, p) in
    (omega (arith, more.0, up), more.1)

-- where they are not above 0
falls : (d : ℤ) → d ≤ℤ pos 0 → (m n : ℕ) (ns : List ℕ) (new : List (Option ℤ)) → map whole ns ≡ sums_from (pos n) (replicate m (Some d)) ++ new → (j : ℕ) → j ≤ m → (get_or (n ∷ ns) m 0 ≤ get_or (n ∷ ns) j 0) × (get_or (n ∷ ns) j 0 ≤ n)
falls d p zero n ns new e zero h = (omega arith, omega arith)
falls d p zero n ns new e (suc j) h = absurd (omega arith)
falls d p (suc m) n [] new e j h = absurd (cc)
falls d p (suc m) n (x ∷ ns) new e zero h =
    let same : pos x ≡ pos n +ℤ d = cc in
    let rest : map whole ns ≡ sums_from (pos n +ℤ d) (replicate m (Some d)) ++ new = cc in
    let more = falls d p m x ns new (subst (λ v. map whole ns ≡ sums_from v (replicate m (Some d)) ++ new) (sym same) rest) zero (omega arith) in
    let down : x ≤ n = omega (arith, ints, same, p) in
    (omega (arith, more.0, down), omega arith)
falls d p (suc m) n (x ∷ ns) new e (suc j) h =
    let same : pos x ≡ pos n +ℤ d = cc in
    let rest : map whole ns ≡ sums_from (pos n +ℤ d) (replicate m (Some d)) ++ new = cc in
    let more = falls d p m x ns new (subst (λ v. map whole ns ≡ sums_from v (replicate m (Some d)) ++ new) (sym same) rest) j (omega arith) in
    let down : x ≤ n = omega (arith, ints, same, p) in
    (more.0, omega (arith, more.1, down))

-- where each is one above the one before it
counts_up : (m n : ℕ) (ns : List ℕ) (new : List (Option ℤ)) → map whole ns ≡ sums_from (pos n) (replicate m (Some (pos 1))) ++ new → (j : ℕ) → j ≤ m → get_or (n ∷ ns) j 0 ≡ n + j
counts_up m n ns new e zero h = omega arith
counts_up zero n ns new e (suc j) h = absurd (omega arith)
counts_up (suc m) n [] new e (suc j) h = absurd (cc)
counts_up (suc m) n (x ∷ ns) new e (suc j) h =
    let same : pos x ≡ pos n +ℤ pos 1 = cc in
    let rest : map whole ns ≡ sums_from (pos n +ℤ pos 1) (replicate m (Some (pos 1))) ++ new = cc in
    let more = counts_up m x ns new (subst (λ v. map whole ns ≡ sums_from v (replicate m (Some (pos 1))) ++ new) (sym same) rest) j (omega arith) in
    let up : x ≡ n + 1 = omega (arith, ints, same) in
    omega (arith, more, up)

-- the numbers of a stretch, between its ends
pub record AreStretched (ns : List ℕ) (first last k : ℕ) (d : Option ℤ) : Type 0 where
  pub between : (low high : ℕ) → low ≤ first → low ≤ last → first ≤ high → last ≤ high → (j : ℕ) → j < k → (low ≤ get_or ns j 0) × (get_or ns j 0 ≤ high)
  pub by_one : (d ≡ Some (pos 1)) ⊎ (k ≡ 1) → (j : ℕ) → j < k → get_or ns j 0 ≡ first + j

stretched_by : (n : ℕ) (ns : List ℕ) (d : Option ℤ) (k last : ℕ) (new : List (Option ℤ)) → map whole ns ≡ sums_from (pos n) (replicate (k - 1) d) ++ new → 1 ≤ k → last ≡ get_or (n ∷ ns) (k - 1) 0 → AreStretched (n ∷ ns) n last k d
stretched_by n ns (Some (pos c)) k last new e some l = record {
  between = λ low high a b p q j h.
      let w = rises (pos c) (omega (arith, ints)) (k - 1) n ns new e j (omega arith) in
      (omega (arith, w.0, a), omega (arith, w.1, l, q));
  by_one = one;
}
  where
    one : (Some (pos c) ≡ Some (pos 1)) ⊎ (k ≡ 1) → (j : ℕ) → j < k → get_or (n ∷ ns) j 0 ≡ n + j
    one (inl f) j h = counts_up (k - 1) n ns new (subst (λ d. map whole ns ≡ sums_from (pos n) (replicate (k - 1) d) ++ new) f e) j (omega arith)
    one (inr f) zero h = omega arith
    one (inr f) (suc j) h = absurd (omega arith)
stretched_by n ns (Some (negsuc c)) k last new e some l = record {
  between = λ low high a b p q j h.
      let w = falls (negsuc c) (omega (arith, ints)) (k - 1) n ns new e j (omega arith) in
      (omega (arith, w.0, l, b), omega (arith, w.1, p));
  by_one = one;
}
  where
    one : (Some (negsuc c) ≡ Some (pos 1)) ⊎ (k ≡ 1) → (j : ℕ) → j < k → get_or (n ∷ ns) j 0 ≡ n + j
    one (inl f) j h = absurd (cc)
    one (inr f) zero h = omega arith
    one (inr f) (suc j) h = absurd (omega arith)
stretched_by n ns None k last new e some l = alone (k - 1) refl ns e
  where
    alone : (m : ℕ) → k - 1 ≡ m → (zs : List ℕ) → map whole zs ≡ sums_from (pos n) (replicate (k - 1) None) ++ new → AreStretched (n ∷ ns) n last k None
    alone zero f zs g = record { between = among; by_one = one }
      where
        only : k ≡ 1
        only = omega arith

        same : last ≡ n
        same = l ∙ ap (λ i. get_or (n ∷ ns) i 0) f

        among : (low high : ℕ) → low ≤ n → low ≤ last → n ≤ high → last ≤ high → (j : ℕ) → j < k → (low ≤ get_or (n ∷ ns) j 0) × (get_or (n ∷ ns) j 0 ≤ high)
        among low high a b p q zero h = (a, p)
        among low high a b p q (suc j) h = absurd (omega (arith, only))

        one : (None ≡ Some (pos 1)) ⊎ (k ≡ 1) → (j : ℕ) → j < k → get_or (n ∷ ns) j 0 ≡ n + j
        one o zero h = omega arith
        one o (suc j) h = absurd (omega (arith, only))
    alone (suc m) f [] g = absurd (let h : map whole [] ≡ sums_from (pos n) (replicate (suc m) None) ++ new = subst (λ i. map whole [] ≡ sums_from (pos n) (replicate i None) ++ new) f g in cc)
    alone (suc m) f (z ∷ zs) g = absurd (let h : map whole (z ∷ zs) ≡ sums_from (pos n) (replicate (suc m) None) ++ new = subst (λ i. map whole (z ∷ zs) ≡ sums_from (pos n) (replicate i None) ++ new) f g in cc)

-- the first number of a stretch stands
pub first_whole : (a d : Option ℤ) (k : ℕ) (ns : List ℕ) (new : List (Option ℤ)) → map whole ns ≡ stretch a d k ++ new → 1 ≤ k → IsWhole a
first_whole None d zero ns new e some = absurd (omega arith)
first_whole None d (suc k) [] new e some = absurd (cc)
first_whole None d (suc k) (n ∷ ns) new e some = absurd (cc)
first_whole (Some (pos m)) d k ns new e some = tt
first_whole (Some (negsuc m)) d k [] new e some = absurd (cc)
first_whole (Some (negsuc m)) d k (n ∷ ns) new e some = absurd (cc)

pub first_is : (a d : Option ℤ) (k : ℕ) (ns : List ℕ) (new : List (Option ℤ)) (first : ℕ) → map whole ns ≡ stretch a d k ++ new → a ≡ Some (pos first) → first ≡ get_or ns 0 0
first_is a d k ns new first e f = known ns (subst (λ a. map whole ns ≡ stretch a d k ++ new) f e)
  where
    known : (ns : List ℕ) → map whole ns ≡ stretch (Some (pos first)) d k ++ new → first ≡ get_or ns 0 0
    known [] e = absurd (cc)
    known (n ∷ ns) e = let same : n ≡ first = cc in sym same

pub stretched : (ns : List ℕ) (a d : Option ℤ) (k first last : ℕ) (new : List (Option ℤ)) → map whole ns ≡ stretch a d k ++ new → 1 ≤ k → a ≡ Some (pos first) → last ≡ get_or ns (k - 1) 0 → AreStretched ns first last k d
stretched ns a d k first last new e some f l = known ns (subst (λ a. map whole ns ≡ stretch a d k ++ new) f e) l
  where
    known : (ns : List ℕ) → map whole ns ≡ stretch (Some (pos first)) d k ++ new → last ≡ get_or ns (k - 1) 0 → AreStretched ns first last k d
    known [] e l = absurd (cc)
    known (n ∷ ns) e l =
        let same : n ≡ first = cc in
        let rest : map whole ns ≡ sums_from (pos first) (replicate (k - 1) d) ++ new = cc in
        subst (λ m. AreStretched (n ∷ ns) m last k d) same (stretched_by n ns d k last new (subst (λ m. map whole ns ≡ sums_from (pos m) (replicate (k - 1) d) ++ new) (sym same) rest) some l)

-- what is behind
pub behind_stretch : (a d : Option ℤ) (k : ℕ) (ns : List ℕ) (new : List (Option ℤ)) → map whole ns ≡ stretch a d k ++ new → 1 ≤ k → k ≤ length ns
behind_stretch a d k ns new e some = omega (arith, ap length e, length-map ns whole, length-append (stretch a d k) new, length-stretch a d k some)

pub new_is : (a d : Option ℤ) (k : ℕ) (xs new : List (Option ℤ)) → xs ≡ stretch a d k ++ new → 1 ≤ k → new ≡ drop k xs
new_is a d k xs new e some = sym (ap (drop k) e ∙ drop_at (stretch a d k) new k (length-stretch a d k some))

-- the counters of ids
pub counters_whole : (ids : List OpId) → AreWhole (map id_counter ids)
counters_whole [] = tt
counters_whole (i ∷ ids) = (tt, counters_whole ids)

pub counters_are : (ids : List OpId) → wholes (map id_counter ids) ≡ map (λ (i : OpId). i.counter) ids
counters_are [] = refl
counters_are (i ∷ ids) = ap (λ l. i.counter ∷ l) (counters_are ids)
