-- Where an actor stands among ascending ones.
use Rattle.std.proofs.Common.{◌≡◌, ℕ, zero, suc, ◌+◌, ◌-◌, ◌<◌, ◌≤◌, List, [], ◌∷◌, length, drop, true, false, Less, Equal, Greater, ⊎_elim, refl, sym, ap, ◌∙◌, subst, arith, get_or}
use Rattle.std.specs.Ordering.{is_eq, ordering_reverse}
use Rattle.std.proofs.lemmas.Bool.{cases_eq}
use Rattle.std.proofs.lemmas.Cmp.{nat_list_cmp_total}
use Rattle.std.proofs.lemmas.Map.Lookups.{exact_bytes}
use Rattle.am_types.specs.Order.{bytes_cmp, Ascends}
use Rattle.am_fields.specs.Columns.{is_actor, place_of}
use Rattle.am_fields.proofs.PlaceLaws.{place-here}

-- none of the first m is the actor
none_before : (xs : List (List ℕ)) (a d : List ℕ) (m : ℕ) → m ≤ length xs → ((k : ℕ) → k < m → is_actor a (get_or xs k d) ≡ false) → place_of xs a ≡ m + place_of (drop m xs) a
none_before xs a d zero n differ = omega arith
none_before [] a d (suc m) n differ = absurd (omega arith)
none_before (x ∷ xs) a d (suc m) n differ =
    let here : is_actor a x ≡ false = differ 0 (omega arith) in
    let step : place_of (x ∷ xs) a ≡ suc (place_of xs a) = rw here refl in
    let rest : place_of xs a ≡ m + place_of (drop m xs) a = none_before xs a d m (omega arith) (λ k l. differ (suc k) (omega arith)) in
    omega (arith, step, rest)

-- none from the place m on is the actor
none_behind : (xs : List (List ℕ)) (a d : List ℕ) (m : ℕ) → m ≤ length xs → ((k : ℕ) → m ≤ k → k < length xs → is_actor a (get_or xs k d) ≡ false) → m + place_of (drop m xs) a ≡ length xs
none_behind [] a d zero n differ = refl
none_behind [] a d (suc m) n differ = absurd (omega arith)
none_behind (x ∷ xs) a d zero n differ =
    let here : is_actor a x ≡ false = differ 0 (omega arith) (omega arith) in
    let step : place_of (x ∷ xs) a ≡ suc (place_of xs a) = rw here refl in
    let rest : 0 + place_of xs a ≡ length xs = none_behind xs a d zero (omega arith) (λ k l h. differ (suc k) (omega arith) (omega arith)) in
    omega (arith, step, rest)
none_behind (x ∷ xs) a d (suc m) n differ =
    let rest : m + place_of (drop m xs) a ≡ length xs = none_behind xs a d m (omega arith) (λ k l h. differ (suc k) (omega arith) (omega arith)) in
    omega (arith, rest)

back : (a b : List ℕ) → bytes_cmp a b ≡ Greater → bytes_cmp b a ≡ Less
back a b g = nat_list_cmp_total.antisymm b a ∙ ap ordering_reverse g

not_below : (a b : List ℕ) → bytes_cmp a b ≡ Less → is_actor a b ≡ false
not_below a b e = ap is_eq e

not_above : (a b : List ℕ) → bytes_cmp b a ≡ Less → is_actor a b ≡ false
not_above a b e = ap is_eq (nat_list_cmp_total.antisymm a b ∙ ap ordering_reverse e)

module _ (xs : List (List ℕ)) (up : Ascends bytes_cmp xs) (d : List ℕ) where
  far : (i m : ℕ) → suc (i + m) < length xs → bytes_cmp (get_or xs i d) (get_or xs (suc (i + m)) d) ≡ Less
  far i zero l =
      let next : i + 1 ≡ suc (i + zero) = omega arith in
      subst (λ k. bytes_cmp (get_or xs i d) (get_or xs k d) ≡ Less) next (up i d (omega arith))
  far i (suc m) l =
      let next : suc (i + m) + 1 ≡ suc (i + suc m) = omega arith in
      nat_list_cmp_total.trans (get_or xs i d) (get_or xs (suc (i + m)) d) (get_or xs (suc (i + suc m)) d) (far i m (omega arith)) (subst (λ k. bytes_cmp (get_or xs (suc (i + m)) d) (get_or xs k d) ≡ Less) next (up (suc (i + m)) d (omega arith)))

  below : (i j : ℕ) → i < j → j < length xs → bytes_cmp (get_or xs i d) (get_or xs j d) ≡ Less
  below i j b l =
      let at : suc (i + (j - suc i)) ≡ j = omega arith in
      subst (λ k. bytes_cmp (get_or xs i d) (get_or xs k d) ≡ Less) at (far i (j - suc i) (omega arith))

module _ (xs : List (List ℕ)) (up : Ascends bytes_cmp xs) (a at : List ℕ) (m : ℕ) (within : m < length xs) (there : at ≡ get_or xs m at) where
  -- the actor that stands at m is the one that is sought
  pub found_here : bytes_cmp a at ≡ Equal → place_of xs a ≡ m
  found_here e =
      let before = none_before xs a at m (omega arith) (λ k l. not_above a (get_or xs k at) (subst (λ b. bytes_cmp (get_or xs k at) b ≡ Less) (sym there ∙ sym (exact_bytes a at e)) (below xs up at k m l within))) in
      let here : place_of (drop m xs) a ≡ 0 = place-here xs m a at within there (ap is_eq e) in
      omega arith

  -- it is below the one that is sought, and so are those before it
  pub found_above : (i : ℕ) → i ≡ m + 1 → bytes_cmp a at ≡ Greater → place_of xs a ≡ i + place_of (drop i xs) a
  found_above i n g = none_before xs a at i (omega arith) (λ k l. ⊎_elim
      (λ same. let is : get_or xs k at ≡ at = ap (λ j. get_or xs j at) same ∙ sym there in ap (is_actor a) is ∙ ap is_eq g)
      (λ other. not_above a (get_or xs k at) (nat_list_cmp_total.trans (get_or xs k at) at a (subst (λ b. bytes_cmp (get_or xs k at) b ≡ Less) (sym there) (below xs up at k m (omega arith) within)) (back a at g)))
      (cases_eq k m))

  -- it is above the one that is sought, and so are those behind it
  pub found_below : bytes_cmp a at ≡ Less → m + place_of (drop m xs) a ≡ length xs
  found_below e = none_behind xs a at m (omega arith) (λ k l h. ⊎_elim
      (λ same. let is : get_or xs k at ≡ at = ap (λ j. get_or xs j at) same ∙ sym there in ap (is_actor a) is ∙ ap is_eq e)
      (λ other. not_below a (get_or xs k at) (nat_list_cmp_total.trans a at (get_or xs k at) e (subst (λ b. bytes_cmp b (get_or xs k at) ≡ Less) (sym there) (below xs up at m k (omega arith) h))))
      (cases_eq k m))

-- it is the first
pub place_first : (all others : List (List ℕ)) (first a : List ℕ) → all ≡ first ∷ others → is_actor a first ≡ true → 0 ≡ place_of all a
place_first all others first a e t = sym (ap (λ l. place_of l a) e ∙ (rw t refl))

-- it isn't the first
pub place_later : (all others : List (List ℕ)) (first a : List ℕ) → all ≡ first ∷ others → is_actor a first ≡ false → place_of all a ≡ suc (place_of others a)
place_later all others first a e t = ap (λ l. place_of l a) e ∙ (rw t refl)
