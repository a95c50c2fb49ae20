-- Lists by their places.
use Rattle.std.proofs.Common.{ℕ, zero, suc, ◌≡◌, ◌+◌, ◌<◌, List, [], ◌∷◌, ◌++◌, length, take, map, slice_get, Bool, true, false, Option, option_map, Some, None, cond, refl, sym, ap, ◌∙◌, subst, inl, inr, ◌⊎◌, Contains, get_or, AllPairs, arith}
use Rattle.std.specs.List.{zip, AllZip}
use Rattle.std.specs.Map.{lookup}
use Rattle.std.proofs.lemmas.Bool.{cases_Bool, both_ways}
use Rattle.std.proofs.lemmas.List.{get_or-map, length-map}
use Rattle.std.proofs.lemmas.Option.{none-some, same_Some}

pub both_same : {Y : Type 0} (S : Y → Y → Type 0) (a b c d : Y) → a ≡ b → c ≡ d → S a c → S b d
both_same S a b c d e f s = subst (λ z. S z d) e (subst (S a) f s)

module _ {X : Type 0} where
  pub get_left : (xs ys : List X) (p : ℕ) (x : X) → slice_get xs p ≡ Some x → slice_get (xs ++ ys) p ≡ Some x
  get_left [] ys p x e = absurd (none-some x e)
  get_left (y ∷ xs) ys zero x e = e
  get_left (y ∷ xs) ys (suc p) x e = get_left xs ys p x e

  pub get_right : (xs ys : List X) (p : ℕ) → slice_get (xs ++ ys) (length xs + p) ≡ slice_get ys p
  get_right [] ys p = let e : 0 + p ≡ p = omega arith in ap (slice_get ys) e
  get_right (x ∷ xs) ys p =
      let again : slice_get (xs ++ ys) (length xs + p) ≡ slice_get ys p = get_right xs ys p in
      let e : length (x ∷ xs) + p ≡ suc (length xs + p) = omega arith in
      ap (slice_get (x ∷ (xs ++ ys))) e ∙ again

  pub get_either : (xs ys : List X) (p : ℕ) (x : X) → slice_get (xs ++ ys) p ≡ Some x → (slice_get xs p ≡ Some x) ⊎ ((j : ℕ) × (p ≡ length xs + j) × (slice_get ys j ≡ Some x))
  get_either [] ys p x e = inr (p, omega arith, e)
  get_either (y ∷ xs) ys zero x e = inl e
  get_either (y ∷ xs) ys (suc p) x e =
      let again : (slice_get xs p ≡ Some x) ⊎ ((j : ℕ) × (p ≡ length xs + j) × (slice_get ys j ≡ Some x)) = get_either xs ys p x e in
      elim again [ inl f ↦ inl f | inr f ↦ inr (f.0, (let g : p ≡ length xs + f.0 = f.1 in omega arith), f.2) ]

  pub get_take : (n : ℕ) (xs : List X) (p : ℕ) → p < n → slice_get (take n xs) p ≡ slice_get xs p
  get_take zero xs p l = absurd (omega arith)
  get_take (suc n) [] p l = refl
  get_take (suc n) (x ∷ xs) zero l = refl
  get_take (suc n) (x ∷ xs) (suc p) l = get_take n xs p (omega arith)

  pub get_from_take : (n : ℕ) (xs : List X) (p : ℕ) (x : X) → slice_get (take n xs) p ≡ Some x → (p < n) × (slice_get xs p ≡ Some x)
  get_from_take zero xs p x e = absurd (none-some x e)
  get_from_take (suc n) [] p x e = absurd (none-some x e)
  get_from_take (suc n) (y ∷ xs) zero x e = (omega arith, e)
  get_from_take (suc n) (y ∷ xs) (suc p) x e =
      let again : (p < n) × (slice_get xs p ≡ Some x) = get_from_take n xs p x e in
      let l = again.0 in (omega arith, again.1)

  pub pairs_map : {Y : Type 0} (R : X → X → Type 0) (S : Y → Y → Type 0) (f : X → Y) → ((x y : X) → R x y → S (f x) (f y)) → X → (xs : List X) → AllPairs R xs → AllPairs S (map f xs)
  pairs_map R S f keeps e xs pairs i j d l m =
      let long = length-map xs f in
      let at_i = get_or-map f xs i e d (omega arith) in
      let at_j = get_or-map f xs j e d (omega arith) in
      both_same S _ _ _ _ (sym at_i) (sym at_j) (keeps (get_or xs i e) (get_or xs j e) (pairs i j e l (omega arith)))

  pub contains_map : {Y : Type 0} (f : X → Y) (xs : List X) (x : X) → Contains xs x → Contains (map f xs) (f x)
  contains_map f xs x c =
      let long = length-map xs f in
      let within : c.0 < length xs = c.1 in
      (c.0, omega arith, get_or-map f xs c.0 x (f x) c.1 ∙ ap f c.2)

pub cloned_map : {V Y : Type 0} (f : V → Y) (R : V → V → Type 0) → ((v w : V) → R v w → f w ≡ f v) → (ks ls : List V) → AllZip R ks ls → map f ls ≡ map f ks
cloned_map f R same [] [] all = refl
cloned_map f R same [] (l ∷ ls) all = absurd all
cloned_map f R same (k ∷ ks) [] all = absurd all
cloned_map f R same (k ∷ ks) (l ∷ ls) all = λ i. same k l all.0 i ∷ cloned_map f R same ks ls all.1 i

-- ---- two lists side by side

module _ {K X : Type 0} where
  pub zip-append : (ks ls : List K) (xs ys : List X) → length xs ≡ length ks → zip (ks ++ ls) (xs ++ ys) ≡ zip ks xs ++ zip ls ys
  zip-append [] ls [] ys e = refl
  zip-append [] ls (x ∷ xs) ys e = absurd (omega arith)
  zip-append (k ∷ ks) ls [] ys e = absurd (omega arith)
  zip-append (k ∷ ks) ls (x ∷ xs) ys e = ap (λ z. (k, x) ∷ z) (zip-append ks ls xs ys (omega arith))

  pub zip-take : (n : ℕ) (ks : List K) (xs : List X) → zip (take n ks) (take n xs) ≡ take n (zip ks xs)
  zip-take zero ks xs = refl
  zip-take (suc n) [] xs = refl
  zip-take (suc n) (k ∷ ks) [] = refl
  zip-take (suc n) (k ∷ ks) (x ∷ xs) = ap (λ z. (k, x) ∷ z) (zip-take n ks xs)

  pub zip_get : (ks : List K) (xs : List X) (p : ℕ) (k : K) (x : X) → slice_get ks p ≡ Some k → slice_get xs p ≡ Some x → slice_get (zip ks xs) p ≡ Some (k, x)
  zip_get [] xs p k x e f = absurd (none-some k e)
  zip_get (l ∷ ks) [] p k x e f = absurd (none-some x f)
  zip_get (l ∷ ks) (y ∷ xs) zero k x e f = λ j. Some (same_Some l k e j, same_Some y x f j)
  zip_get (l ∷ ks) (y ∷ xs) (suc p) k x e f = zip_get ks xs p k x e f

  pub zip_key : (ks : List K) (xs : List X) (p : ℕ) (e : K × X) → slice_get (zip ks xs) p ≡ Some e → slice_get ks p ≡ Some e.0
  zip_key [] xs p e f = absurd (none-some e f)
  zip_key (l ∷ ks) [] p e f = absurd (none-some e f)
  zip_key (l ∷ ks) (y ∷ xs) zero e f = first f
    where
      first : Some (l, y) ≡ Some e → Some l ≡ Some e.0
      first f = ap (λ (o : Option (K × X)). option_map (λ d. d.0) o) f
  zip_key (l ∷ ks) (y ∷ xs) (suc p) e f = zip_key ks xs p e f

  -- a key that stands at one place alone
  pub lookup_at : (t : K → Bool) (es : List (K × X)) (p : ℕ) (e : K × X) → slice_get es p ≡ Some e → t e.0 ≡ true → ((q : ℕ) (d : K × X) → slice_get es q ≡ Some d → t d.0 ≡ true → q ≡ p) → lookup t es ≡ Some e.1
  lookup_at t [] p e f g only = absurd (none-some e f)
  lookup_at t (y ∷ es) zero e f g only =
      let is : y ≡ e = same_Some y e f in
      ap (λ b. cond b (Some y.1) (lookup t es)) (ap (λ (z : K × X). t z.0) is ∙ g) ∙ ap (λ (z : K × X). Some z.1) is
  lookup_at t (y ∷ es) (suc p) e f g only =
      let again : ((q : ℕ) (d : K × X) → slice_get es q ≡ Some d → t d.0 ≡ true → q ≡ p) → lookup t es ≡ Some e.1 = lookup_at t es p e f g in
      elim (cases_Bool (t y.0)) [
        | inl h ↦ let z : 0 ≡ suc p = only 0 y refl h in absurd (omega arith)
        | inr h ↦ ap (λ b. cond b (Some y.1) (lookup t es)) h ∙ again (λ q d i j. let z : suc q ≡ suc p = only (suc q) d i j in omega arith)
      ]

  -- a key that stands nowhere
  pub lookup_no : (t : K → Bool) (es : List (K × X)) → ((q : ℕ) (d : K × X) → slice_get es q ≡ Some d → t d.0 ≡ true → ⊥) → lookup t es ≡ None
  lookup_no t [] nothing = refl
  lookup_no t (y ∷ es) nothing =
      let again : lookup t es ≡ None = lookup_no t es (λ q d e f. nothing (suc q) d e f) in
      elim (cases_Bool (t y.0)) [
        | inl h ↦ absurd (nothing 0 y refl h)
        | inr h ↦ ap (λ b. cond b (Some y.1) (lookup t es)) h ∙ again
      ]

  pub not_there : (t : K → Bool) (es : List (K × X)) → lookup t es ≡ None → (q : ℕ) (d : K × X) → slice_get es q ≡ Some d → t d.0 ≡ true → ⊥
  not_there t [] none q d e f = none-some d e
  not_there t (y ∷ es) none q d e f =
      let again : lookup t es ≡ None → (q : ℕ) → slice_get es q ≡ Some d → ⊥ = λ n q g. not_there t es n q d g f in
      elim (cases_Bool (t y.0)) [
        | inl h ↦ none-some y.1 (sym none ∙ ap (λ b. cond b (Some y.1) (lookup t es)) h)
        | inr h ↦ go (again (sym (ap (λ b. cond b (Some y.1) (lookup t es)) h) ∙ none)) q e h
      ]
    where
      go : ((q : ℕ) → slice_get es q ≡ Some d → ⊥) → (q : ℕ) → slice_get (y ∷ es) q ≡ Some d → t y.0 ≡ false → ⊥
      go again zero e h = both_ways (t y.0) h (ap (λ (z : K × X). t z.0) (same_Some y d e) ∙ f)
      go again (suc q) e h = again q e
