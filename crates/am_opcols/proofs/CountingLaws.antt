-- Items that are counted before they are written.
use Rattle.std.proofs.Common.{◌≡◌, ℕ, ◌+◌, ◌<◌, ◌≤◌, List, [], ◌∷◌, ◌++◌, length, Option, Some, None, refl, sym, ap, ◌∙◌, arith, subst, append_assoc}
use Rattle.std.specs.Prelude.{IfSome, IfNone, replicate, is_some, false, option_map}
use Rattle.std.proofs.lemmas.List.{length-append, length-replicate, replicate-append-replicate, append-nil}
use Rattle.am_opcols.specs.Counting.{Counts}

-- nothing is written, and nothing is counted
pub counts_none : {A : Type 0} (w : Option (List A)) (last : A) → w ≡ Some [] → Counts [] w last 0
counts_none {A = A} w last e = subst (λ (v : Option (List A)). Counts [] v last 0) (sym e) refl

-- one more of the last
pub counts_more : {A : Type 0} (xs : List A) (w : Option (List A)) (last : A) (n : ℕ) (x : A) → last ≡ x → Counts xs w last n → Counts (xs ++ x ∷ []) w last (n + 1)
counts_more xs None last n x e h = absurd h
counts_more xs (Some ys) last n x e h =
    ap (λ zs. ys ++ zs) (sym (replicate-append-replicate n 1 last))
    ∙ sym (append_assoc ys (replicate n last) (last ∷ []))
    ∙ ap (λ zs. zs ++ last ∷ []) h
    ∙ ap (λ z. xs ++ z ∷ []) e

-- those that were counted are written
pub counts_written : {A : Type 0} (xs : List A) (w v : Option (List A)) (last : A) (n : ℕ) → Counts xs w last n → IfSome w (λ ys. v ≡ Some (ys ++ replicate n last)) → v ≡ Some xs
counts_written xs None v last n h step = absurd h
counts_written xs (Some ys) v last n h step = step ∙ ap Some h

-- all is written
pub counts_all : {A : Type 0} (xs : List A) (w : Option (List A)) (last : A) → w ≡ Some xs → Counts xs w last 0
counts_all {A = A} xs w last e = subst (λ (u : Option (List A)). Counts xs u last 0) (sym e) (append-nil xs)

-- and another one is written
pub counts_behind : {A : Type 0} (xs : List A) (w v u : Option (List A)) (last : A) (n : ℕ) (x : A)
    → Counts xs w last n → IfSome w (λ ys. v ≡ Some (ys ++ replicate n last)) → IfSome v (λ ys. u ≡ Some (ys ++ x ∷ [])) → Counts (xs ++ x ∷ []) u last 0
counts_behind xs w None u last n x h step more = let e = counts_written xs w None last n h step in absurd (cc)
counts_behind xs w (Some ys) u last n x h step more =
    let e : Some ys ≡ Some xs = counts_written xs w (Some ys) last n h step in
    let same : ys ≡ xs = cc in
    counts_all (xs ++ x ∷ []) u last (more ∙ ap (λ zs. Some (zs ++ x ∷ [])) same)

-- there is room for those that are counted

pub counts_fit : {A : Type 0} (xs : List A) (w : Option (List A)) (last : A) (n m : ℕ) → Counts xs w last n → length xs ≤ m → IfSome w (λ ys. length ys + n ≤ m)
counts_fit xs None last n m h less = tt
counts_fit xs (Some ys) last n m h less = omega (arith, ap length h, length-append ys (replicate n last), length-replicate n last)

pub counts_below : {A : Type 0} (xs : List A) (w : Option (List A)) (last : A) (n m : ℕ) → Counts xs w last n → length xs < m → IfSome w (λ ys. length ys + n < m)
counts_below xs None last n m h less = tt
counts_below xs (Some ys) last n m h less = omega (arith, ap length h, length-append ys (replicate n last), length-replicate n last)

pub less_than : {A : Type 0} (w : Option (List A)) (n m : ℕ) → IfSome w (λ ys. length ys + n < m) → IfSome w (λ ys. length ys + n ≤ m)
less_than None n m h = tt
less_than (Some ys) n m h = let l : length ys + n < m = h in omega arith

pub room_behind : {A : Type 0} (w v : Option (List A)) (last : A) (n m : ℕ) → IfNone w (v ≡ None) → IfSome w (λ ys. v ≡ Some (ys ++ replicate n last))
    → IfSome w (λ ys. length ys + n < m) → IfSome v (λ ys. length ys < m)
room_behind None v last n m none some room = rw none tt
room_behind (Some ys) None last n m none some room = tt
room_behind (Some ys) (Some zs) last n m none some room =
    let l : length ys + n < m = room in
    let e : Some zs ≡ Some (ys ++ replicate n last) = some in
    let same : zs ≡ ys ++ replicate n last = cc in
    omega (arith, ap length same, length-append ys (replicate n last), length-replicate n last)

pub if_none_first : {A : Type 0} (w : Option A) (P Q : Type 0) → IfNone w (P × Q) → IfNone w P
if_none_first None P Q h = h.0
if_none_first (Some x) P Q h = tt

pub no_cell : {A B : Type 0} (f : A → B) (o : Option A) → is_some o ≡ false → None ≡ option_map f o
no_cell f None e = refl
no_cell f (Some x) e = absurd (cc)
