-- A column that is written by runs, or row by row.
use Rattle.std.proofs.Common.{◌≡◌, ℕ, ◌+◌, ◌<◌, ◌≤◌, ◌^◌, List, [], ◌∷◌, ◌++◌, length, map, take, drop, get_or, replicate, Option, Some, None, sym, ap, ◌∙◌, subst, arith, append_assoc}
use Rattle.std.specs.Prelude.{IfSome, IfNone}
use Rattle.std.proofs.lemmas.List.{length-append, length-map, length-take-le, map-append, map_more, replicate_more, replicate-append-replicate, take-append-drop, take-take, drop-take}
use Rattle.am_fields.proofs.WriteLaws.{held, stepped_all}

-- one more is like the first
pub like_next : {X A : Type 0} (f : X → A) (xs : List X) (n : ℕ) (x : X) (c : A) → n < length xs → x ≡ get_or xs n x → f x ≡ c → map f (take n xs) ≡ replicate n c → map f (take (n + 1) xs) ≡ replicate (n + 1) c
like_next f xs n x c l is e h =
    map_more f xs n x l ∙ ap (λ y. map f (take n xs) ++ f y ∷ []) (sym is) ∙ ap (λ zs. zs ++ f x ∷ []) h ∙ ap (λ y. replicate n c ++ y ∷ []) e ∙ replicate_more n c

take_plus : {X : Type 0} (xs : List X) (a b : ℕ) → take (a + b) xs ≡ take a xs ++ take b (drop a xs)
take_plus xs a b =
    sym (take-append-drop a (take (a + b) xs)) ∙ ap (λ l. l ++ drop a (take (a + b) xs)) (take-take a (a + b) xs (omega arith)) ∙ ap (λ l. take a xs ++ l) (drop-take a b xs)

-- the first of a run, and those like it
run_step : {X A : Type 0} (f : X → A) (xs : List X) (at n : ℕ) (x : X) → at < length xs → x ≡ get_or xs at x → map f (take n (drop (at + 1) xs)) ≡ replicate n (f x)
    → map f (take (at + (1 + n)) xs) ≡ map f (take at xs) ++ replicate (1 + n) (f x)
run_step f xs at n x l is h =
    let same : at + (1 + n) ≡ (at + 1) + n = omega arith in
    ap (λ k. map f (take k xs)) same
    ∙ ap (map f) (take_plus xs (at + 1) n)
    ∙ map-append f (take (at + 1) xs) (take n (drop (at + 1) xs))
    ∙ ap (λ zs. map f (take (at + 1) xs) ++ zs) h
    ∙ ap (λ zs. zs ++ replicate n (f x)) (map_more f xs at x l ∙ ap (λ y. map f (take at xs) ++ f y ∷ []) (sym is))
    ∙ append_assoc (map f (take at xs)) (f x ∷ []) (replicate n (f x))
    ∙ ap (λ zs. map f (take at xs) ++ zs) (replicate-append-replicate 1 n (f x))

-- the same within a part
pub run_at : {X A : Type 0} (f : X → A) (xs : List X) (at n m : ℕ) (x : X) → at < length xs → x ≡ get_or xs at x → n ≤ m → map f (take n (take m (drop (at + 1) xs))) ≡ replicate n (f x)
    → map f (take (at + (1 + n)) xs) ≡ map f (take at xs) ++ replicate (1 + n) (f x)
run_at f xs at n m x l is few h = run_step f xs at n x l is (ap (map f) (sym (take-take n m (drop (at + 1) xs) few)) ∙ h)

-- what a writer holds after one more part
pub part_written : {A : Type 0} (old now new : Option (List A)) (done more after : List A) → IfSome old (λ xs. now ≡ Some (xs ++ done)) → IfSome now (λ ys. new ≡ Some (ys ++ more)) → after ≡ done ++ more
    → IfSome old (λ xs. new ≡ Some (xs ++ after))
part_written None now new done more after h step e = tt
part_written (Some xs) now new done more after h step e =
    stepped_all now new (xs ++ done) more h step ∙ ap Some (append_assoc xs done more ∙ ap (λ zs. xs ++ zs) (sym e))

-- and the room that it has for it
pub part_room : {A : Type 0} (old now : Option (List A)) (done : List A) (n count : ℕ) → IfNone old (now ≡ None) → IfSome old (λ xs. now ≡ Some (xs ++ done)) → IfSome old (λ xs. length xs + n ≤ 2 ^ 32) → length done + count ≤ n
    → IfSome now (λ ys. length ys + count ≤ 2 ^ 32)
part_room None now done n count none h room few = subst (λ v. IfSome v (λ ys. length ys + count ≤ 2 ^ 32)) (sym none) tt
part_room (Some xs) now done n count none h room few =
    held now (xs ++ done) (λ ys. length ys + count ≤ 2 ^ 32) h (omega (arith, room, few, length-append xs done))

-- how long what was written of the first rows is
pub done_length : {X A : Type 0} (f : X → A) (xs : List X) (n : ℕ) → n ≤ length xs → length (map f (take n xs)) ≡ n
done_length f xs n l = length-map (take n xs) f ∙ length-take-le n xs l
