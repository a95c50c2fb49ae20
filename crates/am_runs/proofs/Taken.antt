-- Equal entries taken at once, and what a cursor shows that holds some of them.
use Rattle.std.proofs.Common.{◌≡◌, ℕ, suc, zero, ◌+◌, ◌-◌, ◌<◌, ◌≤◌, List, ◌∷◌, ◌++◌, length, drop, map, Option, Some, None, refl, sym, ap, ◌∙◌, arith, length-append}
use Rattle.std.specs.Prelude.{replicate}
use Rattle.std.specs.Option.{IfSome, option_map}
use Rattle.std.proofs.lemmas.List.{take-append-drop, length-replicate, length-map}
use Rattle.am_runs.specs.declared.place.Kind.TheVariants as kinds
use Rattle.am_runs.specs.Items.{IsItem}
use Rattle.am_runs.specs.Typed.{AllItems}
use Rattle.am_runs.specs.Walking.{Place, step, entries, HasEntries, Takes}
use Rattle.am_runs.proofs.Jumping.{Jumps-one, jump_repeat, jump_nulls, found_same}
use Rattle.am_runs.proofs.LikeEntries.{alike_one, alike_repeat, alike_nulls, alike_same}

pub take_one : (end : List ℕ → Option ℕ) (p : Place) (next : Option (List ℕ) × Place) → Some next ≡ step end p → Takes end p next.0 1 next.1
take_one end p next e = (Jumps-one end p next e, alike_one end p next e)

pub take_repeat : (end : List ℕ → Option ℕ) (p : Place) (k : ℕ) → p.kind ≡ kinds.Repeat → k ≤ p.count → Takes end p (Some p.item) k (record { kind = p.kind; count = p.count - k; item = p.item; rest = p.rest })
take_repeat end p k e h = (jump_repeat end p k e h, λ j n a b. alike_repeat end p e j n (omega arith) b)

pub take_nulls : (end : List ℕ → Option ℕ) (p : Place) (k : ℕ) → p.kind ≡ kinds.Nulls → k ≤ p.count → Takes end p None k (record { kind = p.kind; count = p.count - k; item = p.item; rest = p.rest })
take_nulls end p k e h = (jump_nulls end p k e h, λ j n a b. alike_nulls end p e j n (omega arith) b)

pub taken_same : (end : List ℕ → Option ℕ) (p q : Place) (most : ℕ) → step end p ≡ step end q → {X : Type 0} (o : Option X) (x : X → Option (List ℕ)) (k : X → ℕ) (place : X → Place)
    → IfSome o (λ r. (0 < k r) × (k r ≤ most) × Takes end q (x r) (k r) (place r)) → IfSome o (λ r. (0 < k r) × (k r ≤ most) × Takes end p (x r) (k r) (place r))
taken_same end p q most e None x k place h = h
taken_same end p q most e (Some r) x k place h =
    let j = found_same end p q most e (Some r) k place (h.0, h.1, h.2.0) in
    let a = alike_same end p q e (Some r) k x (h.0, h.2.1) in
    (h.0, h.1, (j.2, a.1))

pub entries-taken : (end : List ℕ → Option ℕ) (n : ℕ) (from : Place) (x : Option (List ℕ)) (k : ℕ) (to : Place) → Takes end from x k to → k ≤ n → HasEntries end n from → entries end n from ≡ replicate k x ++ entries end (n - k) to
entries-taken end n from x k to t h w =
    let whole = entries end n from in
    sym (take-append-drop k whole) ∙ ap (λ l. l ++ drop k whole) (t.1 k n (omega arith) h) ∙ ap (λ l. replicate k x ++ l) (t.0.drops n h w)

-- ---- some are held

pub AllItems-behind : (end : List ℕ → Option ℕ) (k : ℕ) (x : Option (List ℕ)) (list : List (Option (List ℕ))) → AllItems end (replicate k x ++ list) → AllItems end list
AllItems-behind end zero x list h = h
AllItems-behind end (suc k) x list h = AllItems-behind end k x list h.1

pub first_item : (end : List ℕ → Option ℕ) (k : ℕ) (x : Option (List ℕ)) (list : List (Option (List ℕ))) → 0 < k → AllItems end (replicate k x ++ list) → IfSome x (IsItem end)
first_item end zero x list l h = absurd (omega arith)
first_item end (suc k) x list l h = h.0

pub map_taken : {A B : Type 0} (f : A → B) (k : ℕ) (x : A) (list : List A) → map f (replicate k x ++ list) ≡ replicate k (f x) ++ map f list
map_taken f zero x list = refl
map_taken f (suc k) x list = ap (λ l. f x ∷ l) (map_taken f k x list)

pub held_first : {A : Type 0} (k : ℕ) (x : A) (list : List A) → 0 < k → replicate k x ++ list ≡ x ∷ (replicate (k - 1) x ++ list)
held_first zero x list h = absurd (omega arith)
held_first (suc k) x list h = ap (λ n. x ∷ (replicate n x ++ list)) (let q : k ≡ suc k - 1 = omega arith in q)

pub held_none : {A : Type 0} (k : ℕ) (x : A) (list : List A) → k ≡ 0 → replicate k x ++ list ≡ list
held_none zero x list e = refl
held_none (suc k) x list e = absurd (omega arith)

pub drop_held : {A : Type 0} (n k : ℕ) (x : A) (list : List A) → n ≤ k → replicate (k - n) x ++ list ≡ drop n (replicate k x ++ list)
drop_held zero k x list h = ap (λ m. replicate m x ++ list) (let q : k - 0 ≡ k = omega arith in q)
drop_held (suc n) zero x list h = absurd (omega arith)
drop_held (suc n) (suc k) x list h = ap (λ m. replicate m x ++ list) (let q : suc k - suc n ≡ k - n = omega arith in q) ∙ drop_held n k x list (omega arith)

pub drop_past : {A : Type 0} (n k : ℕ) (x : A) (list : List A) → k ≤ n → drop (n - k) list ≡ drop n (replicate k x ++ list)
drop_past n zero x list h = ap (λ m. drop m list) (let q : n - 0 ≡ n = omega arith in q)
drop_past zero (suc k) x list h = absurd (omega arith)
drop_past (suc n) (suc k) x list h = ap (λ m. drop m list) (let q : suc n - suc k ≡ n - k = omega arith in q) ∙ drop_past n k x list (omega arith)

pub length-held : {A B : Type 0} (f : A → B) (k : ℕ) (x : B) (list : List A) → length (replicate k x ++ map f list) ≡ k + length list
length-held f k x list = omega (arith, length-append (replicate k x) (map f list), length-replicate k x, length-map list f)

pub fits_taken : (k : ℕ) (x : Option (List ℕ)) (old new : List (Option (List ℕ))) (bound : ℕ) → old ≡ replicate k x ++ new → length old < bound → k + length new < bound
fits_taken k x old new bound e h = omega (arith, h, ap length e, length-append (replicate k x) new, length-replicate k x)

-- what is shown behind the numbers that are taken
pub taken_number : {A : Type 0} (f : List ℕ → A) (k : ℕ) (x : Option (List ℕ)) (y : Option A) (old new : List (Option (List ℕ))) → 1 ≤ k → old ≡ replicate k x ++ new → y ≡ option_map f x
    → map (option_map f) old ≡ y ∷ (replicate (k - 1) y ++ map (option_map f) new)
taken_number f k x y old new h e v =
    ap (map (option_map f)) e ∙ map_taken (option_map f) k x new ∙ ap (λ z. replicate k z ++ map (option_map f) new) (sym v) ∙ held_first k y (map (option_map f) new) (omega arith)
