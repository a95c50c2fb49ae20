-- Writers that were given one more, or some more.
use Rattle.std.proofs.Common.{◌≡◌, ℕ, zero, suc, add-one, ◌+◌, ◌<◌, ◌≤◌, List, [], ◌∷◌, ◌++◌, length, map, take, get_or, Option, Some, None, Bool, true, false, refl, sym, ap, ◌∙◌, arith, append_assoc}
use Rattle.std.specs.Prelude.{IfSome, IfNone, IsSome, OnOk, Result, Ok, Err}
use Rattle.std.proofs.lemmas.List.{length-append, map-append, append-nil}
use Rattle.am_types.specs.declared.ObjId.{ObjId}
use Rattle.am_types.specs.declared.Key.{Key}
use Rattle.am_types.specs.declared.RawValue.{RawValue}
use Rattle.am_fields.specs.Held.{FieldLists}
use Rattle.am_fields.specs.Layout.{flat}

-- a writer holds these, and one more behind
pub stepped : {A : Type 0} (old new : Option (List A)) (xs : List A) (x : A) → old ≡ Some xs → IfSome old (λ ys. new ≡ Some (ys ++ x ∷ [])) → new ≡ Some (xs ++ x ∷ [])
stepped None new xs x e step = absurd (cc)
stepped (Some ys) new xs x e step = let same : ys ≡ xs = cc in step ∙ ap (λ zs. Some (zs ++ x ∷ [])) same

pub stepped_all : {A : Type 0} (old new : Option (List A)) (xs zs : List A) → old ≡ Some xs → IfSome old (λ ys. new ≡ Some (ys ++ zs)) → new ≡ Some (xs ++ zs)
stepped_all None new xs zs e step = absurd (cc)
stepped_all (Some ys) new xs zs e step = let same : ys ≡ xs = cc in step ∙ ap (λ us. Some (us ++ zs)) same

pub held : {A : Type 0} (old : Option (List A)) (xs : List A) (P : List A → Type 0) → old ≡ Some xs → P xs → IfSome old P
held None xs P e p = absurd (cc)
held (Some ys) xs P e p = let same : ys ≡ xs = cc in rw same p

-- the next of a field
pub map-next : {X A : Type 0} (f : X → A) (xs : List X) (x : X) → map f (xs ++ x ∷ []) ≡ map f xs ++ f x ∷ []
map-next f xs x = map-append f xs (x ∷ [])

pub map2-next : {X A B : Type 0} (g : A → B) (f : X → A) (xs : List X) (x : X) → map g (map f (xs ++ x ∷ [])) ≡ map g (map f xs) ++ g (f x) ∷ []
map2-next g f xs x = ap (map g) (map-next f xs x) ∙ map-append g (map f xs) (f x ∷ [])

pub map2-append : {X A B : Type 0} (g : A → B) (f : X → A) (xs ys : List X) → map g (map f (xs ++ ys)) ≡ map g (map f xs) ++ map g (map f ys)
map2-append g f xs ys = ap (map g) (map-append f xs ys) ∙ map-append g (map f xs) (map f ys)

pub flat-append : {A : Type 0} (xs ys : List (List A)) → flat (xs ++ ys) ≡ flat xs ++ flat ys
flat-append [] ys = refl
flat-append (x ∷ xs) ys = ap (λ zs. x ++ zs) (flat-append xs ys) ∙ sym (append_assoc x (flat xs) (flat ys))

pub flat-next : {X A : Type 0} (f : X → List A) (xs : List X) (x : X) → flat (map f (xs ++ x ∷ [])) ≡ flat (map f xs) ++ f x
flat-next f xs x = ap flat (map-next f xs x) ∙ flat-append (map f xs) (f x ∷ []) ∙ ap (λ zs. flat (map f xs) ++ zs) (append-nil (f x))

pub wrote : {A : Type 0} (old new : Option (List A)) (xs ys : List A) (x y : A) → old ≡ Some xs → IfSome old (λ zs. new ≡ Some (zs ++ x ∷ [])) → x ≡ y → ys ≡ xs ++ y ∷ [] → new ≡ Some ys
wrote old new xs ys x y e step same next = stepped old new xs x e step ∙ ap (λ z. Some (xs ++ z ∷ [])) same ∙ ap Some (sym next)

pub wrote_all : {A : Type 0} (old new : Option (List A)) (xs ys more added : List A) → old ≡ Some xs → IfSome old (λ zs. new ≡ Some (zs ++ more)) → more ≡ added → ys ≡ xs ++ added → new ≡ Some ys
wrote_all old new xs ys more added e step same next = stepped_all old new xs more e step ∙ ap (λ z. Some (xs ++ z)) same ∙ ap Some (sym next)

-- a writer that was given some has room for one more
pub room_for : {A : Type 0} (old now : Option (List A)) (added : List A) (n m : ℕ) → IfNone old (now ≡ None) → IfSome old (λ xs. now ≡ Some (xs ++ added)) → IfSome old (λ xs. length xs + n ≤ m) → length added < n → IfSome now (λ ys. length ys < m)
room_for None now added n m none some room less = rw none tt
room_for (Some xs) now added n m none some room less =
    let r : length xs + n ≤ m = room in
    held now (xs ++ added) (λ ys. length ys < m) some (omega (arith, length-append xs added))

pub OnOk-then : {A E : Type 0} (r : Result A E) (P Q : Type 0) → (P → Q) → OnOk r P → OnOk r Q
OnOk-then (Ok x) P Q f p = f p
OnOk-then (Err e) P Q f p = tt

pub OnOk-both : {A E : Type 0} (r : Result A E) (P Q R : Type 0) → (P → Q → R) → OnOk r P → OnOk r Q → OnOk r R
OnOk-both (Ok x) P Q R f p q = f p q
OnOk-both (Err e) P Q R f p q = tt

-- what was pushed is this
pub step_as : {A : Type 0} (old new : Option (List A)) (x y : A) → IfSome old (λ zs. new ≡ Some (zs ++ x ∷ [])) → x ≡ y → IfSome old (λ zs. new ≡ Some (zs ++ y ∷ []))
step_as None new x y step e = tt
step_as (Some zs) new x y step e = step ∙ ap (λ z. Some (zs ++ z ∷ [])) e

-- the items so far and those of the next
pub flat_room : {X A : Type 0} (f : X → List A) (xs : List X) (i : ℕ) (x : X) → i < length xs → x ≡ get_or xs i x → length (flat (map f (take i xs))) + length (f x) ≤ length (flat (map f xs))
flat_room f [] i x n e = absurd (omega arith)
flat_room f (y ∷ xs) zero x n e =
    let same : x ≡ y = e in
    omega (arith, ap (λ z. length (f z)) same, length-append (f y) (flat (map f xs)))
flat_room f (y ∷ xs) (suc i) x n e =
    let more = flat_room f xs i x (omega arith) e in
    omega (arith, length-append (f y) (flat (map f (take i xs))), length-append (f y) (flat (map f xs)))

take_suc : {A : Type 0} (xs : List A) (i : ℕ) (x : A) → i < length xs → x ≡ get_or xs i x → take (suc i) xs ≡ take i xs ++ x ∷ []
take_suc [] i x n e = absurd (omega arith)
take_suc (y ∷ xs) zero x n e = let same : x ≡ y = e in ap (λ o. o ∷ []) (sym same)
take_suc (y ∷ xs) (suc i) x n e = ap (λ zs. y ∷ zs) (take_suc xs i x (omega arith) e)

pub take_next : {A : Type 0} (xs : List A) (i : ℕ) (x : A) → i < length xs → x ≡ get_or xs i x → take (i + 1) xs ≡ take i xs ++ x ∷ []
take_next xs i x n e = ap (λ k. take k xs) (add-one i) ∙ take_suc xs i x n e

-- the common fields, list by list

abbrev pub lists : List ObjId → List Key → List Bool → List ℕ → List RawValue → List Bool → List (Option (List ℕ)) → FieldLists
lists o k i a v e m = record { objects = o; keys = k; inserts = i; actions = a; values = v; expands = e; marks = m }

pub lists_same : (o o' : List ObjId) (k k' : List Key) (i i' : List Bool) (a a' : List ℕ) (v v' : List RawValue) (e e' : List Bool) (m m' : List (Option (List ℕ)))
    → o ≡ o' → k ≡ k' → i ≡ i' → a ≡ a' → v ≡ v' → e ≡ e' → m ≡ m' → lists o k i a v e m ≡ lists o' k' i' a' v' e' m'
lists_same o o' k k' i i' a a' v v' e e' m m' e1 e2 e3 e4 e5 e6 e7 = rw (e1, e2, e3, e4, e5, e6, e7) refl

-- what would be an error, were it nothing, and is none
pub some_where : {A : Type 0} (o : Option A) → IfNone o (false ≡ true) → IsSome o
some_where None h = absurd (cc)
some_where (Some x) h = refl
