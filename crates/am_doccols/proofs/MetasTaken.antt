-- Change rows that are taken out of a cursor, one by one.
--     none_is         what an answer of nothing says
--     none_left       while rows are wanted, there is one
--     next_good       the next one may be written
--     room_further    there is room for it
--     metas_further   what was written with it
use Rattle.std.proofs.Common.{◌≡◌, ℕ, zero, suc, add-one, ◌+◌, ◌<◌, ◌≤◌, List, [], ◌∷◌, ◌++◌, length, take, drop, map, Option, Some, None, sym, ap, ◌∙◌, subst, arith, append_assoc}
use Rattle.std.specs.Prelude.{IfSome, IfNone}
use Rattle.std.specs.List.{AllByRecursion}
use Rattle.std.proofs.lemmas.List.{length-append, length-drop, length-take-le, map-append}
use Rattle.am_types.specs.declared.Meta.{Meta}
use Rattle.am_fields.specs.Layout.{flat}
use Rattle.am_fields.proofs.WriteLaws.{flat-append}
use Rattle.am_doccols.specs.Conditions.{dep_count, HasMetaRoom}
use Rattle.am_doccols.specs.Front.{HasMetaRoomFor}

pub none_is : {A : Type 0} (r : Option A) (P : Type 0) → r ≡ None → IfNone r P → P
none_is None P e h = h
none_is (Some x) P e h = absurd (cc)

pub none_left : {A : Type 0} (n i : ℕ) (xs : List A) → i < n → n ≤ length xs → drop i xs ≡ [] → ⊥
none_left n i xs l enough e = omega (arith, l, enough, ap length e, length-drop i xs)

pub next_good : {A : Type 0} (P : A → Type 0) (n i : ℕ) (xs rest : List A) (x : A) → i < n → drop i xs ≡ x ∷ rest → AllByRecursion P (take n xs) → P x
next_good P zero i xs rest x l e all = absurd (omega (arith, l))
next_good P (suc n) zero [] rest x l e all = absurd (cc)
next_good P (suc n) zero (y ∷ xs) rest x l e all = let same : y ≡ x = cc in subst P same all.0
next_good P (suc n) (suc i) [] rest x l e all = absurd (cc)
next_good P (suc n) (suc i) (y ∷ xs) rest x l e all = next_good P n i xs rest x (omega (arith, l)) e all.1

-- the items of the lists so far, and those of the next list
so_far : {X A : Type 0} (f : X → List A) (n i : ℕ) (xs rest : List X) (x : X) → i < n → drop i xs ≡ x ∷ rest → length (flat (map f (take i xs))) + length (f x) ≤ length (flat (map f (take n xs)))
so_far f zero i xs rest x l e = absurd (omega (arith, l))
so_far f (suc n) zero [] rest x l e = absurd (cc)
so_far f (suc n) zero (y ∷ xs) rest x l e =
    let same : y ≡ x = cc in
    omega (arith, ap (λ z. length (f z)) same, length-append (f y) (flat (map f (take n xs))))
so_far f (suc n) (suc i) [] rest x l e = absurd (cc)
so_far f (suc n) (suc i) (y ∷ xs) rest x l e =
    let more = so_far f n i xs rest x (omega (arith, l)) e in
    omega (arith, more, length-append (f y) (flat (map f (take i xs))), length-append (f y) (flat (map f (take n xs))))

further : {A : Type 0} (i : ℕ) (xs rest : List A) (x : A) → drop i xs ≡ x ∷ rest → take (suc i) xs ≡ take i xs ++ x ∷ []
further zero [] rest x e = absurd (cc)
further zero (y ∷ xs) rest x e = let same : y ≡ x = cc in ap (λ z. z ∷ []) same
further (suc i) [] rest x e = absurd (cc)
further (suc i) (y ∷ xs) rest x e = ap (λ l. y ∷ l) (further i xs rest x e)

front_next : {A : Type 0} (i : ℕ) (xs rest : List A) (x : A) → drop i xs ≡ x ∷ rest → take (i + 1) xs ≡ take i xs ++ x ∷ []
front_next i xs rest x e = ap (λ k. take k xs) (add-one i) ∙ further i xs rest x e

dep_count-append : (metas more : List Meta) → dep_count (metas ++ more) ≡ dep_count metas + dep_count more
dep_count-append metas more =
    ap length (ap flat (map-append (λ m. m.deps) metas more) ∙ flat-append (map (λ m. m.deps) metas) (map (λ m. m.deps) more))
    ∙ length-append (flat (map (λ m. m.deps) metas)) (flat (map (λ m. m.deps) more))

pub room_further : (shown self : Option (List Meta)) (from rest : List Meta) (n i : ℕ) (m : Meta) → i < n → n ≤ length from → drop i from ≡ m ∷ rest
    → IfNone shown (self ≡ None) → IfSome shown (λ metas. self ≡ Some (metas ++ take i from)) → IfSome shown (λ metas. HasMetaRoomFor metas (take n from)) → IfSome self (λ metas. HasMetaRoom metas m.deps)
room_further None self from rest n i m l enough e none written room = subst (λ v. IfSome v (λ metas. HasMetaRoom metas m.deps)) (sym none) tt
room_further (Some metas) self from rest n i m l enough e none written room =
    let given : HasMetaRoomFor metas (take n from) = room in
    let next : HasMetaRoom (metas ++ take i from) m.deps = record {
      few = omega (arith, l, given.few, length-append metas (take i from), length-take-le i from (omega (arith, l, enough)), length-take-le n from enough);
      few_deps = omega (arith, given.few_deps, dep_count-append metas (take i from), so_far (λ (x : Meta). x.deps) n i from rest m l e);
    } in
    subst (λ v. IfSome v (λ zs. HasMetaRoom zs m.deps)) (sym written) next

pub metas_further : (shown self next : Option (List Meta)) (from rest : List Meta) (i : ℕ) (m : Meta) → drop i from ≡ m ∷ rest
    → IfSome shown (λ metas. self ≡ Some (metas ++ take i from)) → IfSome self (λ metas. next ≡ Some (metas ++ m ∷ [])) → IfSome shown (λ metas. next ≡ Some (metas ++ take (i + 1) from))
metas_further None self next from rest i m e written step = tt
metas_further (Some metas) self next from rest i m e written step =
    subst (λ v. IfSome v (λ zs. next ≡ Some (zs ++ m ∷ []))) written step
    ∙ ap Some (append_assoc metas (take i from) (m ∷ []) ∙ ap (λ zs. metas ++ zs) (sym (front_next i from rest m e)))
