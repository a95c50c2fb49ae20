-- Members by their hashes: which are held, how often, and that one hash stands for one member.
use Rattle.std.proofs.Common.{ℕ, ◌≡◌, ◌≤◌, ◌+◌, List, [], ◌∷◌, ◌++◌, filter, Bool, true, false, cond, refl, sym, ap, ◌∙◌, subst, inl, inr, Contains, IsPermutation, sum_by, arith}
use Rattle.std.specs.Bool.{⊤}
use Rattle.std.proofs.lemmas.Bool.{cases_Bool, both_ways, false_from_ne_true, or_parts, or_from}
use Rattle.std.proofs.lemmas.List.Sums.{sum_by-cons, sum_by-append}
use Rattle.std.proofs.lemmas.List.Sorted.{sum_by-IsPermutation}
use Rattle.std.proofs.lemmas.Map.Views.{Contains-from_any}
use Rattle.am_types.specs.declared.Hash.{Hash}
use Rattle.am_types.specs.declared.Change.{Change}
use Rattle.am_types.specs.Order.{hash_cmp, same, among}
use Rattle.am_types.specs.Members.{Member, hashes, holds, holds_deps}
use Rattle.am_types.proofs.Orders.{same_hash-true, same_hash_itself}
use Rattle.am_laws.proofs.Ancestry.{Contains-from_filter}
use Rattle.am_delivery.proofs.Lists.{Within, NoRepeat, Contains-none, Contains-cons_cases, any_from, all_found, all_from, Contains-map, Contains-from_map}

pub among_from : (hs : List Hash) (h : Hash) → Contains hs h → among hash_cmp hs h ≡ true
among_from hs h c = any_from (same hash_cmp h) hs h c (same_hash_itself h)

pub from_among : (hs : List Hash) (h : Hash) → among hash_cmp hs h ≡ true → Contains hs h
from_among hs h t = Contains-from_any same_hash-true h hs t

pub holds_it : (C : List Member) (m : Member) → Contains C m → holds C m.hash ≡ true
holds_it C m c = among_from (hashes C) m.hash (Contains-map (λ (m : Member). m.hash) C m c)

pub holder : (C : List Member) (h : Hash) → holds C h ≡ true → (m : Member) × Contains C m × (m.hash ≡ h)
holder C h t = Contains-from_map (λ (m : Member). m.hash) C h (from_among (hashes C) h t)

pub holds_within : (C D : List Member) (h : Hash) → Within C D → holds C h ≡ true → holds D h ≡ true
holds_within C D h w t = let f = holder C h t in subst (λ g. holds D g ≡ true) f.2 (holds_it D f.0 (w f.0 f.1))

pub not_held_within : (C D : List Member) (h : Hash) → Within C D → holds D h ≡ false → holds C h ≡ false
not_held_within C D h w e = false_from_ne_true _ (λ t. both_ways (holds D h) e (holds_within C D h w t))

pub deps_within : (C D : List Member) (c : Change) → Within C D → holds_deps C c ≡ true → holds_deps D c ≡ true
deps_within C D c w t = all_from (holds D) c.deps (λ h d. holds_within C D h w (all_found (holds C) c.deps t h d))

abbrev pub Closed : List Member → Type 0
Closed C = (m : Member) → Contains C m → holds_deps C m.change ≡ true

-- one hash, one member
abbrev pub Unique : List Member → Type 0
Unique C = (m n : Member) → Contains C m → Contains C n → m.hash ≡ n.hash → m ≡ n

abbrev pub Distinct : List Member → Type 0
Distinct [] = ⊤
Distinct (m ∷ C) = (holds C m.hash ≡ false) × Distinct C

-- how many members have the hash
abbrev pub times : Hash → List Member → ℕ
times h C = sum_by (λ m. cond (same hash_cmp h m.hash) 1 0) C

abbrev pub Once : List Member → Type 0
Once C = (h : Hash) → times h C ≤ 1

pub times-cons : (h : Hash) (m : Member) (C : List Member) → times h (m ∷ C) ≡ cond (same hash_cmp h m.hash) 1 0 + times h C
times-cons h m C = sum_by-cons (λ (m : Member). cond (same hash_cmp h m.hash) 1 0) m C

pub times-append : (h : Hash) (C D : List Member) → times h (C ++ D) ≡ times h C + times h D
times-append h C D = sum_by-append (λ (m : Member). cond (same hash_cmp h m.hash) 1 0) C D

pub times-permutation : (h : Hash) (C D : List Member) → IsPermutation C D → times h D ≡ times h C
times-permutation h C D p = sum_by-IsPermutation (λ (m : Member). cond (same hash_cmp h m.hash) 1 0) C D p

-- a member whose hash is h
times_here : (h : Hash) (m : Member) (C : List Member) → same hash_cmp h m.hash ≡ true → times h (m ∷ C) ≡ 1 + times h C
times_here h m C e = times-cons h m C ∙ ap (λ b. cond b 1 0 + times h C) e

times_past : (h : Hash) (m : Member) (C : List Member) → same hash_cmp h m.hash ≡ false → times h (m ∷ C) ≡ times h C
times_past h m C e = times-cons h m C ∙ ap (λ b. cond b 1 0 + times h C) e ∙ (omega arith)

pub times_none : (h : Hash) (C : List Member) → holds C h ≡ false → times h C ≡ 0
times_none h [] e = refl
times_none h (m ∷ C) e =
    let p = or_parts (same hash_cmp h m.hash) (holds C h) e in
    times_past h m C p.0 ∙ times_none h C p.1

pub none_times : (h : Hash) (C : List Member) → times h C ≡ 0 → holds C h ≡ false
none_times h [] e = refl
none_times h (m ∷ C) e =
    let again : times h C ≡ 0 → holds C h ≡ false = none_times h C in
    elim (cases_Bool (same hash_cmp h m.hash)) [
      | inl t ↦ let f = times_here h m C t in absurd (omega arith)
      | inr t ↦ let f = times_past h m C t in or_from _ _ t (again (omega arith))
    ]

pub once_from_distinct : (C : List Member) → Distinct C → Once C
once_from_distinct [] d h = omega arith
once_from_distinct (m ∷ C) d h =
    let again : times h C ≤ 1 = once_from_distinct C d.1 h in
    elim (cases_Bool (same hash_cmp h m.hash)) [
      | inl t ↦ let f = times_here h m C t in let n = times_none h C (subst (λ g. holds C g ≡ false) (sym (same_hash-true h m.hash t)) d.0) in omega arith
      | inr t ↦ let f = times_past h m C t in omega arith
    ]

pub distinct_from_once : (C : List Member) → Once C → Distinct C
distinct_from_once [] o = tt
distinct_from_once (m ∷ C) o = (
  none_times m.hash C (let f = times_here m.hash m C (same_hash_itself m.hash) in let g = o m.hash in omega arith),
  distinct_from_once C (λ h. let f = times-cons h m C in let g = o h in omega arith),
)

pub once_permutation : (C D : List Member) → IsPermutation C D → Once C → Once D
once_permutation C D p o h = let e = times-permutation h C D p in let g = o h in omega arith

-- a member that comes to others is fresh
pub fresh_from_once : (C : List Member) (m : Member) (D : List Member) → Once (C ++ m ∷ D) → holds C m.hash ≡ false
fresh_from_once C m D o =
    let f = times-append m.hash C (m ∷ D) in
    let g = times_here m.hash m D (same_hash_itself m.hash) in
    let l = o m.hash in
    none_times m.hash C (omega arith)

pub once_push : (C : List Member) (m : Member) → Once C → holds C m.hash ≡ false → Once (C ++ m ∷ [])
once_push C m o e h =
    let f = times-append h C (m ∷ []) in
    let l = o h in
    elim (cases_Bool (same hash_cmp h m.hash)) [
      | inl t ↦ let g = times_here h m [] t in let n = times_none h C (subst (λ g. holds C g ≡ false) (sym (same_hash-true h m.hash t)) e) in omega arith
      | inr t ↦ let g = times_past h m [] t in omega arith
    ]

pub no_repeat : (C : List Member) → Distinct C → NoRepeat C
no_repeat [] d = tt
no_repeat (m ∷ C) d = (λ c. both_ways (holds C m.hash) d.0 (holds_it C m c), no_repeat C d.1)

pub unique : (C : List Member) → Distinct C → Unique C
unique [] d m n cm cn e = absurd (Contains-none m cm)
unique (x ∷ C) d m n cm cn e =
    let again : Contains C m → Contains C n → m ≡ n = λ a b. unique C d.1 m n a b e in
    elim (Contains-cons_cases x C m cm) [
      | inl f ↦ elim (Contains-cons_cases x C n cn) [
        | inl g ↦ sym f ∙ g
        | inr b ↦ absurd (both_ways (holds C x.hash) d.0 (subst (λ h. holds C h ≡ true) (sym e ∙ ap (λ (k : Member). k.hash) (sym f)) (holds_it C n b)))
      ]
      | inr a ↦ elim (Contains-cons_cases x C n cn) [
        | inl g ↦ absurd (both_ways (holds C x.hash) d.0 (subst (λ h. holds C h ≡ true) (e ∙ ap (λ (k : Member). k.hash) (sym g)) (holds_it C m a)))
        | inr b ↦ again a b
      ]
    ]

pub distinct_filter : (p : Member → Bool) (C : List Member) → Distinct C → Distinct (filter p C)
distinct_filter p [] d = tt
distinct_filter p (m ∷ C) d =
    let again : Distinct (filter p C) = distinct_filter p C d.1 in
    let fresh : holds (filter p C) m.hash ≡ false = not_held_within (filter p C) C m.hash (λ n c. (Contains-from_filter p C n c).0) d.0 in
    elim (cases_Bool (p m)) [ inl e ↦ simp e (fresh, again) | inr e ↦ simp e again ]
