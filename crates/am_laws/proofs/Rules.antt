-- A valid set is closed, its hashes are distinct, its members may come, and it is within the limits.
use Rattle.std.proofs.Common.{ℕ, ◌≡◌, ◌≢◌, ◌≤◌, ◌+◌, ◌^◌, List, [], ◌∷◌, ◌++◌, length, get_or, true, false, cond, None, refl, sym, ap, ◌∙◌, subst, inl, inr, Contains, IsPermutation, sum_by, arith}
use Rattle.std.proofs.lemmas.Bool.{cases_Bool, both_ways, or_parts, or_from}
use Rattle.std.proofs.lemmas.List.{append_assoc, append-nil}
use Rattle.std.proofs.lemmas.List.Elements.{Contains-get_or}
use Rattle.std.proofs.lemmas.List.Kept.{AllPairs-cons}
use Rattle.std.proofs.lemmas.List.Sums.{sum_by-cons, sum_by-append, list_all-from_AllPass}
use Rattle.std.proofs.lemmas.List.Sorted.{IsPermutation-sym, IsPermutation-map, IsPermutation-middle, Contains-permutation, length_permutation, sum_by-IsPermutation}
use Rattle.am_laws.specs.Records.{Hash, Change, Full, Changes, Operations, Preds, Links}
use Rattle.am_types.specs.Order.{hash_cmp, same}
use Rattle.am_types.specs.Fine.{pred_count}
use Rattle.am_types.specs.Members.{Member, changes, holds, holds_deps, DistinctHashes}
use Rattle.am_types.specs.Totals.{above, first_some}
use Rattle.am_types.specs.Verdicts.{limit_passed}
use Rattle.am_types.specs.ValidSets.{JoinInTurn, Valid}
use Rattle.am_types.specs.Deliver.{MayCome}
use Rattle.am_laws.specs.Laws.{KeepsRules}
use Rattle.am_types.proofs.Orders.{same_hash-true, same_hash_itself}
use Rattle.am_laws.proofs.VerdictLaws.{fits_by}
use Rattle.am_laws.proofs.Counters.{mapped_none}
use Rattle.am_laws.proofs.Listed.{holds_own}
use Rattle.am_types.proofs.Lists.{all_of}
use Rattle.am_laws.proofs.SameMembers.{Contains-cons_cases}
use Rattle.am_laws.proofs.ValidSetLaws.{grounds_valid}

-- ---- hashes

-- how many members have the hash
abbrev times : Hash → List Member → ℕ
times h C = sum_by (λ m. cond (same hash_cmp h m.hash) 1 0) C

abbrev Once : List Member → Type 0
Once C = (h : Hash) → times h C ≤ 1

times-cons : (h : Hash) (m : Member) (C : List Member) → times h (m ∷ C) ≡ cond (same hash_cmp h m.hash) 1 0 + times h C
times-cons h m C = sum_by-cons (λ (m : Member). cond (same hash_cmp h m.hash) 1 0) m C

times-append : (h : Hash) (C D : List Member) → times h (C ++ D) ≡ times h C + times h D
times-append h C D = sum_by-append (λ (m : Member). cond (same hash_cmp h m.hash) 1 0) C D

times_here : (h : Hash) (m : Member) (C : List Member) → same hash_cmp h m.hash ≡ true → times h (m ∷ C) ≡ 1 + times h C
times_here h m C e = times-cons h m C ∙ ap (λ b. cond b 1 0 + times h C) e

times_past : (h : Hash) (m : Member) (C : List Member) → same hash_cmp h m.hash ≡ false → times h (m ∷ C) ≡ times h C
times_past h m C e = times-cons h m C ∙ ap (λ b. cond b 1 0 + times h C) e ∙ (omega arith)

times_none : (h : Hash) (C : List Member) → holds C h ≡ false → times h C ≡ 0
times_none h [] e = refl
times_none h (m ∷ C) e =
    let p = or_parts (same hash_cmp h m.hash) (holds C h) e in
    times_past h m C p.0 ∙ times_none h C p.1

none_times : (h : Hash) (C : List Member) → times h C ≡ 0 → holds C h ≡ false
none_times h [] e = refl
none_times h (m ∷ C) e =
    let again : times h C ≡ 0 → holds C h ≡ false = none_times h C in
    elim (cases_Bool (same hash_cmp h m.hash)) [
      | inl t ↦ let f = times_here h m C t in absurd (omega arith)
      | inr t ↦ let f = times_past h m C t in or_from _ _ t (again (omega arith))
    ]

once_push : (C : List Member) (m : Member) → Once C → holds C m.hash ≡ false → Once (C ++ m ∷ [])
once_push C m o e h =
    let f = times-append h C (m ∷ []) in
    let l = o h in
    elim (cases_Bool (same hash_cmp h m.hash)) [
      | inl t ↦ let g = times_here h m [] t in let n = times_none h C (subst (λ g. holds C g ≡ false) (sym (same_hash-true h m.hash t)) e) in omega arith
      | inr t ↦ let g = times_past h m [] t in omega arith
    ]

once_joined : (before rest : List Member) → Once before → JoinInTurn before rest → Once (before ++ rest)
once_joined before [] o t = subst Once (sym (append-nil before)) o
once_joined before (m ∷ rest) o t = subst Once (append_assoc before (m ∷ []) rest) (once_joined (before ++ m ∷ []) rest (once_push before m o t.0.fresh) t.1)

once_permutation : (C D : List Member) → IsPermutation C D → Once C → Once D
once_permutation C D p o h = let e = sum_by-IsPermutation (λ (m : Member). cond (same hash_cmp h m.hash) 1 0) C D p in let g = o h in omega arith

distinct_from_once : (C : List Member) → Once C → DistinctHashes C
distinct_from_once [] o = λ i j d p q e. absurd (omega arith)
distinct_from_once (m ∷ C) o =
    let fresh : holds C m.hash ≡ false = none_times m.hash C (let f = times_here m.hash m C (same_hash_itself m.hash) in let g = o m.hash in omega arith) in
    AllPairs-cons (λ (m n : Member). m.hash ≢ n.hash) m C
    (λ k d l e. both_ways (holds C m.hash) fresh (subst (λ h. holds C h ≡ true) (sym e) (holds_own C (get_or C k d) (Contains-get_or C k d l))))
    (distinct_from_once C (λ h. let f = times-cons h m C in let g = o h in omega arith))

-- ---- limits

limit_same : (C D : List Member) → IsPermutation C D → limit_passed (changes D) ≡ limit_passed (changes C)
limit_same C D p =
    let q = IsPermutation-map (λ (m : Member). m.change) C D p in
    let count = length_permutation (changes C) (changes D) q in
    let ops = sum_by-IsPermutation (λ (c : Change). length c.ops) (changes C) (changes D) q in
    let preds = sum_by-IsPermutation (λ (c : Change). pred_count c.ops) (changes C) (changes D) q in
    let links = sum_by-IsPermutation (λ (c : Change). length c.deps) (changes C) (changes D) q in
    λ i. first_some (above (2 ^ 20) (count i) Changes ∷ above (2 ^ 22) (ops i) Operations ∷ above (2 ^ 22) (preds i) Preds ∷ above (2 ^ 22) (links i) Links ∷ [])

within_limits : (before rest : List Member) → limit_passed (changes before) ≡ None → JoinInTurn before rest → limit_passed (changes (before ++ rest)) ≡ None
within_limits before [] e t = subst (λ C. limit_passed (changes C) ≡ None) (sym (append-nil before)) e
within_limits before (m ∷ rest) e t =
    let moved : IsPermutation (before ++ m ∷ []) (m ∷ before) = subst (λ l. IsPermutation (before ++ m ∷ []) (m ∷ l)) (append-nil before) (IsPermutation-middle before m []) in
    let here : limit_passed (changes (m ∷ before)) ≡ None = mapped_none Full _ (fits_by before m.change t.0.fits).limits in
    subst (λ C. limit_passed (changes C) ≡ None) (append_assoc before (m ∷ []) rest)
    (within_limits (before ++ m ∷ []) rest (sym (limit_same (before ++ m ∷ []) (m ∷ before) moved) ∙ here) t.1)

-- ---- members

may_come : (before rest : List Member) → JoinInTurn before rest → (m : Member) → Contains rest m → MayCome m
may_come before [] t m c = absurd (omega (arith, c.1))
may_come before (x ∷ rest) t m c =
    let again : Contains rest m → MayCome m = may_come (before ++ x ∷ []) rest t.1 m in
    elim (Contains-cons_cases x rest m c) [
      | inl e ↦ subst MayCome e (record { hash = t.0.hash; fine = t.0.fine })
      | inr d ↦ again d
    ]

pub distinct_hashes : (C : List Member) → Valid C → DistinctHashes C
distinct_hashes C v = distinct_from_once C (once_permutation v.listing C (IsPermutation-sym C v.listing v.same) (once_joined [] v.listing (λ h. omega arith) v.in_turn))

pub keeps_rules : (C : List Member) → Valid C → KeepsRules C
keeps_rules C v =
    let g = grounds_valid C v in
    record {
      closed = all_of (λ m. holds_deps C m.change ≡ true) C (λ m c. list_all-from_AllPass (holds C) m.change.deps (g.facts.closed m c));
      hashes = distinct_hashes C v;
      members = all_of MayCome C (λ m c. may_come [] v.listing v.in_turn m (Contains-permutation C v.listing m v.same c));
      limits = limit_same v.listing C (IsPermutation-sym C v.listing v.same) ∙ within_limits [] v.listing refl v.in_turn;
    }
