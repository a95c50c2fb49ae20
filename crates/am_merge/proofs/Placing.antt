-- The places of hashes in a list, gathered from its end.
use Rattle.std.proofs.Common.{ℕ, suc, ◌≡◌, ◌<◌, ◌+◌, List, [], ◌∷◌, length, get_or, drop, cond, Some, None, refl, sym, ap, ◌∙◌, inl, inr, arith}
use Rattle.std.specs.HashMap.{HashMap, get, Updates}
use Rattle.std.proofs.Math.Seq.{drop-cons}
use Rattle.std.proofs.lemmas.Bool.{cases_Bool}
use Rattle.std.proofs.lemmas.Cmp.{eq_by_cmp_equiv}
use Rattle.std.proofs.lemmas.Map.Text.{is_eq-slice_cmp}
use Rattle.am_types.specs.declared.Hash.{Hash}
use Rattle.am_types.specs.Same.{same_hash}
use Rattle.am_types.proofs.Orders.{hash_total}
use Rattle.am_merge.specs.Places.{place_in, first_place, is_equal}

-- the hash before those that are placed
pub one_before : {S : Type 0} (old new : HashMap Hash ℕ S) (hs : List Hash) (i j : ℕ) (d : Hash) → j ≡ i + 1 → i < length hs → Updates is_equal old new (get_or hs i d) (Some i)
    → ((h : Hash) → get is_equal old h ≡ first_place j (drop j hs) h) → (h : Hash) → get is_equal new h ≡ first_place i (drop i hs) h
one_before old new hs i j d e l u had h =
    let x = get_or hs i d in
    let one : suc i ≡ i + 1 = omega arith in
    let split : drop i hs ≡ x ∷ drop (i + 1) hs = drop-cons hs i d l ∙ ap (λ n. x ∷ drop n hs) one in
    let later : get is_equal old h ≡ first_place (i + 1) (drop (i + 1) hs) h = had h ∙ ap (λ n. first_place n (drop n hs) h) e in
    u.0 h
    ∙ (λ t. cond ((sym (is_eq-slice_cmp x.0 h.0) ∙ (eq_by_cmp_equiv hash_total).symm x h) t) (Some i) (later t))
    ∙ sym (ap (λ l. first_place i l h) split)

pub place_found : (hs : List Hash) (h : Hash) (i p : ℕ) → first_place i hs h ≡ Some p → p ≡ place_in hs h + i
place_found [] h i p e = cc
place_found (x ∷ hs) h i p e =
    let again : first_place (i + 1) hs h ≡ Some p → p ≡ place_in hs h + (i + 1) = place_found hs h (i + 1) p in
    elim (cases_Bool (same_hash h x)) [
      | inl t ↦
          let is : Some i ≡ Some p = simp t at e in
          let same : i ≡ p = cc in
          simp t (omega arith)
      | inr f ↦
          let is : first_place (i + 1) hs h ≡ Some p = simp f at e in
          let later = again is in
          simp f (omega arith)
    ]

pub place_missing : (hs : List Hash) (h : Hash) (i : ℕ) → first_place i hs h ≡ None → length hs ≡ place_in hs h
place_missing [] h i e = refl
place_missing (x ∷ hs) h i e =
    let again : first_place (i + 1) hs h ≡ None → length hs ≡ place_in hs h = place_missing hs h (i + 1) in
    elim (cases_Bool (same_hash h x)) [
      | inl t ↦ let is : Some i ≡ None = simp t at e in absurd (cc)
      | inr f ↦
          let is : first_place (i + 1) hs h ≡ None = simp f at e in
          let later = again is in
          simp f (omega arith)
    ]
