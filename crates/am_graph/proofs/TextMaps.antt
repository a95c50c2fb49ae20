-- Ordered maps whose keys are texts, looked up by the bytes of a text.
use Rattle.std.proofs.Common.{ℕ, ◌≡◌, List, [], ◌∷◌, Bool, true, false, cond, Vec, Some, None, Option, refl, sym, ap, ◌∙◌, inl, inr}
use Rattle.std.specs.BTreeMap.{insert_entry, is_at}
use Rattle.std.specs.Global.{Global}
use Rattle.std.specs.List.{AllZip}
use Rattle.std.specs.Map.{lookup, set_value}
use Rattle.std.specs.Ordering.{is_eq, nat_cmp, match_ordering}
use Rattle.std.specs.Cmp.Lexicographic.{slice_cmp}
use Rattle.std.specs.declared.cmp.Ordering.{Ordering}
use Rattle.std.specs.declared.cmp.Ordering.TheVariants.{Less, Equal, Greater}
use Rattle.std.proofs.lemmas.Bool.{cases_Bool, both_ways}
use Rattle.std.proofs.lemmas.Cmp.{nat_list_eq_equiv}
use Rattle.std.proofs.lemmas.Map.Text.{is_eq-slice_cmp}
use Rattle.am_types.specs.Same.{same_bytes}
use Rattle.am_types.proofs.Orders.{same_bytes-true}

abbrev pub Text : Type 0
Text = Vec ℕ Global

abbrev pub text_cmp : Text → Text → Ordering
text_cmp v w = slice_cmp nat_cmp v.items w.items

abbrev pub is_text : List ℕ → Text → Bool
is_text t v = same_bytes t v.items

-- what a call looks up is what stands at the bytes
pub looked_up : {X : Type 0} (t : List ℕ) (es : List (Text × X)) → lookup (is_at (λ (v : Text). slice_cmp nat_cmp t v.items)) es ≡ lookup (is_text t) es
looked_up t es i = lookup (λ (v : Text). is_eq-slice_cmp t v.items i) es

-- what was put in at the key is found there, and other texts have what they had
pub inserted : {X : Type 0} (es : List (Text × X)) (k : Text) (x : X) (t : List ℕ) → lookup (is_text t) (insert_entry text_cmp es k x) ≡ cond (same_bytes t k.items) (Some x) (lookup (is_text t) es)
inserted [] k x t = refl
inserted (e ∷ es) k x t = go (inserted es k x t) (text_cmp k e.0) refl
  where
    same : text_cmp k e.0 ≡ Equal → k.items ≡ e.0.items
    same o = same_bytes-true k.items e.0.items (sym (is_eq-slice_cmp k.items e.0.items) ∙ ap is_eq o)

    apart : text_cmp k e.0 ≡ Greater → same_bytes k.items e.0.items ≡ false
    apart o = sym (is_eq-slice_cmp k.items e.0.items) ∙ ap is_eq o

    go : lookup (is_text t) (insert_entry text_cmp es k x) ≡ cond (same_bytes t k.items) (Some x) (lookup (is_text t) es) → (o : Ordering) → text_cmp k e.0 ≡ o → lookup (is_text t) (match_ordering o ((k, x) ∷ e ∷ es) ((e.0, x) ∷ es) (e ∷ insert_entry text_cmp es k x)) ≡ cond (same_bytes t k.items) (Some x) (cond (same_bytes t e.0.items) (Some e.1) (lookup (is_text t) es))
    go again Less o = refl
    go again Equal o = elim (cases_Bool (same_bytes t k.items)) [
      | inl y ↦ let z : same_bytes t e.0.items ≡ true = sym (ap (same_bytes t) (same o)) ∙ y in simp (y, z) refl
      | inr y ↦ let z : same_bytes t e.0.items ≡ false = sym (ap (same_bytes t) (same o)) ∙ y in simp (y, z) refl
    ]
    go again Greater o = elim (cases_Bool (same_bytes t e.0.items)) [
      | inl z ↦ elim (cases_Bool (same_bytes t k.items)) [
        | inl y ↦ absurd (both_ways (same_bytes k.items e.0.items) (apart o) (ap (λ u. same_bytes u e.0.items) (sym (same_bytes-true t k.items y)) ∙ z))
        | inr y ↦ simp (y, z) refl
      ]
      | inr z ↦ simp z again
    ]

-- what was written at the text is found there, if it was there before, and other texts have what they had
pub written : {X : Type 0} (es : List (Text × X)) (a : List ℕ) (x o : X) (t : List ℕ) → lookup (is_text a) es ≡ Some o → lookup (is_text t) (set_value (is_text a) es x) ≡ cond (same_bytes a t) (Some x) (lookup (is_text t) es)
written [] a x o t e = absurd (none e)
  where
    none : ◌≡◌ {A = Option _} None (Some o) → ⊥
    none e = cc
written (e ∷ es) a x o t f =
    let again : lookup (is_text a) es ≡ Some o → lookup (is_text t) (set_value (is_text a) es x) ≡ cond (same_bytes a t) (Some x) (lookup (is_text t) es) = written es a x o t in
    elim (cases_Bool (same_bytes a e.0.items)) [
      | inl y ↦
          (let z : same_bytes t e.0.items ≡ same_bytes a t = ap (same_bytes t) (sym (same_bytes-true a e.0.items y)) ∙ nat_list_eq_equiv.symm t a in
          elim (cases_Bool (same_bytes a t)) [ inl w ↦ (let v = z ∙ w in simp (y, v, w) refl) | inr w ↦ (let v = z ∙ w in simp (y, v, w) refl) ])
      | inr y ↦ elim (cases_Bool (same_bytes t e.0.items)) [
        | inl z ↦
            (let w : same_bytes a t ≡ false = ap (same_bytes a) (same_bytes-true t e.0.items z) ∙ y in simp (y, z, w) refl)
        | inr z ↦ (let g : lookup (is_text a) es ≡ Some o = simp y at f in simp (y, z) (again g))
      ]
    ]

-- entries with the same texts and the same values say the same
pub alike : {X : Type 0} (R : Text × X → Text × X → Type 0) → ((p q : Text × X) → R p q → (q.0.items ≡ p.0.items) × (q.1 ≡ p.1)) → (es fs : List (Text × X)) → AllZip R es fs → (t : List ℕ) → lookup (is_text t) fs ≡ lookup (is_text t) es
alike R same [] [] all t = refl
alike R same [] (f ∷ fs) all t = absurd all
alike R same (e ∷ es) [] all t = absurd all
alike R same (e ∷ es) (f ∷ fs) all t = λ i. cond (same_bytes t ((same e f all.0).0 i)) (Some ((same e f all.0).1 i)) (alike R same es fs all.1 t i)
