-- A last counter is noted.
use Rattle.std.proofs.Common.{ℕ, ◌≡◌, List, Bool, true, false, cond, Option, Some, None, refl, sym, ap, ◌∙◌, inl, inr}
use Rattle.std.specs.Prelude.{unwrap_or, is_some, max as larger}
use Rattle.std.specs.BTreeMap.{insert_entry}
use Rattle.std.specs.Map.{lookup, set_value}
use Rattle.std.proofs.lemmas.Bool.{cases_Bool}
use Rattle.am_types.specs.Same.{same_bytes}
use Rattle.am_types.proofs.Orders.{same_bytes-true}
use Rattle.am_graph.proofs.TextMaps.{Text, text_cmp, is_text, inserted, written}
use Rattle.am_rebuild.specs.Gathered.{Lasts, last_in, has_last}

-- a name that was not there has 0 before and after
pub entered : (es : Lasts) (k : Text) (a : List ℕ) → has_last es k.items ≡ false → last_in (insert_entry text_cmp es k 0) a ≡ last_in es a
entered es k a new = ap (λ o. unwrap_or o 0) (inserted es k 0 a) ∙ elim (cases_Bool (same_bytes a k.items)) [
  | inl t ↦
      (let none : lookup (is_text a) es ≡ None = ap (λ b. lookup (is_text b) es) (same_bytes-true a k.items t) ∙ not_some (lookup (is_text k.items) es) new in
      ap (λ b. unwrap_or (cond b (Some 0) (lookup (is_text a) es)) 0) t ∙ sym (ap (λ o. unwrap_or o 0) none))
  | inr f ↦ ap (λ b. unwrap_or (cond b (Some 0) (lookup (is_text a) es)) 0) f
]
  where
    not_some : (o : Option ℕ) → is_some o ≡ false → o ≡ None
    not_some None e = refl
    not_some (Some n) e = absurd (no e)
      where
        no : true ≡ false → ⊥
        no e = cc

-- the name is raised, and others stay
pub raised : (es more : Lasts) (k : List ℕ) (last n old : ℕ) → more ≡ set_value (is_text k) es n → lookup (is_text k) es ≡ Some old → n ≡ larger old last
    → (a : List ℕ) → last_in more a ≡ cond (same_bytes k a) (larger (last_in es a) last) (last_in es a)
raised es more k last n old e was is a =
    ap (λ l. last_in l a) e ∙ ap (λ o. unwrap_or o 0) (written es k n old a was) ∙ elim (cases_Bool (same_bytes k a)) [
      | inl t ↦
          (let low : last_in es a ≡ old = ap (last_in es) (sym (same_bytes-true k a t)) ∙ ap (λ o. unwrap_or o 0) was in
          ap (λ b. unwrap_or (cond b (Some n) (lookup (is_text a) es)) 0) t ∙ is ∙ ap (λ m. larger m last) (sym low) ∙ sym (ap (λ b. cond b (larger (last_in es a) last) (last_in es a)) t))
      | inr f ↦ ap (λ b. unwrap_or (cond b (Some n) (lookup (is_text a) es)) 0) f ∙ sym (ap (λ b. cond b (larger (last_in es a) last) (last_in es a)) f)
    ]
