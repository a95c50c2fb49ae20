-- Which texts are found after one use.
use Rattle.std.proofs.Common.{◌≡◌, ℕ, true, false, List, [], ◌∷◌, cond, Option, Some, None, refl, sym, ap, ◌∙◌}
use Rattle.std.specs.Map.{lookup}
use Rattle.am_cache.specs.declared.view.View.{View}
use Rattle.am_cache.specs.contracts.view.ViewPartialEq.TheImpl.{eq-value}
use Rattle.am_cache.specs.Views.{same_view}
use Rattle.am_cache.specs.Kept.{Kept, kept, others, text_of, looked_up}
use Rattle.am_cache.proofs.Same.{same_test, same_is}

-- a view that isn't taken out is found as before
pub lookup-others : (w v : View) (es : List (View × List ℕ)) → same_view w v ≡ false → lookup (same_view w) (others v es) ≡ lookup (same_view w) es
lookup-others w v [] ne = refl
lookup-others w v (e ∷ es) ne = (elim (same_view v e.0) as (λ y. same_view v e.0 ≡ y → lookup (same_view w) (others v (e ∷ es)) ≡ lookup (same_view w) (e ∷ es)) [
  | true ↦ λ t.
      let other : same_view w e.0 ≡ false = ap (same_view w) (sym (same_is v e.0 t)) ∙ ne in
      rw (t, other) refl
  | false ↦ λ t. rw t (elim (same_view w e.0) as (λ y. cond y (Some e.1) (lookup (same_view w) (others v es)) ≡ cond y (Some e.1) (lookup (same_view w) es)) [
    | true ↦ refl
    | false ↦ lookup-others w v es ne
  ])
]) refl

looked : (w v : View) (c : Kept) (o : Option (List ℕ)) → text_of v c ≡ o → text_of w (looked_up v c) ≡ text_of w c
looked w v c None h = rw h refl
looked w v c (Some text) h = rw h ((elim (same_view w v) as (λ y. same_view w v ≡ y → cond y (Some text) (lookup (same_view w) (others v c.views)) ≡ text_of w c) [
  | true ↦ λ t. sym h ∙ ap (λ x. text_of x c) (sym (same_is w v t))
  | false ↦ λ t. lookup-others w v c.views t
]) refl)

-- a look changes no text
pub text_of-looked_up : (w v : View) (c : Kept) → text_of w (looked_up v c) ≡ text_of w c
text_of-looked_up w v c = looked w v c (text_of v c) refl

-- what lru finds after a look
pub text_after_look : (v : View) (c : Kept) (es : List (View × List ℕ)) (n : ℕ) → kept es n ≡ looked_up v c → lookup (eq-value.it v) es ≡ text_of v c
text_after_look v c es n is = ap (λ test. lookup test es) (same_test v) ∙ ap (text_of v) is ∙ text_of-looked_up v v c
