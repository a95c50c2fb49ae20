-- One step of a tally.
use Rattle.std.proofs.Common.{◌≡◌, List, ◌∷◌, Bool, true, false, ℤ, ◌+ℤ◌, Some, refl, sym, ap, ◌∙◌}
use Rattle.std.specs.Prelude.{option_and_then}
use Rattle.am_types.specs.declared.OpId.{OpId}
use Rattle.am_view.specs.Steps.{Later, not_below, addend, tally}

pub tally_step : (covers : OpId → Bool) (t a : ℤ) (s : OpId) (ss : List OpId) (is js : List Later) → covers s ≡ true → js ≡ not_below s is → addend s js ≡ Some a → tally covers t (s ∷ ss) is ≡ tally covers (t +ℤ a) ss js
tally_step covers t a s ss is js cs passed e =
    let step : tally covers t (s ∷ ss) is ≡ option_and_then (λ a. tally covers (t +ℤ a) ss (not_below s is)) (addend s (not_below s is)) = simp cs refl in
    step
    ∙ ap (λ ks. option_and_then (λ a. tally covers (t +ℤ a) ss ks) (addend s ks)) (sym passed)
    ∙ ap (option_and_then (λ a. tally covers (t +ℤ a) ss js)) e

pub tally_skip : (covers : OpId → Bool) (t : ℤ) (s : OpId) (ss : List OpId) (is : List Later) → covers s ≡ false → tally covers t (s ∷ ss) is ≡ tally covers t ss is
tally_skip covers t s ss is un = simp un refl
