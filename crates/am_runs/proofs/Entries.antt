-- The next entries, one step after the other.
use Rattle.std.proofs.Common.{◌≡◌, ℕ, suc, zero, ◌-◌, ◌<◌, List, [], ◌∷◌, length, Option, Some, None, refl, sym, ap, ◌∙◌, subst, arith}
use Rattle.am_runs.specs.Walking.{Place, step, listed, entries, holds_behind, HasEntries}

length-listed : (n : ℕ) (behind : Place → List (Option (List ℕ))) (holds : Place → Type 0) → ((p : Place) → holds p → length (behind p) ≡ n) → (next : Option (Option (List ℕ) × Place)) → holds_behind holds next → length (listed behind next) ≡ suc n
length-listed n behind holds f None h = absurd h
length-listed n behind holds f (Some next) h = ap suc (f next.1 h)

pub length-entries : (end : List ℕ → Option ℕ) (n : ℕ) (place : Place) → HasEntries end n place → length (entries end n place) ≡ n
unfolding entries HasEntries
length-entries end zero place h = refl
length-entries end (suc n) place h = length-listed n (entries end n) (HasEntries end n) (length-entries end n) (step end place) h

-- one step
pub entries-step : (end : List ℕ → Option ℕ) (n : ℕ) (place : Place) (next : Option (List ℕ) × Place) → step end place ≡ Some next → entries end (suc n) place ≡ next.0 ∷ entries end n next.1
unfolding entries
entries-step end n place next e = ap (listed (entries end n)) e

pub HasEntries-step : (end : List ℕ → Option ℕ) (n : ℕ) (place : Place) (next : Option (List ℕ) × Place) → step end place ≡ Some next → HasEntries end (suc n) place → HasEntries end n next.1
unfolding HasEntries
HasEntries-step end n place next e h = subst (holds_behind (HasEntries end n)) e h

pub no_step : (end : List ℕ → Option ℕ) (n : ℕ) (place : Place) → step end place ≡ None → HasEntries end (suc n) place → ⊥
unfolding HasEntries
no_step end n place e h = subst (holds_behind (HasEntries end n)) e h

-- at a number that is not 0
pub entries-more : (end : List ℕ → Option ℕ) (n : ℕ) (place : Place) (next : Option (List ℕ) × Place) → 0 < n → Some next ≡ step end place → entries end n place ≡ next.0 ∷ entries end (n - 1) next.1
entries-more end zero place next h e = absurd (omega arith)
entries-more end (suc n) place next h e = entries-step end n place next (sym e) ∙ ap (λ k. next.0 ∷ entries end k next.1) (let q : n ≡ suc n - 1 = omega arith in q)

pub HasEntries-more : (end : List ℕ → Option ℕ) (n : ℕ) (place : Place) (next : Option (List ℕ) × Place) → 0 < n → Some next ≡ step end place → HasEntries end n place → HasEntries end (n - 1) next.1
HasEntries-more end zero place next h e w = absurd (omega arith)
HasEntries-more end (suc n) place next h e w = subst (λ k. HasEntries end k next.1) (let q : n ≡ suc n - 1 = omega arith in q) (HasEntries-step end n place next (sym e) w)

pub never_ends : (end : List ℕ → Option ℕ) (n : ℕ) (place : Place) → 0 < n → None ≡ step end place → HasEntries end n place → ⊥
never_ends end zero place h e w = omega arith
never_ends end (suc n) place h e w = no_step end n place (sym e) w

pub entries-none : (end : List ℕ → Option ℕ) (n : ℕ) (place : Place) → n ≡ 0 → entries end n place ≡ []
unfolding entries
entries-none end zero place e = refl
entries-none end (suc n) place e = absurd (omega arith)
