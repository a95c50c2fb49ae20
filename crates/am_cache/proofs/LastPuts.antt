-- What is found is what was put last.
use Rattle.std.proofs.Common.{◌≡◌, ℕ, zero, suc, Bool, true, false, cond, List, [], ◌∷◌, take, Option, Some, None, refl, sym, ◌∙◌}
use Rattle.std.specs.Map.{lookup}
use Rattle.am_cache.specs.declared.view.View.{View}
use Rattle.am_cache.specs.Views.{same_view}
use Rattle.am_cache.specs.Kept.{Kept, kept, others, text_of, looked_up, with_text}
use Rattle.am_cache.specs.Uses.{Use, look, put, after, last_put, WasPutLast}
use Rattle.am_cache.proofs.Texts.{lookup-others, text_of-looked_up}

lookup-take : {K V : Type 0} (test : K → Bool) (n : ℕ) (es : List (K × V)) (x : V) → lookup test (take n es) ≡ Some x → lookup test es ≡ Some x
lookup-take test zero es x h = cc
lookup-take test (suc n) [] x h = h
lookup-take test (suc n) (e ∷ es) x h = (elim (test e.0) as (λ y. cond y (Some e.1) (lookup test (take n es)) ≡ Some x → cond y (Some e.1) (lookup test es) ≡ Some x) [
  | true ↦ λ h. h
  | false ↦ lookup-take test n es x
]) h

module _ (v w : View) (text x : List ℕ) (c : Kept) where
  -- what is found after a put was put, or was found before
  found_then : text_of v (with_text w text c) ≡ Some x → cond (same_view v w) (Some text) (text_of v c) ≡ Some x
  found_then h =
      let all : lookup (same_view v) ((w, text) ∷ others w c.views) ≡ Some x = lookup-take (same_view v) 16 ((w, text) ∷ others w c.views) x h in
      (elim (same_view v w) as (λ y. same_view v w ≡ y → cond y (Some text) (lookup (same_view v) (others w c.views)) ≡ Some x → cond y (Some text) (text_of v c) ≡ Some x) [
        | true ↦ λ t a. a
        | false ↦ λ t a. sym (lookup-others v w c.views t) ∙ a
      ]) refl all

abbrev IsBounded : View → Option (List ℕ) → Kept → Type 0
IsBounded v before c = (x : List ℕ) → text_of v c ≡ Some x → before ≡ Some x

bounded_then : (v w : View) (text : List ℕ) (before : Option (List ℕ)) (c : Kept) → IsBounded v before c
    → IsBounded v (cond (same_view v w) (Some text) before) (with_text w text c)
bounded_then v w text before c known x h =
    (elim (same_view v w) as (λ y. cond y (Some text) (text_of v c) ≡ Some x → cond y (Some text) before ≡ Some x) [
      | true ↦ λ a. a
      | false ↦ known x
    ]) (found_then v w text x c h)

last : (v : View) (uses : List Use) (before : Option (List ℕ)) (c : Kept) → IsBounded v before c → IsBounded v (last_put v before uses) (after uses c)
unfolding after last_put
last v [] before c known = known
last v (look w ∷ uses) before c known = last v uses before (looked_up w c) (λ x h. known x (sym (text_of-looked_up v w c) ∙ h))
last v (put w text ∷ uses) before c known = last v uses (cond (same_view v w) (Some text) before) (with_text w text c) (bounded_then v w text before c known)

pub was_put_last : WasPutLast
was_put_last uses v text h = last v uses None (kept [] 0) (λ x none. cc) text h
