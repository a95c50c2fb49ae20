-- A cache after many uses.
--     Use                           a look for a view, or the putting of a text for one
--     after uses c                  what is kept after these uses, one by one
--     last_put v before uses        the text that was put last for v by these uses, or else before them
--     WasPutLast                    what is found is what was put last for the view
--     StaysAmongFifteen             a view stays while at most 15 others are used
--     GoesAfterSixteen              a view that isn't used goes when 16 others are put
use Rattle.std.specs.Prelude.{ℕ, ◌≡◌, ◌≤◌, false, cond, List, [], ◌∷◌, length, map, All, Contains, Option, None, Some}
use Rattle.std.specs.List.{IsDistinct}
use Rattle.am_cache.specs.declared.view.View.{View}
use Rattle.am_cache.specs.Views.{same_view}
use Rattle.am_cache.specs.Kept.{Kept, kept, text_of, looked_up, with_text}

pub data Use : Type 0 where
  look : View → Use
  put : View → List ℕ → Use

unfoldable pub after : List Use → Kept → Kept
after [] c = c
after (look v ∷ uses) c = after uses (looked_up v c)
after (put v text ∷ uses) c = after uses (with_text v text c)

unfoldable pub last_put : View → Option (List ℕ) → List Use → Option (List ℕ)
last_put v before [] = before
last_put v before (look w ∷ uses) = last_put v before uses
last_put v before (put w text ∷ uses) = last_put v (cond (same_view v w) (Some text) before) uses

-- from an empty cache on
abbrev pub WasPutLast : Type 0
WasPutLast = (uses : List Use) (v : View) (text : List ℕ) → text_of v (after uses (kept [] 0)) ≡ Some text → last_put v None uses ≡ Some text

-- it is a look for v, or a use of one of the others
abbrev pub IsAmong : View → List View → Use → Type 0
IsAmong v vs (look w) = Contains (v ∷ vs) w
IsAmong v vs (put w text) = Contains vs w

-- v was used last, and since then at most 15 others were, however often
abbrev pub StaysAmongFifteen : Type 0
StaysAmongFifteen =
    (v : View) (text : List ℕ) (rest : List (View × List ℕ)) (hits : ℕ) (vs : List View) (uses : List Use) → length vs ≤ 15 → (Contains vs v → ⊥)
    → All (IsAmong v vs) uses → text_of v (after uses (kept ((v, text) ∷ rest) hits)) ≡ Some text

abbrev pub put_pair : View × List ℕ → Use
put_pair p = put p.0 p.1

-- whatever was kept
abbrev pub GoesAfterSixteen : Type 0
GoesAfterSixteen =
    (v : View) (c : Kept) (puts : List (View × List ℕ)) → length puts ≡ 16 → IsDistinct same_view (map (λ p. p.0) puts)
    → All (λ p. same_view v p.0 ≡ false) puts → text_of v (after (map put_pair puts) c) ≡ None
