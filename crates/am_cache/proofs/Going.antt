-- A view that isn't used goes when sixteen others are put.
use Rattle.std.proofs.Common.{◌≡◌, ℕ, zero, suc, ◌+◌, ◌≤◌, true, false, List, [], ◌∷◌, ◌++◌, length, map, take, All, None, refl, sym, ap, ◌∙◌, subst, true≢false, arith, length-append}
use Rattle.std.specs.Bool.{⊤}
use Rattle.std.specs.Map.{lookup}
use Rattle.std.specs.List.{AllByRecursion, IsDistinct}
use Rattle.std.proofs.lemmas.List.Elements.{All-head, All-tail}
use Rattle.am_cache.specs.declared.view.View.{View}
use Rattle.am_cache.specs.Views.{same_view}
use Rattle.am_cache.specs.Kept.{Kept, others, text_of, with_text}
use Rattle.am_cache.specs.Uses.{after, put_pair, GoesAfterSixteen}
use Rattle.am_cache.proofs.Same.{same_is, same_itself}
use Rattle.am_cache.proofs.Staying.{Pairs, IsNew}

other_way : (v w : View) → same_view v w ≡ false → same_view w v ≡ false
other_way v w ne = (elim (same_view w v) as (λ y. same_view w v ≡ y → same_view w v ≡ false) [
  | true ↦ λ t. absurd (true≢false (sym (same_itself v) ∙ ap (same_view v) (sym (same_is w v t)) ∙ ne))
  | false ↦ λ t. t
]) refl

none_found : (v : View) (pre rest : Pairs) → IsNew v pre → rest ≡ [] → lookup (same_view v) (pre ++ rest) ≡ None
none_found v [] rest n e = ap (lookup (same_view v)) e
none_found v (p ∷ pre) rest n e = rw n.0 (none_found v pre rest n.1 e)

others_behind : (w : View) (pre rest : Pairs) → IsNew w pre → others w (pre ++ rest) ≡ pre ++ others w rest
others_behind w [] rest n = refl
others_behind w (p ∷ pre) rest n = rw n.0 (ap (λ l. p ∷ l) (others_behind w pre rest n.1))

first_stay : (n : ℕ) (qs rest : Pairs) → length qs ≤ n → (rs : Pairs) × (take n (qs ++ rest) ≡ qs ++ rs)
first_stay n [] rest h = (take n rest, refl)
first_stay zero (q ∷ qs) rest h = absurd (omega (arith, h))
first_stay (suc n) (q ∷ qs) rest h = let on = first_stay n qs rest (omega (arith, h)) in (on.0, ap (λ l. q ∷ l) on.1)

at_most : (n : ℕ) (es : Pairs) → length (take n es) ≤ n
at_most zero es = omega arith
at_most (suc n) [] = omega arith
at_most (suc n) (e ∷ es) = let on = at_most n es in omega (arith, on)

-- none of these views stands in the pairs
abbrev AreNew : Pairs → Pairs → Type 0
AreNew [] pre = ⊤
AreNew (p ∷ ps) pre = IsNew p.0 pre × AreNew ps pre

all_new : (ps : Pairs) → AreNew ps []
all_new [] = tt
all_new (p ∷ ps) = (tt, all_new ps)

abbrev keys : Pairs → List View
keys = map (λ p. p.0)

new_then : (q : View × List ℕ) (ps pre : Pairs) → AllByRecursion (λ y. same_view q.0 y ≡ false) (keys ps) → AreNew ps pre → AreNew ps (q ∷ pre)
new_then q [] pre d a = tt
new_then q (p ∷ ps) pre d a = ((other_way q.0 p.0 d.0, a.0), new_then q ps pre d.1 a.1)

no_more : (rest : Pairs) → length rest ≡ 0 → rest ≡ []
no_more [] h = refl
no_more (p ∷ rest) h = absurd (omega (arith, h))

gone : (v : View) (ps pre rest : Pairs) (c : Kept) → c.views ≡ pre ++ rest → length pre + length ps ≡ 16 → (ps ≡ [] → length c.views ≤ 16)
    → AreNew ps pre → IsDistinct same_view (keys ps) → IsNew v pre → All (λ p. same_view v p.0 ≡ false) ps → text_of v (after (map put_pair ps) c) ≡ None
unfolding after IsDistinct
gone v [] pre rest c is many fits new apart n all =
    let whole : length pre + length rest ≤ 16 = subst (λ k. k ≤ 16) (ap length is ∙ length-append pre rest) (fits refl) in
    ap (lookup (same_view v)) is ∙ none_found v pre rest n (no_more rest (omega (arith, many, whole)))
gone v (p ∷ ps) pre rest c is many fits new apart n all =
    let past = first_stay 16 (p ∷ pre) (others p.0 rest) (omega (arith, many)) in
    let next : (with_text p.0 p.1 c).views ≡ (p ∷ pre) ++ past.0 = ap (λ es. take 16 (p ∷ others p.0 es)) is ∙ ap (λ es. take 16 (p ∷ es)) (others_behind p.0 pre rest new.0) ∙ past.1 in
    let P = λ (q : View × List ℕ). same_view v q.0 ≡ false in
    gone v ps (p ∷ pre) past.0 (with_text p.0 p.1 c) next (omega (arith, many)) (λ _. at_most 16 (p ∷ others p.0 c.views))
    (new_then p ps pre apart.0 new.1) apart.1 (All-head P p ps all, n) (All-tail P p ps all)

pub goes_after_sixteen : GoesAfterSixteen
goes_after_sixteen v c puts many apart all =
    gone v puts [] c.views c refl (omega (arith, many)) (λ none. let short : length puts ≡ 0 = ap length none in absurd (omega (arith, many, short))) (all_new puts) apart tt all
