-- Parts that are appended one after another.
use Rattle.std.proofs.Common.{◌≡◌, ℕ, List, [], ◌++◌, append_assoc, refl, ap, ◌∙◌}
use Rattle.std.specs.Prelude.{Result, Ok, Err, OnOk}

right6 : (o a b c d e f : List ℕ) → (((((o ++ a) ++ b) ++ c) ++ d) ++ e) ++ f ≡ o ++ (a ++ (b ++ (c ++ (d ++ (e ++ f)))))
right6 o a b c d e f = simp append_assoc

right5 : (a b c d e : List ℕ) → (((a ++ b) ++ c) ++ d) ++ e ≡ a ++ (b ++ (c ++ (d ++ e)))
right5 a b c d e = simp append_assoc

step : (old new part part' so_far : List ℕ) → new ≡ old ++ part → part ≡ part' → old ≡ so_far → new ≡ so_far ++ part'
step old new part part' so_far e p s = e ∙ ap (λ z. z ++ part) s ∙ ap (λ z. so_far ++ z) p

pub six : (o o1 o2 o3 o4 o5 o6 a b c d e f a' b' c' d' e' f' : List ℕ) → o1 ≡ o ++ a → o2 ≡ o1 ++ b → o3 ≡ o2 ++ c → o4 ≡ o3 ++ d → o5 ≡ o4 ++ e → o6 ≡ o5 ++ f → a ≡ a' → b ≡ b' → c ≡ c' → d ≡ d' → e ≡ e' → f ≡ f'
    → o6 ≡ o ++ (a' ++ (b' ++ (c' ++ (d' ++ (e' ++ f')))))
six o o1 o2 o3 o4 o5 o6 a b c d e f a' b' c' d' e' f' e1 e2 e3 e4 e5 e6 pa pb pc pd pe pf =
    let s1 = step o o1 a a' o e1 pa refl in
    let s2 = step o1 o2 b b' (o ++ a') e2 pb s1 in
    let s3 = step o2 o3 c c' ((o ++ a') ++ b') e3 pc s2 in
    let s4 = step o3 o4 d d' (((o ++ a') ++ b') ++ c') e4 pd s3 in
    let s5 = step o4 o5 e e' ((((o ++ a') ++ b') ++ c') ++ d') e5 pe s4 in
    step o5 o6 f f' (((((o ++ a') ++ b') ++ c') ++ d') ++ e') e6 pf s5 ∙ right6 o a' b' c' d' e' f'

pub five : (o o1 o2 o3 o4 o5 a b c d e b' c' d' e' : List ℕ) → o ≡ [] → o1 ≡ o ++ a → o2 ≡ o1 ++ b → o3 ≡ o2 ++ c → o4 ≡ o3 ++ d → o5 ≡ o4 ++ e → b ≡ b' → c ≡ c' → d ≡ d' → e ≡ e'
    → o5 ≡ a ++ (b' ++ (c' ++ (d' ++ e')))
five o o1 o2 o3 o4 o5 a b c d e b' c' d' e' none e1 e2 e3 e4 e5 pb pc pd pe =
    let s1 : o1 ≡ a = e1 ∙ ap (λ z. z ++ a) none in
    let s2 = step o1 o2 b b' a e2 pb s1 in
    let s3 = step o2 o3 c c' (a ++ b') e3 pc s2 in
    let s4 = step o3 o4 d d' ((a ++ b') ++ c') e4 pd s3 in
    step o4 o5 e e' (((a ++ b') ++ c') ++ d') e5 pe s4 ∙ right5 a b' c' d' e'

pub OnOk-then : {A E : Type 0} (r : Result A E) (P Q : Type 0) → (P → Q) → OnOk r P → OnOk r Q
OnOk-then (Ok x) P Q f p = f p
OnOk-then (Err e) P Q f p = tt
