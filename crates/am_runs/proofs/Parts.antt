-- Taking a list out of another by parts, from its front on.
--     behind_part    what is left behind one more part
--     taken_part     what was written with it
--     none_on        memory that was wanted is wanted from then on
--     enough_behind  enough is left
--     room_part      there is room for one more part
--     all_behind     what holds of each item holds of those behind
use Rattle.std.proofs.Common.{◌≡◌, ℕ, ◌+◌, ◌-◌, ◌^◌, ◌≤◌, List, [], ◌∷◌, ◌++◌, length, take, drop, Option, Some, None, sym, ap, ◌∙◌, subst, arith, append_assoc, length-append}
use Rattle.std.specs.Option.{IfSome, IfNone}
use Rattle.std.specs.List.{AllByRecursion}
use Rattle.std.proofs.lemmas.List.{length-take-le, take-append-drop, take_at, drop_at}

parts : {A : Type 0} (whole from new part : List A) (a : ℕ) → from ≡ drop a whole → from ≡ part ++ new → whole ≡ (take a whole ++ part) ++ new
parts whole from new part a e f = sym (take-append-drop a whole) ∙ ap (λ l. take a whole ++ l) (sym e ∙ f) ∙ sym (append_assoc (take a whole) part new)

front_length : {A : Type 0} (whole part : List A) (n left k : ℕ) → length part ≡ k → k ≤ left → left ≤ n → n ≤ length whole → length (take (n - left) whole ++ part) ≡ n - (left - k)
front_length whole part n left k s kl l e = omega (arith, length-append (take (n - left) whole) part, length-take-le (n - left) whole (omega arith))

pub behind_part : {A : Type 0} (whole from new part : List A) (n left k : ℕ) → length part ≡ k → k ≤ left → left ≤ n → n ≤ length whole → from ≡ drop (n - left) whole → from ≡ part ++ new → new ≡ drop (n - (left - k)) whole
behind_part whole from new part n left k s kl l e b f =
    sym (ap (drop (n - (left - k))) (parts whole from new part (n - left) b f)
    ∙ drop_at (take (n - left) whole ++ part) new (n - (left - k)) (front_length whole part n left k s kl l e))

pub part_is : {A : Type 0} (whole from new part : List A) (n left k : ℕ) → length part ≡ k → k ≤ left → left ≤ n → n ≤ length whole → from ≡ drop (n - left) whole → from ≡ part ++ new → take (n - left) whole ++ part ≡ take (n - (left - k)) whole
part_is whole from new part n left k s kl l e b f =
    sym (ap (take (n - (left - k))) (parts whole from new part (n - left) b f)
    ∙ take_at (take (n - left) whole ++ part) new (n - (left - k)) (front_length whole part n left k s kl l e))

pub taken_part : {A : Type 0} (value self next : Option (List A)) (whole from new part : List A) (n left k : ℕ) → length part ≡ k → k ≤ left → left ≤ n → n ≤ length whole → from ≡ drop (n - left) whole → from ≡ part ++ new
    → IfSome value (λ list. self ≡ Some (list ++ take (n - left) whole)) → IfSome self (λ list. next ≡ Some (list ++ part)) → IfSome value (λ list. next ≡ Some (list ++ take (n - (left - k)) whole))
taken_part None self next whole from new part n left k s kl l e b f h m = tt
taken_part (Some list) self next whole from new part n left k s kl l e b f h m =
    subst (λ v. IfSome v (λ l. next ≡ Some (l ++ part))) h m
    ∙ ap Some (append_assoc list (take (n - left) whole) part ∙ ap (λ r. list ++ r) (part_is whole from new part n left k s kl l e b f))

pub none_on : {A : Type 0} (value self new : Option (List A)) → IfNone value (self ≡ None) → IfNone self (new ≡ None) → IfNone value (new ≡ None)
none_on None self new h m = subst (λ v. IfNone v (new ≡ None)) h m
none_on (Some list) self new h m = tt

pub enough_behind : {A : Type 0} (from new part : List A) (left k : ℕ) → length part ≡ k → left ≤ length from → from ≡ part ++ new → left - k ≤ length new
enough_behind from new part left k s l f = omega (arith, ap length f, length-append part new)

pub all_behind : {A : Type 0} (P : A → Type 0) (part new : List A) → AllByRecursion P (part ++ new) → AllByRecursion P part × AllByRecursion P new
all_behind P [] new h = (tt, h)
all_behind P (x ∷ part) new h = let w = all_behind P part new h.1 in ((h.0, w.0), w.1)

-- there is room for one more part
pub room_part : {A : Type 0} (value self : Option (List A)) (whole : List A) (n left k : ℕ) → k ≤ left → left ≤ n → n ≤ length whole → IfSome value (λ list. length list + n ≤ 2 ^ 32) → IfNone value (self ≡ None) → IfSome value (λ list. self ≡ Some (list ++ take (n - left) whole)) → IfSome self (λ list. length list + k ≤ 2 ^ 32)
room_part None self whole n left k kl l e r i w = subst (λ v. IfSome v (λ list. length list + k ≤ 2 ^ 32)) (sym i) tt
room_part (Some list) self whole n left k kl l e r i w =
    subst (λ v. IfSome v (λ list. length list + k ≤ 2 ^ 32)) (sym w) (omega (arith, r, length-append list (take (n - left) whole), length-take-le (n - left) whole (omega arith)))

pub none_both : {A : Type 0} (self new : Option (List A)) (P : Type 0) → IfNone self ((new ≡ None) × P) → IfNone self (new ≡ None)
none_both None new P h = h.0
none_both (Some list) new P h = tt
