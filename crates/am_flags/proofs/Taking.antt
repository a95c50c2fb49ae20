-- Taking flags out of a cursor by blocks.
--     some_of        a block is some of its flags, and the others
--     behind_block   what is left behind one more block
--     taken_block    what was written with it
--     none_on        memory that was wanted is wanted from then on
--     enough_behind  enough is left
use Rattle.std.proofs.Common.{◌≡◌, ℕ, ◌+◌, ◌-◌, ◌^◌, ◌≤◌, List, ◌++◌, length, take, drop, Bool, Option, Some, None, sym, ap, ◌∙◌, subst, arith, append_assoc, length-append}
use Rattle.std.specs.Prelude.{replicate}
use Rattle.std.specs.Option.{IfSome, IfNone}
use Rattle.std.proofs.lemmas.List.{length-replicate, replicate-append-replicate, length-take-le, take-append-drop, take_at, drop_at}

parts : (whole from new part : List Bool) (a : ℕ) → from ≡ drop a whole → from ≡ part ++ new → whole ≡ (take a whole ++ part) ++ new
parts whole from new part a e f = sym (take-append-drop a whole) ∙ ap (λ l. take a whole ++ l) (sym e ∙ f) ∙ sym (append_assoc (take a whole) part new)

front_length : (whole part : List Bool) (n left k : ℕ) → length part ≡ k → k ≤ left → left ≤ n → n ≤ length whole → length (take (n - left) whole ++ part) ≡ n - (left - k)
front_length whole part n left k s kl l e = omega (arith, length-append (take (n - left) whole) part, length-take-le (n - left) whole (omega arith))

pub behind_block : (whole from new part : List Bool) (n left k : ℕ) → length part ≡ k → k ≤ left → left ≤ n → n ≤ length whole → from ≡ drop (n - left) whole → from ≡ part ++ new → new ≡ drop (n - (left - k)) whole
behind_block whole from new part n left k s kl l e b f =
    sym (ap (drop (n - (left - k))) (parts whole from new part (n - left) b f)
    ∙ drop_at (take (n - left) whole ++ part) new (n - (left - k)) (front_length whole part n left k s kl l e))

block_is : (whole from new part : List Bool) (n left k : ℕ) → length part ≡ k → k ≤ left → left ≤ n → n ≤ length whole → from ≡ drop (n - left) whole → from ≡ part ++ new → take (n - left) whole ++ part ≡ take (n - (left - k)) whole
block_is whole from new part n left k s kl l e b f =
    sym (ap (take (n - (left - k))) (parts whole from new part (n - left) b f)
    ∙ take_at (take (n - left) whole ++ part) new (n - (left - k)) (front_length whole part n left k s kl l e))

pub taken_block : (value self next : Option (List Bool)) (whole from new part : List Bool) (n left k : ℕ) → length part ≡ k → k ≤ left → left ≤ n → n ≤ length whole → from ≡ drop (n - left) whole → from ≡ part ++ new
    → IfSome value (λ list. self ≡ Some (list ++ take (n - left) whole)) → IfSome self (λ list. next ≡ Some (list ++ part)) → IfSome value (λ list. next ≡ Some (list ++ take (n - (left - k)) whole))
taken_block None self next whole from new part n left k s kl l e b f h m = tt
taken_block (Some list) self next whole from new part n left k s kl l e b f h m =
    subst (λ v. IfSome v (λ l. next ≡ Some (l ++ part))) h m
    ∙ ap Some (append_assoc list (take (n - left) whole) part ∙ ap (λ r. list ++ r) (block_is whole from new part n left k s kl l e b f))

pub none_on : (value self new : Option (List Bool)) → IfNone value (self ≡ None) → IfNone self (new ≡ None) → IfNone value (new ≡ None)
none_on None self new h m = subst (λ v. IfNone v (new ≡ None)) h m
none_on (Some list) self new h m = tt

pub enough_behind : (from new part : List Bool) (left k : ℕ) → length part ≡ k → left ≤ length from → from ≡ part ++ new → left - k ≤ length new
enough_behind from new part left k s l f = omega (arith, ap length f, length-append part new)

pub some_of : (k count : ℕ) (flag : Bool) (rest : List Bool) → k ≤ count → replicate count flag ++ rest ≡ replicate k flag ++ (replicate (count - k) flag ++ rest)
some_of k count flag rest h =
    let all : k + (count - k) ≡ count = omega (arith, h) in
    ap (λ n. replicate n flag ++ rest) (sym all) ∙ ap (λ l. l ++ rest) (sym (replicate-append-replicate k (count - k) flag)) ∙ append_assoc (replicate k flag) (replicate (count - k) flag) rest

pub left_behind : (left k : ℕ) (flag : Bool) (old new : List Bool) → left ≡ length old → old ≡ replicate k flag ++ new → left - k ≡ length new
left_behind left k flag old new l e = omega (arith, l, ap length e, length-append (replicate k flag) new, length-replicate k flag)

pub none_both : (self new : Option (List Bool)) (P : Type 0) → IfNone self ((new ≡ None) × P) → IfNone self (new ≡ None)
none_both None new P h = h.0
none_both (Some list) new P h = tt

pub room_within : (value self : Option (List Bool)) (whole : List Bool) (n left k : ℕ) → k ≤ left → left ≤ n → n ≤ length whole → IfSome value (λ list. length list + n ≤ 2 ^ 32) → IfNone value (self ≡ None) → IfSome value (λ list. self ≡ Some (list ++ take (n - left) whole)) → IfSome self (λ list. length list + k ≤ 2 ^ 32)
room_within None self whole n left k l le e r i w = subst (λ v. IfSome v (λ list. length list + k ≤ 2 ^ 32)) (sym i) tt
room_within (Some list) self whole n left k l le e r i w =
    subst (λ v. IfSome v (λ list. length list + k ≤ 2 ^ 32)) (sym w)
    (omega (arith, r, length-append list (take (n - left) whole), length-take-le (n - left) whole (omega arith)))
