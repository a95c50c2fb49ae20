-- Calls of an object, of which none fails but the last.
use Rattle.std.proofs.Common.{◌≡◌, ℕ, zero, suc, ◌≤◌, ◌<◌, ◌↔◌, ◌⊎◌, Bool, true, false, Option, None, Some, IfSome, IsTrue, Result, Ok, inl, inr, refl, sym, ap, subst, ◌∙◌, arith, option_map}
use Rattle.std.specs.List.{list_any}
use Rattle.std.specs.Prelude.{eqb}
use Rattle.am_outside.specs.Calls.{Calls, fails_next, one_more}
use Rattle.am_session.specs.FirstFault.{fails, NoneFails, Ended, is_err_at}

none_yet : (c : Calls) → NoneFails c c
none_yet c = record { failing = refl; none = λ number low high. absurd (omega arith) }

-- no call was made
pub no_call : (calls : Option Calls) → Ended false calls calls
no_call None = tt
no_call (Some c) = none_yet c

is_false : (b : Bool) → (IsTrue b → ⊥) → b ≡ false
is_false true never = absurd (never refl)
is_false false never = refl

one_went : (c : Calls) → (IsTrue (fails_next c) → ⊥) → NoneFails c (one_more c)
one_went c went = record {
  failing = refl;
  none = λ number low high.
      let same : number ≡ c.made = omega arith in
      ap (fails c) same ∙ is_false (fails_next c) went;
}

-- one call was made, and didn't fail
pub call_went : (P : Type 0) (before after : Option Calls) → after ≡ option_map one_more before → IfSome before (λ c. P ↔ IsTrue (fails_next c)) → (P → ⊥) → Ended false before after
call_went P None after call exact went = tt
call_went P (Some c) after call exact went = subst (Ended false (Some c)) (sym call) (one_went c (λ f. went (exact.1 f)))

-- one call was made, and failed
pub call_failed : (P : Type 0) (before after : Option Calls) → after ≡ option_map one_more before → IfSome before (λ c. P ↔ IsTrue (fails_next c)) → P → Ended true before after
call_failed P None after call exact failed = tt
call_failed P (Some c) after call exact failed = subst (Ended true (Some c)) (sym call) (record { last = c; until = none_yet c; failed = exact.0 failed; after_it = refl })

either : (m n : ℕ) → (m < n) ⊎ (n ≤ m)
either zero zero = inr (omega arith)
either zero (suc n) = inl (omega arith)
either (suc m) zero = inr (omega arith)
either (suc m) (suc n) = next (either m n)
  where
    next : ((m < n) ⊎ (n ≤ m)) → (suc m < suc n) ⊎ (suc n ≤ suc m)
    next (inl less) = inl (omega arith)
    next (inr more) = inr (omega arith)

none_more : (a b c : Calls) → NoneFails a b → NoneFails b c → NoneFails a c
none_more a b c p q = record {
  failing = q.failing ∙ p.failing;
  none = λ number low high. by number low high (either number b.made);
}
  where
    by : (number : ℕ) → a.made ≤ number → number < c.made → (number < b.made) ⊎ (b.made ≤ number) → fails a number ≡ false
    by number low high (inl less) = p.none number low less
    by number low high (inr more) = ap (list_any (λ failing. eqb failing number)) (sym p.failing) ∙ q.none number more high

-- calls of which none fails, and then others
pub ended_more : (failed : Bool) (a b c : Option Calls) → Ended false a b → Ended failed b c → Ended failed a c
ended_more failed None b c p q = tt
ended_more failed (Some a) None c p q = absurd p
ended_more failed (Some a) (Some b) None p q = absurd q
ended_more false (Some a) (Some b) (Some c) p q = none_more a b c p q
ended_more true (Some a) (Some b) (Some c) p q = record { last = q.last; until = none_more a b q.last p q.until; failed = q.failed; after_it = q.after_it }

-- the same where what follows is one call
pub went_on : (P : Type 0) (a b c : Option Calls) → Ended false a b → c ≡ option_map one_more b → IfSome b (λ d. P ↔ IsTrue (fails_next d)) → (P → ⊥) → Ended false a c
went_on P a b c p call exact went = ended_more false a b c p (call_went P b c call exact went)

pub failed_then : (P : Type 0) (a b c : Option Calls) → Ended false a b → c ≡ option_map one_more b → IfSome b (λ d. P ↔ IsTrue (fails_next d)) → P → Ended true a c
failed_then P a b c p call exact failed = ended_more true a b c p (call_failed P b c call exact failed)

-- ---- calls through results

pub ended_ok : {A E : Type 0} (p : E → Bool) (r : Result A E) (x : A) (a b : Option Calls) → r ≡ Ok x → Ended (is_err_at p r) a b → Ended false a b
ended_ok p r x a b is h = subst (λ r. Ended (is_err_at p r) a b) is h
