-- Settling goes on until no waiting change is ready.
use Rattle.std.proofs.Common.{ℕ, zero, suc, ◌≡◌, ◌+◌, ◌<◌, ◌≤◌, List, [], ◌∷◌, length, filter, Bool, true, false, refl, sym, ap, ◌∙◌, inl, inr, ◌⊎◌, ◌-◌, zero-add, All, arith}
use Rattle.std.specs.List.{list_any}
use Rattle.std.specs.Ordering.{on}
use Rattle.std.specs.declared.cmp.Ordering.{Ordering}
use Rattle.std.proofs.lemmas.Bool.{cases_Bool, both_ways, or_left, or_right}
use Rattle.std.proofs.lemmas.List.Elements.{All-filter, All-cons, All-head}
use Rattle.std.proofs.lemmas.List.Sorted.{All-permutation}
use Rattle.std.proofs.lemmas.List.{nil_from_length}
use Rattle.am_laws.specs.Records.{Hash, Verdict, Fits}
use Rattle.am_types.specs.Order.{hash_cmp, same}
use Rattle.am_types.specs.Members.{Member, holds_deps}
use Rattle.am_types.specs.Verdicts.{verdict}
use Rattle.am_types.specs.Deliver.{Sets, ready, without, admit_by, admit, admit_first, step, steps, settle, TakesOne}
use Rattle.am_types.proofs.Orders.{same_hash_itself}
use Rattle.am_types.proofs.Sorting.{IsPermutation-sorted_by}

abbrev pub by_hash : Member → Member → Ordering
by_hash = on (λ m. m.hash) hash_cmp

without-shorter : (h : Hash) (W : List Member) → length (without h W) ≤ length W
without-shorter h [] = omega arith
without-shorter h (w ∷ W) =
    let again = without-shorter h W in
    elim (cases_Bool (same hash_cmp h w.hash)) [ inl e ↦ simp e (omega arith) | inr e ↦ simp e (omega arith) ]

-- one member at least has the hash
abbrev has_hash : Hash → List Member → Bool
has_hash h W = list_any (λ m. same hash_cmp h m.hash) W

without-less : (h : Hash) (W : List Member) → has_hash h W ≡ true → length (without h W) < length W
without-less h [] e = absurd (both_ways false refl e)
without-less h (w ∷ W) e =
    let again : has_hash h W ≡ true → length (without h W) < length W = without-less h W in
    let most = without-shorter h W in
    elim (cases_Bool (same hash_cmp h w.hash)) [
      | inl s ↦ simp s (omega arith)
      | inr s ↦ let less = again (simp s at e) in simp s (omega arith)
    ]

-- what is ready waits
ready-waits : (C W : List Member) → All (λ m. has_hash m.hash W ≡ true) (ready C W)
ready-waits C W =
    All-permutation (λ m. has_hash m.hash W ≡ true) (filter (λ m. holds_deps C m.change) W) (ready C W) (IsPermutation-sorted_by by_hash _)
    (All-filter (λ m. holds_deps C m.change) (λ m. has_hash m.hash W ≡ true) W (all_have W))
  where
    all_have : (W : List Member) → All (λ m. has_hash m.hash W ≡ true) W
    all_have [] = λ k d h. absurd (omega arith)
    all_have (w ∷ W) = All-cons (λ m. has_hash m.hash (w ∷ W) ≡ true) w W (or_left _ _ (same_hash_itself w.hash)) (λ k d h. or_right _ _ (all_have W k d h))

waiting-admit : (v : Verdict) (m : Member) (s : Sets) → (admit_by v m s).waiting ≡ without m.hash s.waiting
waiting-admit Fits m s = refl
waiting-admit _ m s = refl

abbrev pub idle : Sets → Type 0
idle s = ready s.closed s.waiting ≡ []

pub first_or_none : {X : Type 0} (xs : List X) → (xs ≡ []) ⊎ ((x : X) × (rest : List X) × (xs ≡ x ∷ rest))
first_or_none [] = inl refl
first_or_none (x ∷ xs) = inr (x, xs, refl)

pub step_idle : (s : Sets) → idle s → step s ≡ s
step_idle s e = ap (λ r. admit_first r s) e

steps_idle : (n : ℕ) (s : Sets) → idle s → steps n s ≡ s
steps_idle zero s e = refl
steps_idle (suc n) s e = rw (step_idle s e) (steps_idle n s e)

-- a step takes the first that is ready out of the waiting set
pub step_first : (s : Sets) (m : Member) (ms : List Member) → ready s.closed s.waiting ≡ m ∷ ms → step s ≡ admit m s
step_first s m ms e = ap (λ r. admit_first r s) e

step_shorter : (s : Sets) (m : Member) (ms : List Member) → ready s.closed s.waiting ≡ m ∷ ms → length (step s).waiting < length s.waiting
step_shorter s m ms e =
    let there : has_hash m.hash s.waiting ≡ true = All-head (λ m. has_hash m.hash s.waiting ≡ true) m ms (rw e at (ready-waits s.closed s.waiting)) in
    rw (step_first s m ms e, waiting-admit (verdict s.closed m.change) m s) (without-less m.hash s.waiting there)

nothing_ready : (C W : List Member) → W ≡ [] → ready C W ≡ []
nothing_ready C W e = rw e

steps_settle : (n : ℕ) (s : Sets) → length s.waiting ≤ n → idle (steps n s)
steps_settle zero s h = nothing_ready s.closed s.waiting (nil_from_length s.waiting (omega arith))
steps_settle (suc n) s h =
    let again : length (step s).waiting ≤ n → idle (steps n (step s)) = steps_settle n (step s) in
    elim (first_or_none (ready s.closed s.waiting)) [
      | inl e ↦ rw (steps_idle (suc n) s e) e
      | inr f ↦ again (let less = step_shorter s f.0 f.1 f.2 in omega arith)
    ]

pub settle_settles : (s : Sets) → idle (settle s)
unfolding settle
settle_settles s = steps_settle (length s.waiting) s (omega arith)

steps-add : (m n : ℕ) (s : Sets) → steps (m + n) s ≡ steps n (steps m s)
steps-add zero n s = ap (λ k. steps k s) (zero-add n)
steps-add (suc m) n s =
    let e : suc m + n ≡ suc (m + n) = omega arith in
    ap (λ k. steps k s) e ∙ steps-add m n (step s)

-- more steps change nothing
pub enough : (n : ℕ) (s : Sets) → length s.waiting ≤ n → steps n s ≡ settle s
unfolding settle
enough n s h =
    let e : n ≡ length s.waiting + (n - length s.waiting) = omega arith in
    ap (λ k. steps k s) e ∙ steps-add (length s.waiting) (n - length s.waiting) s ∙ steps_idle (n - length s.waiting) (settle s) (settle_settles s)

-- how a loop over the waiting set goes on, and when it ends
pub settle_idle : (s : Sets) → idle s → settle s ≡ s
unfolding settle
settle_idle s e = steps_idle (length s.waiting) s e

pub settle_first : (s : Sets) (m : Member) (ms : List Member) → ready s.closed s.waiting ≡ m ∷ ms → settle s ≡ settle (admit m s)
unfolding settle
settle_first s m ms e =
    let less = step_shorter s m ms e in
    let one : settle s ≡ steps (length s.waiting - 1) (step s) = ap (λ k. steps k s) (let f : length s.waiting ≡ suc (length s.waiting - 1) = omega arith in f) in
    one ∙ enough (length s.waiting - 1) (step s) (omega arith) ∙ ap settle (step_first s m ms e)

-- the same for a step of a loop
pub settle_taken : (s t : Sets) → TakesOne s t → settle s ≡ settle t
settle_taken s t h = settle_first s h.first h.others h.are_ready ∙ ap settle (sym h.admits)

pub fewer_wait : (s t : Sets) → TakesOne s t → length t.waiting < length s.waiting
fewer_wait s t h = rw (h.admits, ← step_first s h.first h.others h.are_ready) (step_shorter s h.first h.others h.are_ready)
