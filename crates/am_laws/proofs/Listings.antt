-- Settling keeps that the closed set is listed with each change fitting those before it.
use Rattle.std.proofs.Common.{ℕ, zero, suc, ◌≡◌, List, [], ◌∷◌, ◌++◌, filter, true, false, not, refl, sym, ap, ◌∙◌, subst, inl, inr, All, Contains, length, get_or}
use Rattle.std.specs.List.{list_any}
use Rattle.std.proofs.lemmas.Bool.{or_from, not-true}
use Rattle.std.proofs.lemmas.List.{append_assoc, append-nil, map-append}
use Rattle.std.proofs.lemmas.List.Folds.{list_any-append}
use Rattle.std.proofs.lemmas.List.Elements.{All-head, All-contains, All-contains_itself, All-filter, filter_passes}
use Rattle.std.proofs.lemmas.List.Sorted.{All-permutation}
use Rattle.am_laws.specs.Records.{Verdict, Fits}
use Rattle.am_types.specs.Order.{hash_cmp, same}
use Rattle.am_types.specs.Members.{Member, hashes, holds, holds_deps}
use Rattle.am_types.specs.Verdicts.{verdict}
use Rattle.am_types.specs.ValidSets.{Joins, JoinInTurn}
use Rattle.am_types.specs.Deliver.{Waits, Sets, ready, without, admit_by, admit, step, steps, settle}
use Rattle.std.proofs.lemmas.Cmp.{eq_by_cmp_equiv}
use Rattle.am_types.proofs.Orders.{hash_total}
use Rattle.am_types.proofs.Sorting.{IsPermutation-sorted_by}
use Rattle.am_laws.proofs.SettleLaws.{by_hash, first_or_none, step_idle, step_first}

-- what each admission keeps, settling keeps
module _ (P : Sets → Type 0) (keeps : (s : Sets) (m : Member) (ms : List Member) → ready s.closed s.waiting ≡ m ∷ ms → P s → P (admit m s)) where
  steps-keeps : (n : ℕ) (s : Sets) → P s → P (steps n s)
  steps-keeps zero s p = p
  steps-keeps (suc n) s p =
      let again : P (step s) → P (steps n (step s)) = steps-keeps n (step s) in
      elim (first_or_none (ready s.closed s.waiting)) [
        | inl e ↦ again (subst P (sym (step_idle s e)) p)
        | inr f ↦ again (subst P (sym (step_first s f.0 f.1 f.2)) (keeps s f.0 f.1 f.2 p))
      ]

  pub settle-keeps : (s : Sets) → P s → P (settle s)
  unfolding settle
  settle-keeps s p = steps-keeps (length s.waiting) s p

pub JoinInTurn-push : (before xs : List Member) (m : Member) → JoinInTurn before xs → Joins (before ++ xs) m → JoinInTurn before (xs ++ m ∷ [])
JoinInTurn-push before [] m turn j = (subst (λ l. Joins l m) (append-nil before) j, tt)
JoinInTurn-push before (x ∷ xs) m turn j = (turn.0, JoinInTurn-push (before ++ x ∷ []) xs m turn.1 (subst (λ l. Joins l m) (sym (append_assoc before (x ∷ []) xs)) j))

-- the first that is ready waits, and its dependencies are held
pub ready_is : (C W : List Member) → All (λ m. Contains W m × (holds_deps C m.change ≡ true)) (ready C W)
ready_is C W =
    let p = λ (m : Member). holds_deps C m.change in
    All-permutation (λ m. Contains W m × (holds_deps C m.change ≡ true)) (filter p W) (ready C W) (IsPermutation-sorted_by by_hash _)
    (λ k d l. (All-filter p (Contains W) W (All-contains_itself W) k d l, filter_passes p W k d l))

pub record Sound (s : Sets) : Type 0 where
  pub listed : JoinInTurn [] s.closed
  pub waiting : All (Waits s.closed) s.waiting

holds-push : (C : List Member) (m n : Member) → holds C n.hash ≡ false → same hash_cmp m.hash n.hash ≡ false → holds (C ++ m ∷ []) n.hash ≡ false
holds-push C m n h e =
    let p = same hash_cmp n.hash in
    let other : same hash_cmp n.hash m.hash ≡ false = (eq_by_cmp_equiv hash_total).symm n.hash m.hash ∙ e in
    ap (list_any p) (map-append (λ (m : Member). m.hash) C (m ∷ [])) ∙ list_any-append p (hashes C) (m.hash ∷ []) ∙ or_from _ _ h (or_from _ _ other refl)

admit_keeps : (s : Sets) (m : Member) (ms : List Member) → ready s.closed s.waiting ≡ m ∷ ms → Sound s → Sound (admit m s)
admit_keeps s m ms e sound = go (verdict s.closed m.change) refl
  where
    here : Contains s.waiting m × (holds_deps s.closed m.change ≡ true)
    here = All-head (λ m. Contains s.waiting m × (holds_deps s.closed m.change ≡ true)) m ms (subst (All (λ m. Contains s.waiting m × (holds_deps s.closed m.change ≡ true))) e (ready_is s.closed s.waiting))

    waits : Waits s.closed m
    waits = All-contains (Waits s.closed) s.waiting m sound.waiting here.0

    left : All (Waits (s.closed ++ m ∷ [])) (without m.hash s.waiting)
    left k d l =
        let q = λ (n : Member). not (same hash_cmp m.hash n.hash) in
        let w = All-filter q (Waits s.closed) s.waiting sound.waiting k d l in
        record { may_come = w.may_come; fresh = holds-push s.closed m (get_or (without m.hash s.waiting) k d) w.fresh (not-true _ (filter_passes q s.waiting k d l)) }

    go : (v : Verdict) → verdict s.closed m.change ≡ v → Sound (admit_by v m s)
    go Fits f = record { listed = JoinInTurn-push [] s.closed m sound.listed (record { hash = waits.may_come.hash; fresh = waits.fresh; deps = here.1; fine = waits.may_come.fine; fits = f }); waiting = left }
    go _ f = record { listed = sound.listed; waiting = All-filter (λ n. not (same hash_cmp m.hash n.hash)) (Waits s.closed) s.waiting sound.waiting }

pub settle_sound : (s : Sets) → Sound s → Sound (settle s)
settle_sound = settle-keeps Sound admit_keeps
