use Rattle.std.proofs.Common.{◌≡◌, ◌+◌, ◌<◌, ℕ, Bool, true, false, cond, List, [], ◌∷◌, ◌++◌, length, get_or, take, map, filter, sym, ap, ◌∙◌, subst, inl, inr}
use Rattle.std.proofs.lemmas.Bool.{cases_Bool}
use Rattle.std.proofs.lemmas.Cmp.{eq_by_cmp_equiv}
use Rattle.std.proofs.lemmas.List.{append_assoc, append-nil, map-append}
use Rattle.std.proofs.lemmas.List.Elements.{filter_more}
use Rattle.am_types.specs.declared.Hash.{Hash}
use Rattle.am_types.specs.Order.{hash_cmp, same}
use Rattle.am_types.proofs.Orders.{hash_total, same_hash-true}
use Rattle.am_delivery.specs.Views.{listed}
use Rattle.am_delivery.proofs.pending.note_all.Goals as goal

module _ (hs : List Hash) (i : ℕ) (e : Hash) (l : i < length hs) (h : Hash) where
  abbrev p : Hash
  p = get_or hs i e

  abbrev copies : Hash → ℕ → List Hash
  copies d n = map (λ (g : Hash). h) (filter (same hash_cmp d) (take n hs))

  more : (d : Hash) (b : Bool) → same hash_cmp d p ≡ b → copies d (i + 1) ≡ copies d i ++ map (λ (g : Hash). h) (cond b (p ∷ []) [])
  more d b f =
      ap (map (λ (g : Hash). h)) (filter_more (same hash_cmp d) hs i e l ∙ ap (λ c. filter (same hash_cmp d) (take i hs) ++ cond c (p ∷ []) []) f)
      ∙ map-append (λ (g : Hash). h) (filter (same hash_cmp d) (take i hs)) (cond b (p ∷ []) [])

  noted : (old mid new : Hash → List Hash) → new p ≡ mid p ++ h ∷ [] → ((g : Hash) → same hash_cmp p g ≡ false → new g ≡ mid g) → (d : Hash) → mid d ≡ old d ++ copies d i → new d ≡ old d ++ copies d (i + 1)
  noted old mid new here others d had = elim (cases_Bool (same hash_cmp d p)) [
    | inl t ↦
        let now : new d ≡ mid d ++ h ∷ [] = subst (λ k. new k ≡ mid k ++ h ∷ []) (sym (same_hash-true d p t)) here in
        now ∙ ap (λ k. k ++ h ∷ []) had ∙ append_assoc (old d) (copies d i) (h ∷ []) ∙ ap (λ k. old d ++ k) (sym (more d true t))
    | inr f ↦
        others d ((eq_by_cmp_equiv hash_total).symm p d ∙ f) ∙ had ∙ ap (λ k. old d ++ k) (sym (more d false f ∙ append-nil (copies d i)))
  ]

pub loop-d-init : goal.loop-d-init
loop-d-init c = λ d. sym (append-nil (listed c.args.waiting_for.now d))

pub loop-d-preserved : goal.loop-d-preserved
loop-d-preserved c = λ d.
    noted c.args.absent.now c.loop-d.d-index (record { 0 = [] }) c.loop-d-test.true c.args.h (listed c.args.waiting_for.now) (listed c.loop-d.waiting_for) (listed c.note.new.waiting_for)
    c.in_ok-note.ensures.here c.in_ok-note.ensures.others d (c.loop-d.invariant d)
