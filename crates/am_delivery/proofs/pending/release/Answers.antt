use Rattle.std.proofs.Common.{arith, ◌≡◌, ◌+◌, ◌-◌, ◌≤◌, ◌<◌, ◌==◌, ◌&&◌, ◌||◌, ℕ, Bool, true, false, List, [], length, get_or, take, count_by, cond, eqb, refl, ap, sym, ◌∙◌, subst, inl, inr, BTreeSet}
use Rattle.std.specs.List.{list_any}
use Rattle.std.specs.Map.{count_at}
use Rattle.std.specs.HashMap.{get}
use Rattle.std.specs.BTreeSet.{contains, Updates}
use Rattle.std.proofs.lemmas.Bool.{ne_eqb, cases_Bool, or_right, and_from}
use Rattle.std.proofs.lemmas.Cmp.{eq_by_cmp_equiv}
use Rattle.std.proofs.lemmas.List.Sums.{sum_by_more, sum_by_more_le}
use Rattle.std.proofs.lemmas.List.Folds.{list_any_more}
use Rattle.am_types.specs.declared.Hash.{Hash}
use Rattle.am_types.specs.Order.{hash_cmp, same}
use Rattle.am_types.proofs.Orders.{hash_total, same_hash-true, same_hash_itself}
use Rattle.am_delivery.specs.Views.{is_equal}
use Rattle.am_delivery.proofs.pending.release.Goals.{then-count_down+in_ok-insert, else-count_down}
use Rattle.am_delivery.proofs.pending.release.Goals as goal

abbrev times : Hash → List Hash → ℕ
times g hs = count_by (same hash_cmp g) hs

module _ (ws : List Hash) (i : ℕ) (d : Hash) (l : i < length ws) where
  abbrev p : Hash
  p = get_or ws i d

  more : (g : Hash) (b : Bool) → same hash_cmp g p ≡ b → times g (take (i + 1) ws) ≡ times g (take i ws) + cond b 1 0
  more g b e = sum_by_more (λ (h : Hash). cond (same hash_cmp g h) 1 0) ws i d l ∙ ap (λ c. times g (take i ws) + cond c 1 0) e

  counted : times p (take i ws) + 1 ≤ times p ws
  counted =
      let most : times p (take i ws) + cond (same hash_cmp p p) 1 0 ≤ times p ws = sum_by_more_le (λ (h : Hash). cond (same hash_cmp p h) 1 0) ws i d l in
      subst (λ b. times p (take i ws) + cond b 1 0 ≤ times p ws) (same_hash_itself p) most

  -- the counters f become g
  module _ (f g : Hash → ℕ) (one : g p + 1 ≡ f p) (others : (h : Hash) → same hash_cmp p h ≡ false → g h ≡ f h) where
    flip : (h : Hash) → same hash_cmp h p ≡ false → same hash_cmp p h ≡ false
    flip h e = (eq_by_cmp_equiv hash_total).symm p h ∙ e

    down : (h : Hash) (old : ℕ) → f h + times h (take i ws) ≡ old → g h + times h (take (i + 1) ws) ≡ old
    down h old e = elim (cases_Bool (same hash_cmp h p)) [
      | inl t ↦
          let k = more h true t in
          let now : g h + 1 ≡ f h = subst (λ q. g q + 1 ≡ f q) (sym (same_hash-true h p t)) one in
          omega arith
      | inr n ↦
          let k = more h false n in
          let now = others h (flip h n) in
          omega arith
    ]

    or_false : (a b : Bool) → (a || b && false) ≡ a
    or_false true b = refl
    or_false false true = refl
    or_false false false = refl

    or_nothing : (a : Bool) → (a || false) ≡ a
    or_nothing true = refl
    or_nothing false = refl

    abbrev Is : BTreeSet Hash → BTreeSet Hash → ℕ → (Hash → ℕ) → Hash → Type 0
    Is new old n f h = contains hash_cmp new h ≡ (contains hash_cmp old h || list_any (same hash_cmp h) (take n ws) && f h == 0)

    module _ (old mid new : BTreeSet Hash) (before : (h : Hash) → Is mid old i f h) where
      elsewhere : (h : Hash) → same hash_cmp h p ≡ false → contains hash_cmp new h ≡ contains hash_cmp mid h → Is new old (i + 1) g h
      elsewhere h n e =
          let any : list_any (same hash_cmp h) (take (i + 1) ws) ≡ list_any (same hash_cmp h) (take i ws) =
          list_any_more (same hash_cmp h) ws i d l ∙ ap (λ b. list_any (same hash_cmp h) (take i ws) || b) n ∙ or_nothing (list_any (same hash_cmp h) (take i ws)) in
          let count = others h (flip h n) in
          e ∙ before h ∙ (λ j. contains hash_cmp old h || sym any j && eqb (sym count j) 0)

      -- p itself was not ready
      was : contains hash_cmp mid p ≡ contains hash_cmp old p
      was = before p ∙ ap (λ b. contains hash_cmp old p || list_any (same hash_cmp p) (take i ws) && b) (ne_eqb (f p) 0 (λ z. let k : ⊥ = omega arith in k)) ∙ or_false _ _

      there : list_any (same hash_cmp p) (take (i + 1) ws) ≡ true
      there = list_any_more (same hash_cmp p) ws i d l ∙ or_right _ _ (same_hash_itself p)

      at_p : (h : Hash) → same hash_cmp h p ≡ true → Is new old (i + 1) g p → Is new old (i + 1) g h
      at_p h t e = subst (Is new old (i + 1) g) (sym (same_hash-true h p t)) e

      inserted : Updates hash_cmp mid new p true → (g p == 0) ≡ true → (h : Hash) → Is new old (i + 1) g h
      inserted u z h = elim (cases_Bool (same hash_cmp h p)) [
        | inl t ↦ at_p h t (u.1 ∙ sym (or_right (contains hash_cmp old p) _ (and_from _ _ there z)))
        | inr n ↦ elsewhere h n (u.2 h (flip h n))
      ]

      kept : new ≡ mid → (g p == 0) ≡ false → (h : Hash) → Is new old (i + 1) g h
      kept e z h = elim (cases_Bool (same hash_cmp h p)) [
        | inl t ↦ at_p h t (ap (λ s. contains hash_cmp s p) e ∙ was ∙ sym (ap (λ b. contains hash_cmp old p || list_any (same hash_cmp p) (take (i + 1) ws) && b) z ∙ or_false _ _))
        | inr n ↦ elsewhere h n (ap (λ s. contains hash_cmp s h) e)
      ]

abbrev none : Hash
none = record { 0 = [] }

pub count_down-requires : goal.count_down-requires
count_down-requires c =
    let i = c.loop-h.h-index in
    let ws = c.args.waiting.now in
    let one = counted ws i none c.loop-h-test.true in
    let had = c.loop-h.invariant.counts (get_or ws i none) in
    let most = c.requires.some_missing (get_or ws i none) in
    omega arith

pub loop-h-preserved : goal.loop-h-preserved
loop-h-preserved c =
    let i = c.loop-h.h-index in
    let ws = c.args.waiting.now in
    let l = c.loop-h-test.true in
    let f = count_at (get is_equal c.loop-h.missing) in
    let g = count_at (get is_equal c.count_down.new.missing) in
    let one = c.count_down.ensures.one in
    let others : (h : Hash) → same hash_cmp (get_or ws i none) h ≡ false → g h ≡ f h = λ h n. ap (λ o. Rattle.std.proofs.Common.unwrap_or o 0) (c.count_down.ensures.others h n) in
    record {
      counts = λ h. down ws i none l f g one others h (count_at (get is_equal c.args.missing.now) h) (c.loop-h.invariant.counts h);
      ready = λ h. elim c.if-count_down.branch [
        | then-count_down+in_ok-insert w ↦ rw w.ready-is (inserted ws i none l f g one others c.args.ready.now c.loop-h.ready w.insert.new.self c.loop-h.invariant.ready w.in_ok-insert.ensures.updates (sym c.count_down.ensures.done ∙ w.if-count_down.true) h)
        | else-count_down w ↦ kept ws i none l f g one others c.args.ready.now c.loop-h.ready c.if-count_down.ready c.loop-h.invariant.ready w.ready-is (sym c.count_down.ensures.done ∙ w.if-count_down.false) h
      ];
    }
