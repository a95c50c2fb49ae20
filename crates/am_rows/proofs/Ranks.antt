-- Sorting by numbers is sorting by places.
use Rattle.std.proofs.Common.{ℕ, zero, suc, ◌≡◌, ◌<◌, ◌-◌, ◌+◌, List, [], ◌∷◌, ◌++◌, length, get_or, map, take, refl, sym, ap, ◌∙◌, subst, All, Contains, inl, inr, arith}
use Rattle.std.specs.Cmp.{IsTotalOrder, nat_cmp_is}
use Rattle.std.specs.Ordering.{nat_cmp, on, ordering_then, ordering_reverse, then_cmp}
use Rattle.std.specs.declared.cmp.Ordering.{Ordering}
use Rattle.std.specs.declared.cmp.Ordering.TheVariants.{Less, Equal, Greater}
use Rattle.std.proofs.lemmas.Bool.{cases_order}
use Rattle.std.proofs.lemmas.Cmp.{nat_cmp_total, on_total, then_total, tied_itself}
use Rattle.std.proofs.lemmas.List.Elements.{All-contains}
use Rattle.am_types.specs.declared.OpId.{OpId}
use Rattle.am_types.specs.declared.ObjId.{ObjId}
use Rattle.am_types.specs.declared.ObjId.TheVariants.{Root, Made}
use Rattle.am_types.specs.Operations.{Operation}
use Rattle.am_types.specs.Order.{id_cmp, object_cmp, sorted_by}
use Rattle.am_types.proofs.Orders.{id_total}
use Rattle.am_places.specs.declared.Placed.{Placed}
use Rattle.am_places.specs.Placed.{placed_cmp, rank_cmp, slot_rank}
use Rattle.am_places.specs.Rising.{Rise, HasAt}
use Rattle.am_places.proofs.Ascent.{rise_at}
use Rattle.am_places.proofs.PlaceOrder.{rank_total}
use Rattle.am_places.proofs.Agreeing.{sorted_within}
use Rattle.am_places.proofs.Stable.{sorted_by-map}
use Rattle.am_rows.specs.declared.kept.Kept.{Kept}
use Rattle.am_rows.specs.declared.ranked.Ranked.{Ranked}
use Rattle.am_rows.specs.Lent.{kept_operation}
use Rattle.am_rows.specs.Ranked.{IsNumber, IsRanked, ranked_cmp}
use Rattle.am_rows.proofs.Made.{map-map}

pub ranked_total : IsTotalOrder ranked_cmp
ranked_total =
    then_total (on_total (λ (r : Ranked). r.object) nat_cmp_total)
    (then_total (on_total (λ (r : Ranked). slot_rank r.kept.placed.slot) rank_total) (on_total (λ (r : Ranked). r.kept.at) nat_cmp_total))

-- ---- numbers are in the order of ids

there : (A : List Operation) (i : OpId) (k : ℕ) (d : Operation) → HasAt A i k → (get_or A k d).id ≡ i
there [] i k d at = absurd (omega (arith, at.0))
there (x ∷ A) i zero d at = at.1 d
there (x ∷ A) i (suc k) d at = there A i k d (let l = at.0 in omega arith, λ e. at.1 e)

pub numbers_agree : (A : List Operation) → Rise A → (d : Operation) (i j : OpId) (k l : ℕ) → HasAt A i k → HasAt A j l → nat_cmp k l ≡ id_cmp i j
numbers_agree A rise d i j k l at on =
    let first : (get_or A k d).id ≡ i = there A i k d at in
    let second : (get_or A l d).id ≡ j = there A j l d on in
    let low = at.0 in
    let high = on.0 in
    elim (cases_order k l) [
      | inl e ↦
          let same : i ≡ j = sym first ∙ ap (λ n. (get_or A n d).id) e ∙ second in
          sym (nat_cmp_is k l Equal e) ∙ sym (ap (id_cmp i) (sym same) ∙ tied_itself id_total i)
      | inr r ↦ elim r [
        | inl less ↦ sym (nat_cmp_is k l Less less) ∙ sym ((λ t. id_cmp (sym first t) (sym second t)) ∙ rise_at A rise k l d less high)
        | inr more ↦
            let up : id_cmp j i ≡ Less = (λ t. id_cmp (sym second t) (sym first t)) ∙ rise_at A rise l k d more low in
            sym (nat_cmp_is k l Greater more) ∙ sym (id_total.antisymm i j ∙ ap ordering_reverse up)
      ]
    ]

cmp_less_one : (k l : ℕ) → 0 < k → 0 < l → nat_cmp k l ≡ nat_cmp (k - 1) (l - 1)
cmp_less_one k l p q = elim (cases_order k l) [
  | inl e ↦ sym (nat_cmp_is k l Equal e) ∙ nat_cmp_is (k - 1) (l - 1) Equal (omega arith)
  | inr r ↦ elim r [
    | inl less ↦ sym (nat_cmp_is k l Less less) ∙ nat_cmp_is (k - 1) (l - 1) Less (omega arith)
    | inr more ↦ sym (nat_cmp_is k l Greater more) ∙ nat_cmp_is (k - 1) (l - 1) Greater (omega arith)
  ]
]

pub objects_agree : (A : List Operation) → Rise A → (d : Operation) (a b : ObjId) (k l : ℕ) → IsNumber A a k → IsNumber A b l → nat_cmp k l ≡ object_cmp a b
objects_agree A rise d Root Root k l p q = (λ i. nat_cmp (p i) (q i)) ∙ sym (nat_cmp_is 0 0 Equal refl)
objects_agree A rise d Root (Made j) k l p q = ap (λ n. nat_cmp n l) p ∙ sym (nat_cmp_is 0 l Less q.0)
objects_agree A rise d (Made i) Root k l p q = ap (nat_cmp k) q ∙ sym (nat_cmp_is k 0 Greater p.0)
objects_agree A rise d (Made i) (Made j) k l p q = cmp_less_one k l p.0 q.0 ∙ numbers_agree A rise d i j (k - 1) (l - 1) p.1 q.1

abbrev place_of : Ranked → Placed
place_of r = r.kept.placed

pub ranks_agree : (A : List Operation) → Rise A → (p q : Ranked) → IsRanked A p → IsRanked A q → ranked_cmp p q ≡ on place_of placed_cmp p q
ranks_agree A rise p q rp rq =
    let x = kept_operation p.kept in
    let y = kept_operation q.kept in
    let objects : nat_cmp p.object q.object ≡ object_cmp x.op.obj y.op.obj = objects_agree A rise x x.op.obj y.op.obj p.object q.object rp.object rq.object in
    let ids : nat_cmp p.kept.at q.kept.at ≡ id_cmp x.id y.id = numbers_agree A rise x x.id y.id p.kept.at q.kept.at rp.at rq.at in
    λ i. ordering_then (objects i) (ordering_then (rank_cmp (slot_rank p.kept.placed.slot) (slot_rank q.kept.placed.slot)) (ids i))

pub sorted_places : (A : List Operation) → Rise A → (rs : List Ranked) (ks : List Kept) → All (IsRanked A) rs → map (λ (r : Ranked). r.kept) rs ≡ ks
    → map (λ (k : Kept). k.placed) (map (λ (r : Ranked). r.kept) (sorted_by ranked_cmp rs)) ≡ sorted_by placed_cmp (map (λ (k : Kept). k.placed) ks)
sorted_places A rise rs ks all are =
    map-map (λ (k : Kept). k.placed) (λ (r : Ranked). r.kept) (sorted_by ranked_cmp rs)
    ∙ ap (map place_of) (sorted_within ranked_cmp (on place_of placed_cmp) rs (λ p q cp cq. ranks_agree A rise p q (All-contains (IsRanked A) rs p all cp) (All-contains (IsRanked A) rs q all cq)))
    ∙ sym (sorted_by-map placed_cmp place_of rs)
    ∙ ap (sorted_by placed_cmp) (sym (map-map (λ (k : Kept). k.placed) (λ (r : Ranked). r.kept) rs) ∙ ap (map (λ (k : Kept). k.placed)) are)
