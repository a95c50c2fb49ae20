-- The walk by a plan gives the rows of the larger set.
use Rattle.std.proofs.Common.{zero, suc, ◌≡◌, List, [], ◌∷◌, ◌++◌, map, filter, Bool, true, false, not, refl, sym, ap, ◌∙◌, subst, inl, inr, AllPairs, Contains, arith}
use Rattle.std.specs.Cmp.{IsTotalOrder}
use Rattle.std.specs.Ordering.{is_gt, on, ordering_then, ordering_reverse}
use Rattle.std.specs.declared.cmp.Ordering.{Ordering}
use Rattle.std.specs.declared.cmp.Ordering.TheVariants.{Less, Equal, Greater}
use Rattle.std.proofs.lemmas.Bool.{cases_Bool, both_ways, and_parts, not-true}
use Rattle.std.proofs.lemmas.Cmp.{on_total, tied_itself}
use Rattle.std.proofs.lemmas.List.{map-append}
use Rattle.std.proofs.lemmas.List.Elements.{filter-append}
use Rattle.am_types.specs.declared.OpId.{OpId}
use Rattle.am_types.specs.declared.ObjId.{ObjId}
use Rattle.am_types.specs.declared.Row.{Row}
use Rattle.am_types.specs.Order.{id_cmp, object_cmp}
use Rattle.am_types.specs.Same.{same_object, same_key}
use Rattle.am_types.specs.Operations.{Operation}
use Rattle.am_types.specs.Places.{place_cmp, slot_cmp}
use Rattle.am_laws.proofs.Ancestry.{Contains-from_filter}
use Rattle.am_types.proofs.Lists.{Contains-head, Contains-tail}
use Rattle.am_types.proofs.Rising.{AboveNone, Rises}
use Rattle.am_types.proofs.SameLaws.{same_object-true, same_key-true}
use Rattle.am_laws.proofs.SameMembers.{Contains-cons_cases}
use Rattle.am_merge.specs.Merge.{merge, merge_into, extended, slot_of_row, row_place}
use Rattle.am_merge.specs.Plans.{Slot, is_in, IsBefore, within, beyond, new_in, Event, Put, take_into, slot_events, plan, carried}
use Rattle.am_merge.proofs.Lists.{filter_none}
use Rattle.am_merge.proofs.Places.{object_total, slot_total, place_total}
use Rattle.am_merge.proofs.MergeParts.{merge-append, merge-agree, front_first}

abbrev pub by_id : Row → Row → Ordering
by_id = on (λ r. r.id) id_cmp

-- ---- what the events make

put_all : (ns : List Row) (more : List Event) (rs : List Row) → carried (map Put ns ++ more) rs ≡ ns ++ carried more rs
put_all [] more rs = refl
put_all (n ∷ ns) more rs = ap (λ l. n ∷ l) (put_all ns more rs)

take_all : (E : List Operation) (r : Row) (ws bs : List Row) (more : List Event)
    → ((ns : List Row) → carried (slot_events E ws ns ++ more) (ws ++ bs) ≡ merge by_id (map (extended E) ws) ns ++ carried more bs)
    → (ns : List Row) → carried (take_into E r (slot_events E ws) ns ++ more) (r ∷ (ws ++ bs)) ≡ merge_into by_id (extended E r) (merge by_id (map (extended E) ws)) ns ++ carried more bs
take_all E r ws bs more again [] = ap (λ l. extended E r ∷ l) (again [])
take_all E r ws bs more again (n ∷ ns) =
    let later = take_all E r ws bs more again ns in
    let now = again (n ∷ ns) in
    elim (cases_Bool (is_gt (id_cmp r.id n.id))) [
      | inl t ↦ simp t (ap (λ l. n ∷ l) later)
      | inr f ↦ simp f (ap (λ l. extended E r ∷ l) now)
    ]

slot_carried : (E : List Operation) (ws bs : List Row) (more : List Event) (ns : List Row) → carried (slot_events E ws ns ++ more) (ws ++ bs) ≡ merge by_id (map (extended E) ws) ns ++ carried more bs
slot_carried E [] bs more ns = put_all ns more bs
slot_carried E (r ∷ ws) bs more ns = take_all E r ws bs more (λ ns. slot_carried E ws bs more ns) ns

cut : (s : Slot) (rs : List Row) → within s rs ++ beyond s rs ≡ rs
cut s [] = refl
cut s (r ∷ rs) = let again = cut s rs in elim (cases_Bool (is_in s r)) [ inl t ↦ simp t (ap (λ l. r ∷ l) again) | inr f ↦ simp f refl ]

-- slot after slot
abbrev pub joined : List Operation → List Slot → List Row → List Row
joined E [] rs = []
joined E (s ∷ ss) rs = merge by_id (map (extended E) (within s rs)) (new_in E s) ++ joined E ss (beyond s rs)

pub plan_carried : (E : List Operation) (ss : List Slot) (rs : List Row) → carried (plan E ss rs) rs ≡ joined E ss rs
plan_carried E [] rs = refl
plan_carried E (s ∷ ss) rs =
    ap (carried (slot_events E (within s rs) (new_in E s) ++ plan E ss (beyond s rs))) (sym (cut s rs))
    ∙ slot_carried E (within s rs) (beyond s rs) (plan E ss (beyond s rs)) (new_in E s)
    ∙ ap (λ l. merge by_id (map (extended E) (within s rs)) (new_in E s) ++ l) (plan_carried E ss (beyond s rs))

-- ---- slots in order

is_in-true : (s : Slot) (r : Row) → is_in s r ≡ true → (r.obj ≡ s.0) × (slot_of_row r ≡ s.1)
is_in-true s r t = let p = and_parts (same_object r.obj s.0) (same_key (slot_of_row r) s.1) t in (same_object-true r.obj s.0 p.0, same_key-true (slot_of_row r) s.1 p.1)

then_less : (a b c : Ordering) → ordering_then a b ≡ Less → ordering_then a (ordering_then b c) ≡ Less
then_less Less b c e = refl
then_less Equal b c e = rw e refl
then_less Greater b c e = cc

not_gt : (r : Ordering) → r ≡ Less → is_gt r ≡ false
not_gt r e = rw e refl

reversed_gt : (r s : Ordering) → s ≡ ordering_reverse r → r ≡ Less → is_gt s ≡ true
reversed_gt r s e f = rw (e, f) refl

module _ (E : List Operation) (es : ObjId → List OpId) where
  abbrev pub R : Row → Row → Ordering
  R = on row_place (place_cmp es)

  pub total : IsTotalOrder (on row_place (place_cmp es))
  total = on_total row_place (place_total es)

  rows_before : (s t : Slot) → IsBefore es s t → (a b : Row) → is_in s a ≡ true → is_in t b ≡ true → R a b ≡ Less
  rows_before s t before a b ia ib =
      let ea = is_in-true s a ia in
      let eb = is_in-true t b ib in
      then_less (object_cmp a.obj b.obj) (slot_cmp (es a.obj) (slot_of_row a) (slot_of_row b)) (id_cmp a.id b.id)
      ((λ i. ordering_then (object_cmp (ea.0 i) (eb.0 i)) (slot_cmp (es (ea.0 i)) (ea.1 i) (eb.1 i))) ∙ before)

  pub same_slot : (s : Slot) (a b : Row) → is_in s a ≡ true → is_in s b ≡ true → R a b ≡ by_id a b
  same_slot s a b ia ib =
      let ea = is_in-true s a ia in
      let eb = is_in-true s b ib in
      let o : object_cmp a.obj b.obj ≡ Equal = (λ i. object_cmp (ea.0 i) (eb.0 i)) ∙ tied_itself object_total s.0 in
      let k : slot_cmp (es a.obj) (slot_of_row a) (slot_of_row b) ≡ Equal = (λ i. slot_cmp (es (ea.0 i)) (ea.1 i) (eb.1 i)) ∙ tied_itself (slot_total (es s.0)) s.1 in
      λ i. ordering_then (o i) (ordering_then (k i) (id_cmp a.id b.id))

  not_itself : (s : Slot) → IsBefore es s s → ⊥
  not_itself s before = clash (ordering_then (object_cmp s.0 s.0) (slot_cmp (es s.0) s.1 s.1)) before (λ i. ordering_then (tied_itself object_total s.0 i) (tied_itself (slot_total (es s.0)) s.1 i))
    where
      clash : (r : Ordering) → r ≡ Less → r ≡ Equal → ⊥
      clash r a b = cc

  -- no row is in two slots
  not_both : (s t : Slot) → IsBefore es s t → (a : Row) → is_in s a ≡ true → is_in t a ≡ false
  not_both s t before a ia = elim (cases_Bool (is_in t a)) [
    | inl it ↦ absurd (self a (rows_before s t before a a ia it))
    | inr f ↦ f
  ]
    where
      clash : (r : Ordering) → r ≡ Less → r ≡ Equal → ⊥
      clash r a b = cc

      self : (a : Row) → R a a ≡ Less → ⊥
      self a less = clash (R a a) less (tied_itself total a)

  -- each of these rows is in a slot of ss
  abbrev pub AllIn : List Slot → List Row → Type 0
  AllIn ss rs = (r : Row) → Contains rs r → (s : Slot) × Contains ss s × (is_in s r ≡ true)

  abbrev Behind : Slot → List Slot → Type 0
  Behind s ss = (t : Slot) → Contains ss t → IsBefore es s t

  left_over : (s : Slot) (ss : List Slot) (rs : List Row) → AllIn (s ∷ ss) rs → AllIn ss (filter (λ r. not (is_in s r)) rs)
  left_over s ss rs all r c =
      let f = Contains-from_filter (λ r. not (is_in s r)) rs r c in
      let a = all r f.0 in
      elim (Contains-cons_cases s ss a.0 a.1) [
        | inl e ↦ absurd (both_ways (is_in s r) (not-true (is_in s r) f.1) (subst (λ t. is_in t r ≡ true) (sym e) a.2))
        | inr d ↦ (a.0, d, a.2)
      ]

  above_first : (s : Slot) (ss : List Slot) → Behind s ss → (rs us : List Row) → AllIn (s ∷ ss) us → (x y : Row) → is_in s x ≡ true → Contains us y → is_in s y ≡ false → (is_gt (R y x) ≡ true) × (is_gt (R x y) ≡ false)
  above_first s ss behind rs us all x y ix cy iy =
      let a = all y cy in
      let less : R x y ≡ Less = elim (Contains-cons_cases s ss a.0 a.1) [
        | inl e ↦ absurd (both_ways (is_in s y) iy (subst (λ t. is_in t y ≡ true) (sym e) a.2))
        | inr d ↦ rows_before s a.0 (behind a.0 d) x y ix a.2
      ] in
      (reversed_gt (R x y) (R y x) (total.antisymm y x) less, not_gt (R x y) less)

  -- within a slot at the front and beyond it
  within_filter : (s : Slot) (ws bs : List Row) → ((r : Row) → Contains ws r → is_in s r ≡ true) → ((r : Row) → Contains bs r → is_in s r ≡ false) → (within s (ws ++ bs) ≡ ws) × (beyond s (ws ++ bs) ≡ bs)
  within_filter s [] [] h k = (refl, refl)
  within_filter s [] (b ∷ bs) h k = let f = k b (Contains-head b bs) in (simp f refl, simp f refl)
  within_filter s (w ∷ ws) bs h k =
      let again = within_filter s ws bs (λ r c. h r (Contains-tail w ws r c)) k in
      let t = h w (Contains-head w ws) in
      (simp t (ap (λ l. w ∷ l) again.0), simp t again.1)

  rises_map : (rs : List Row) → Rises total rs → Rises total (map (extended E) rs)
  rises_map [] r = tt
  rises_map (x ∷ rs) r = (above_map x rs r.0, rises_map rs r.1)
    where
      above_map : (x : Row) (rs : List Row) → AboveNone total x rs → AboveNone total (extended E x) (map (extended E) rs)
      above_map x [] a = tt
      above_map x (y ∷ rs) a = (a.0, above_map x rs a.1)

  rises_filtered : (p : Row → Bool) (rs : List Row) → Rises total rs → Rises total (filter p rs)
  rises_filtered p [] r = tt
  rises_filtered p (x ∷ rs) r = elim (cases_Bool (p x)) [
    | inl t ↦ simp t (none_filtered x rs r.0, rises_filtered p rs r.1)
    | inr f ↦ simp f (rises_filtered p rs r.1)
  ]
    where
      none_filtered : (x : Row) (rs : List Row) → AboveNone total x rs → AboveNone total x (filter p rs)
      none_filtered x [] a = tt
      none_filtered x (y ∷ rs) a = elim (cases_Bool (p y)) [ inl t ↦ simp t (a.0, none_filtered x rs a.1) | inr f ↦ simp f (none_filtered x rs a.1) ]

  from_map : (rs : List Row) (x : Row) → Contains (map (extended E) rs) x → (r : Row) × Contains rs r × (extended E r ≡ x)
  from_map [] x c = absurd (omega (arith, c.1))
  from_map (r ∷ rs) x (zero, l, e) = (r, Contains-head r rs, e)
  from_map (r ∷ rs) x (suc k, l, e) = let f = from_map rs x (k, omega arith, e) in (f.0, Contains-tail r rs f.0 f.1, f.2)

  -- ---- slot by slot

  pub joined_is : (ss : List Slot) (rs ys : List Row) → AllPairs (IsBefore es) ss → Rises total rs → Rises total ys → AllIn ss rs → AllIn ss ys
      → ((s : Slot) → Contains ss s → new_in E s ≡ filter (is_in s) ys) → joined E ss rs ≡ merge R (map (extended E) rs) ys
  joined_is [] [] [] pairs rr ry ar ay news = refl
  joined_is [] (r ∷ rs) ys pairs rr ry ar ay news = let a = ar r (Contains-head r rs) in let c = a.1 in absurd (omega (arith, c.1))
  joined_is [] [] (y ∷ ys) pairs rr ry ar ay news = let a = ay y (Contains-head y ys) in let c = a.1 in absurd (omega (arith, c.1))
  joined_is (s ∷ ss) rs ys pairs rr ry ar ay news =
      let p : Row → Bool = is_in s in
      let n : Row → Bool = λ r. not (is_in s r) in
      let ws : List Row = filter p rs in
      let bs : List Row = filter n rs in
      let us : List Row = filter p ys in
      let vs : List Row = filter n ys in
      let behind : Behind s ss = λ t c. subst (IsBefore es s) c.2 (pairs 0 (suc c.0) t (omega arith) (let l = c.1 in omega arith)) in
      let in_ws : (r : Row) → Contains ws r → is_in s r ≡ true = λ r c. (Contains-from_filter p rs r c).1 in
      let not_bs : (r : Row) → Contains bs r → is_in s r ≡ false = λ r c. not-true (is_in s r) (Contains-from_filter n rs r c).1 in
      let in_us : (r : Row) → Contains us r → is_in s r ≡ true = λ r c. (Contains-from_filter p ys r c).1 in
      let not_vs : (r : Row) → Contains vs r → is_in s r ≡ false = λ r c. not-true (is_in s r) (Contains-from_filter n ys r c).1 in
      let rs_is : rs ≡ ws ++ bs = front_first total p rs rr (λ x y cx cy ix iy. (above_first s ss behind rs rs ar x y ix cy iy).0) in
      let ys_is : ys ≡ us ++ vs = front_first total p ys ry (λ x y cx cy ix iy. (above_first s ss behind ys ys ay x y ix cy iy).0) in
      let cuts = within_filter s ws bs in_ws not_bs in
      let now : merge by_id (map (extended E) (within s rs)) (new_in E s) ≡ merge R (map (extended E) ws) us =
      (λ i. merge by_id (map (extended E) ((ap (within s) rs_is ∙ cuts.0) i)) (news s (Contains-head s ss) i))
      ∙ sym (merge-agree R by_id (map (extended E) ws) us (λ x y cx cy. let f = from_map ws x cx in subst (λ z. R z y ≡ by_id z y) f.2 (same_slot s (extended E f.0) y (in_ws f.0 f.1) (in_us y cy)))) in
      let later : joined E ss (beyond s rs) ≡ merge R (map (extended E) bs) vs =
      ap (joined E ss) (ap (beyond s) rs_is ∙ cuts.1)
      ∙ joined_is ss bs vs (λ i j d a b. pairs (suc i) (suc j) d (omega arith) (omega arith)) (rises_filtered n rs rr) (rises_filtered n ys ry) (left_over s ss rs ar) (left_over s ss ys ay)
      (λ t c. news t (Contains-tail s ss t c) ∙ ap (filter (is_in t)) ys_is ∙ filter-append (is_in t) us vs
      ∙ ap (λ l. l ++ filter (is_in t) vs) (filter_none (is_in t) us (λ r cr. not_both s t (behind t c) r (in_us r cr)))) in
      (λ i. now i ++ later i)
      ∙ sym (merge-append R (map (extended E) ws) (map (extended E) bs) us vs
      (λ x y cx cy. let f = from_map ws x cx in subst (λ z. is_gt (R z y) ≡ false) f.2 (above_first s ss behind ys ys ay (extended E f.0) y (in_ws f.0 f.1) (Contains-from_filter n ys y cy).0 (not_vs y cy)).1)
      (λ x y cx cy. let f = from_map bs x cx in subst (λ z. is_gt (R z y) ≡ true) f.2 (above_first s ss behind rs rs ar y f.0 (in_us y cy) (Contains-from_filter n rs f.0 f.1).0 (not_bs f.0 f.1)).0))
      ∙ (λ i. merge R ((sym (map-append (extended E) ws bs) ∙ ap (map (extended E)) (sym rs_is)) i) (sym ys_is i))
