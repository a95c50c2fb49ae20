-- What is known of the rows of a valid set, in any order, and of the elements es of each object.
use Rattle.std.proofs.Common.{◌≡◌, List, [], ◌∷◌, ◌++◌, map, filter, true, false, refl, sym, ap, ◌∙◌, subst, inl, inr, ◌⊎◌, ◌↔◌, Contains, IsPermutation}
use Rattle.std.specs.Bool.{⊤}
use Rattle.std.specs.Cmp.{IsTotalOrder}
use Rattle.std.specs.Ordering.{is_gt, on}
use Rattle.std.specs.declared.cmp.Ordering.{Ordering}
use Rattle.std.specs.declared.cmp.Ordering.TheVariants.{Less}
use Rattle.std.proofs.lemmas.Bool.{cases_Bool, both_ways, and_from}
use Rattle.std.proofs.lemmas.Cmp.{on_total, upto}
use Rattle.std.proofs.lemmas.List.{map-append}
use Rattle.std.proofs.lemmas.List.Elements.{filter-append}
use Rattle.am_types.specs.declared.OpId.{OpId}
use Rattle.am_types.specs.declared.ObjId.{ObjId}
use Rattle.am_types.specs.declared.Key.{Key}
use Rattle.am_types.specs.declared.Key.TheVariants.{Name, Head, Elem}
use Rattle.am_types.specs.declared.Row.{Row}
use Rattle.am_types.specs.Order.{id_cmp}
use Rattle.am_types.specs.Same.{same_object}
use Rattle.am_types.specs.Places.{place_cmp}
use Rattle.am_laws.proofs.Ancestry.{Contains-filter}
use Rattle.am_types.proofs.Rising.{AboveNone, Rises}
use Rattle.am_laws.proofs.SameMembers.{NoRepeat}
use Rattle.am_histories.specs.Rebuilt.{slot_of}
use Rattle.am_histories.specs.Walks.{Insertion, in_order}
use Rattle.am_histories.specs.RowOrder.{row_place, row_insertion, is_insertion_into, row_insertions, may_open}
use Rattle.am_histories.proofs.Contained.{Contains-map}
use Rattle.am_histories.proofs.PlaceOrder.{place_total}
use Rattle.am_histories.proofs.Tests.{same_object_itself}

abbrev pub ids_of : List Insertion → List OpId
ids_of E = map (λ (x : Insertion). x.id) E

-- no later row has the id
abbrev pub ApartRows : List Row → Type 0
ApartRows [] = ⊤
ApartRows (r ∷ t) = ((y : Row) → Contains t y → r.id ≡ y.id → ⊥) × ApartRows t

-- the element e of the row x was inserted by a row of t, which is x or has a lesser id
pub record Opened (t : List Row) (x : Row) (e : OpId) : Type 0 where
  pub by : Row
  pub is_among : Contains t by
  pub inserts : by.insert ≡ true
  pub object : by.obj ≡ x.obj
  pub has_id : by.id ≡ e
  pub first : (by ≡ x) ⊎ (id_cmp by.id x.id ≡ Less)

pub record Known (es : ObjId → List OpId) (t : List Row) : Type 0 where
  pub apart : ApartRows t
  pub opened : (x : Row) → Contains t x → (e : OpId) → slot_of x ≡ Elem e → Opened t x e
  pub no_head : (x : Row) → Contains t x → slot_of x ≡ Head → ⊥
  pub elements : (o : ObjId) → IsPermutation (ids_of (row_insertions o t)) (es o)
  pub once : (o : ObjId) → NoRepeat (es o)
  pub told : (o : ObjId) → (in_order (row_insertions o t) ≡ true) ↔ (ids_of (row_insertions o t) ≡ es o)

abbrev pub row_cmp : (ObjId → List OpId) → Row → Row → Ordering
row_cmp es = on row_place (place_cmp es)

pub row_total : (es : ObjId → List OpId) → IsTotalOrder (row_cmp es)
row_total es = on_total row_place (place_total es)

-- ---- slots

pub slot-inserts : (x : Row) → x.insert ≡ true → slot_of x ≡ Elem x.id
slot-inserts x e = simp e refl

pub slot-not : (x : Row) → x.insert ≡ false → slot_of x ≡ x.key
slot-not x e = simp e refl

abbrev pub elem_of : OpId → Key → OpId
elem_of d (Name n) = d
elem_of d Head = d
elem_of d (Elem i) = i

pub same_elem : (a b : OpId) → Elem a ≡ Elem b → a ≡ b
same_elem a b e = ap (elem_of a) e

-- what may open the slot of an element is its insertion
pub opens_element : (x : Row) (e : OpId) → may_open x ≡ true → slot_of x ≡ Elem e → (x.insert ≡ true) × (x.id ≡ e)
opens_element x e m s = elim (cases_Bool x.insert) [
  | inl i ↦ (i, same_elem x.id e (sym (slot-inserts x i) ∙ s))
  | inr i ↦ let k : x.key ≡ Elem e = sym (slot-not x i) ∙ s in absurd (both_ways false refl (simp (i, k) at m))
]

-- ---- insertions

pub insertions-in : (o : ObjId) (t : List Row) (y : Row) → Contains t y → y.insert ≡ true → y.obj ≡ o → Contains (ids_of (row_insertions o t)) y.id
insertions-in o t y c i e =
    let tests : is_insertion_into o y ≡ true = and_from _ _ i (subst (λ p. same_object y.obj p ≡ true) e (same_object_itself y.obj)) in
    Contains-map (λ (x : Insertion). x.id) (row_insertions o t) (row_insertion y) (Contains-map row_insertion (filter (is_insertion_into o) t) y (Contains-filter (is_insertion_into o) t y c tests))

pub insertions-split : (o : ObjId) (B rest : List Row) (r : Row) → r.insert ≡ true → r.obj ≡ o → ids_of (row_insertions o (B ++ r ∷ rest)) ≡ ids_of (row_insertions o B) ++ r.id ∷ ids_of (row_insertions o rest)
insertions-split o B rest r i e =
    let tests : is_insertion_into o r ≡ true = and_from _ _ i (subst (λ p. same_object r.obj p ≡ true) e (same_object_itself r.obj)) in
    let first : filter (is_insertion_into o) (r ∷ rest) ≡ r ∷ filter (is_insertion_into o) rest = simp tests refl in
    ap (λ l. ids_of (map row_insertion l)) (filter-append (is_insertion_into o) B (r ∷ rest) ∙ ap (λ l. filter (is_insertion_into o) B ++ l) first)
    ∙ ap ids_of (map-append row_insertion (filter (is_insertion_into o) B) (r ∷ filter (is_insertion_into o) rest))
    ∙ map-append (λ (x : Insertion). x.id) (row_insertions o B) (row_insertion r ∷ row_insertions o rest)

-- ---- lists in which each is not above the next

module _ {X : Type 0} {R : X → X → Ordering} (total : IsTotalOrder R) where
  abbrev pub Adjacent : X → List X → Type 0
  Adjacent x [] = ⊤
  Adjacent x (y ∷ ys) = (is_gt (R x y) ≡ false) × Adjacent y ys

  under : (x y : X) (zs : List X) → is_gt (R x y) ≡ false → AboveNone total y zs → AboveNone total x zs
  under x y [] h a = tt
  under x y (z ∷ zs) h a = (upto total x y z h a.0, under x y zs h a.1)

  pub rises_from_adjacent : (x : X) (ys : List X) → Adjacent x ys → AboveNone total x ys × Rises total ys
  rises_from_adjacent x [] a = (tt, tt)
  rises_from_adjacent x (y ∷ ys) a =
      let r = rises_from_adjacent y ys a.1 in
      ((a.0, under x y ys a.0 r.0), r)
