-- Which comes first in the walk: objects, names, values, insertions.
use Rattle.std.proofs.Common.{ℕ, ◌≡◌, List, [], Bool, true, false, refl, sym, ap, ◌∙◌}
use Rattle.std.specs.Cmp.{IsTotalOrder}
use Rattle.std.specs.Ordering.{is_gt, nat_cmp, ordering_then}
use Rattle.std.specs.declared.cmp.Ordering.{Ordering}
use Rattle.std.specs.declared.cmp.Ordering.TheVariants.{Less, Equal, Greater}
use Rattle.std.proofs.lemmas.Cmp.{alike_right, nat_cmp_total, nat_list_cmp_total, on_total, then_total, tied_itself}
use Rattle.am_types.specs.declared.OpId.{OpId}
use Rattle.am_types.specs.declared.ObjId.{ObjId}
use Rattle.am_types.specs.declared.Key.{Key}
use Rattle.am_types.specs.declared.Key.TheVariants.{Name, Elem}
use Rattle.am_types.specs.declared.Row.{Row}
use Rattle.am_types.specs.Order.{bytes_cmp, id_cmp, object_cmp}
use Rattle.am_types.specs.Operations.{Operation}
use Rattle.am_types.proofs.Orders.{id_total}
use Rattle.am_merge.specs.Walk.{Spot, lane_of, name_in, rising_id, falling_id, falling_cmp, spot_cmp, is_next}
use Rattle.am_merge.proofs.Places.{object_total}

-- ---- the order is total

pub falling_total : IsTotalOrder falling_cmp
falling_total = record {
  antisymm = λ x y. id_total.antisymm y x;
  trans = λ x y z p q. id_total.trans z y x q p;
  congr = λ x y z e. sym (alike_right id_total y x z e);
}

pub spot_total : IsTotalOrder spot_cmp
spot_total =
    then_total (on_total (λ (s : Spot). s.obj) object_total)
    (then_total (on_total (λ (s : Spot). lane_of s.insert s.key) nat_cmp_total)
    (then_total (on_total (λ (s : Spot). name_in s.key) nat_list_cmp_total)
    (then_total (on_total (λ (s : Spot). rising_id s.insert s.id) id_total) (on_total (λ (s : Spot). falling_id s.insert s.id) falling_total))))

-- ---- one object before the other

pub object_before : (r : Row) (y : Operation) → object_cmp r.obj y.op.obj ≡ Less → is_next y r ≡ false
object_before r y e = rw e refl

pub object_after : (r : Row) (y : Operation) → object_cmp r.obj y.op.obj ≡ Greater → is_next y r ≡ true
object_after r y e = rw e refl

-- ---- in one object

-- the row with the first three, and the operation with the last three
abbrev in_object : Bool → Key → OpId → Bool → Key → OpId → Ordering
in_object b k i c l j =
    ordering_then (nat_cmp (lane_of b k) (lane_of c l))
    (ordering_then (bytes_cmp (name_in k) (name_in l)) (ordering_then (id_cmp (rising_id b i) (rising_id c j)) (id_cmp (falling_id c j) (falling_id b i))))

then_equal : (r : Ordering) → ordering_then r Equal ≡ r
then_equal Less = refl
then_equal Equal = refl
then_equal Greater = refl

module _ (o : ObjId) (r : Row) (y : Operation) (er : r.obj ≡ o) (ey : y.op.obj ≡ o) where
  tells : is_next y r ≡ is_gt (in_object r.insert r.key r.id y.op.insert y.op.key y.id)
  tells =
      let rest : Ordering = in_object r.insert r.key r.id y.op.insert y.op.key y.id in
      (λ i. is_gt (ordering_then (object_cmp (er i) (ey i)) rest)) ∙ ap (λ q. is_gt (ordering_then q rest)) (tied_itself object_total o)

  told : (b : Bool) (k : Key) (c : Bool) (l : Key) → r.insert ≡ b → r.key ≡ k → y.op.insert ≡ c → y.op.key ≡ l → is_next y r ≡ is_gt (in_object b k r.id c l y.id)
  told b k c l eb ek ec el = tells ∙ (λ i. is_gt (in_object (eb i) (ek i) r.id (ec i) (el i) y.id))

  pub value_before_insertion : (e : OpId) → r.insert ≡ false → r.key ≡ Elem e → y.op.insert ≡ true → is_next y r ≡ false
  value_before_insertion e eb ek ec = told false (Elem e) true y.op.key eb ek ec refl

  pub value_after_none : (e : OpId) → r.insert ≡ true → y.op.insert ≡ false → y.op.key ≡ Elem e → is_next y r ≡ true
  value_after_none e eb ec el = told true r.key false (Elem e) eb refl ec el

  pub values_by_id : (e : OpId) → r.insert ≡ false → r.key ≡ Elem e → y.op.insert ≡ false → y.op.key ≡ Elem e → is_next y r ≡ is_gt (id_cmp r.id y.id)
  values_by_id e eb ek ec el = told false (Elem e) false (Elem e) eb ek ec el ∙ ap is_gt (then_equal (id_cmp r.id y.id))

  pub insertions_by_id : r.insert ≡ true → name_in r.key ≡ [] → y.op.insert ≡ true → name_in y.op.key ≡ [] → is_next y r ≡ is_gt (id_cmp y.id r.id)
  insertions_by_id eb ek ec el =
      told true r.key true y.op.key eb refl ec refl
      ∙ (λ i. is_gt (ordering_then (bytes_cmp (ek i) (el i)) (id_cmp y.id r.id)))

  -- names
  pub name_before_insertion : (n : List ℕ) → r.insert ≡ false → r.key ≡ Name n → y.op.insert ≡ true → is_next y r ≡ false
  name_before_insertion n eb ek ec = told false (Name n) true y.op.key eb ek ec refl

  pub name_first : (n : List ℕ) → r.insert ≡ true → y.op.insert ≡ false → y.op.key ≡ Name n → is_next y r ≡ true
  name_first n eb ec el = told true r.key false (Name n) eb refl ec el

  pub names_by_id : (n : List ℕ) → r.insert ≡ false → r.key ≡ Name n → y.op.insert ≡ false → y.op.key ≡ Name n → is_next y r ≡ is_gt (id_cmp r.id y.id)
  names_by_id n eb ek ec el =
      told false (Name n) false (Name n) eb ek ec el
      ∙ ap (λ q. is_gt (ordering_then q (ordering_then (id_cmp r.id y.id) Equal))) (tied_itself nat_list_cmp_total n)
      ∙ ap is_gt (then_equal (id_cmp r.id y.id))

  pub lesser_name : (m n : List ℕ) → bytes_cmp m n ≡ Less → r.insert ≡ false → r.key ≡ Name m → y.op.insert ≡ false → y.op.key ≡ Name n → is_next y r ≡ false
  lesser_name m n e eb ek ec el = told false (Name m) false (Name n) eb ek ec el ∙ ap (λ q. is_gt (ordering_then q (ordering_then (id_cmp r.id y.id) Equal))) e

  pub greater_name : (m n : List ℕ) → bytes_cmp m n ≡ Greater → r.insert ≡ false → r.key ≡ Name m → y.op.insert ≡ false → y.op.key ≡ Name n → is_next y r ≡ true
  greater_name m n e eb ek ec el = told false (Name m) false (Name n) eb ek ec el ∙ ap (λ q. is_gt (ordering_then q (ordering_then (id_cmp r.id y.id) Equal))) e
