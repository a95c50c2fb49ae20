-- What starts is in the order of its keys, where these differ; and numbers are in the order of their halves.
use Rattle.std.proofs.Common.{ℕ, ◌≡◌, ◌+◌, ◌*◌, ◌/◌, ◌%◌, ◌^◌, ◌<◌, ◌≤◌, min, Bool, true, false, List, [], refl, sym, ap, ◌∙◌, subst, inl, inr, arith}
use Rattle.std.proofs.Math.Nat.{div-mul-le_self}
use Rattle.std.proofs.lemmas.Nat.{div-add-mod', div_below, le-div}
use Rattle.std.specs.Cmp.{nat_cmp_is, ranks}
use Rattle.std.specs.Ordering.{MatchOrdering, nat_cmp, ordering_reverse, ordering_then}
use Rattle.std.specs.declared.cmp.Ordering.{Ordering}
use Rattle.std.specs.declared.cmp.Ordering.TheVariants.{Less, Equal, Greater}
use Rattle.std.proofs.lemmas.Bool.{both_ways, cases_lt}
use Rattle.std.proofs.lemmas.Cmp.{tied_itself}
use Rattle.am_types.specs.Bytes.{IsBytes}
use Rattle.am_types.specs.declared.Key.{Key}
use Rattle.am_types.specs.declared.Key.TheVariants.{Name, Head, Elem}
use Rattle.am_types.specs.declared.OpId.{OpId}
use Rattle.am_types.specs.declared.ObjId.{ObjId}
use Rattle.am_types.specs.declared.ObjId.TheVariants.{Root, Made}
use Rattle.am_types.specs.Order.{bytes_cmp, id_cmp, object_cmp}
use Rattle.am_types.specs.Operations.{Operation}
use Rattle.am_types.proofs.Orders.{id_total}
use Rattle.am_merge.specs.Fronts.{front_of, is_root}
use Rattle.am_merge.specs.Starts.{actor_in, by_start, key_at, start_key, turn_cmp}
use Rattle.am_merge.specs.Walk.{lane_of, name_in, spot_of}
use Rattle.am_merge.proofs.Fronts.{less, lower}
use Rattle.am_merge.proofs.HasCounter.{counter_decides}
use Rattle.am_merge.proofs.Starting.{by_start_total}

-- the greater quotient has the greater dividend
quotient_less : (m n d : ℕ) → 0 < d → m / d < n / d → m < n
quotient_less m n d pos l = elim (cases_lt m n) [
  | inl p ↦ p
  | inr q ↦ (
      let low : n / d * d ≤ n = div-mul-le_self n d in
      let up : n / d ≤ m / d = le-div (n / d) m d pos (omega arith) in
      absurd (omega arith))
]

pub same_number : (a b : ℕ) → nat_cmp a b ≡ Equal → a ≡ b
same_number a b e = subst (λ r. MatchOrdering r (a < b) (a ≡ b) (b < a)) e (ranks a b)

-- ---- keys

lane_least : (b : Bool) (k : Key) → lane_of b k ≤ 2
lane_least true k = omega arith
lane_least false (Name n) = omega arith
lane_least false Head = omega arith
lane_least false (Elem e) = omega arith

front_fits : (xs : List ℕ) → IsBytes xs → front_of xs < 2 ^ 128
front_fits xs bx = lower 0 1 16 xs [] (omega arith) bx

-- its first 62 bits
top_fits : (xs : List ℕ) → IsBytes xs → front_of xs / 2 ^ 66 < 2 ^ 62
top_fits xs bx = div_below (front_of xs) (2 ^ 66) (2 ^ 62) (omega arith) (front_fits xs bx)

in_root : (l m : ℕ) (xs ys : List ℕ) (turn : Ordering) → IsBytes xs → IsBytes ys
    → l * 2 ^ 62 + front_of xs / 2 ^ 66 < m * 2 ^ 62 + front_of ys / 2 ^ 66
    → ordering_then (nat_cmp l m) (ordering_then (bytes_cmp xs ys) turn) ≡ Less
in_root l m xs ys turn bx by h =
    let x = top_fits xs bx in
    let y = top_fits ys by in
    elim (cases_lt l m) [
      | inl p ↦ ap (λ r. ordering_then r (ordering_then (bytes_cmp xs ys) turn)) (sym (nat_cmp_is l m Less p))
      | inr q ↦ (elim (cases_lt m l) [
        | inl p ↦ absurd (omega arith)
        | inr r ↦ (
            let e : l ≡ m = omega arith in
            let f : front_of xs / 2 ^ 66 < front_of ys / 2 ^ 66 = omega arith in
            ap (λ r. ordering_then r (ordering_then (bytes_cmp xs ys) turn)) (sym (nat_cmp_is l m Equal e))
            ∙ ap (λ r. ordering_then r turn) (less 0 16 xs ys bx by (quotient_less (front_of xs) (front_of ys) (2 ^ 66) (omega arith) f)))
      ])
    ]

-- the root is before all other objects, and of these the lesser counter is first
by_object : (o p : ObjId) (l m : ℕ) (xs ys : List ℕ) (turn : Ordering) → m ≤ 2 → IsBytes xs → IsBytes ys
    → start_key o l (front_of xs) < start_key p m (front_of ys)
    → ordering_then (object_cmp o p) (ordering_then (nat_cmp l m) (ordering_then (bytes_cmp xs ys) turn)) ≡ Less
by_object Root Root l m xs ys turn few bx by h = in_root l m xs ys turn bx by h
by_object Root (Made j) l m xs ys turn few bx by h = refl
by_object (Made i) Root l m xs ys turn few bx by h = let y = top_fits ys by in absurd (omega arith)
by_object (Made i) (Made j) l m xs ys turn few bx by h =
    ap (λ r. ordering_then r (ordering_then (nat_cmp l m) (ordering_then (bytes_cmp xs ys) turn))) (counter_decides i j (omega arith))

pub key_decides : (x y : Operation) → IsBytes (name_in x.op.key) → IsBytes (name_in y.op.key) → key_at x < key_at y → by_start x y ≡ Less
key_decides x y bx by h =
    by_object x.op.obj y.op.obj (lane_of x.op.insert x.op.key) (lane_of y.op.insert y.op.key) (name_in x.op.key) (name_in y.op.key) (turn_cmp (spot_of x) (spot_of y))
    (lane_least y.op.insert y.op.key) bx by h

pub key_decides_after : (x y : Operation) → IsBytes (name_in x.op.key) → IsBytes (name_in y.op.key) → key_at y < key_at x → by_start x y ≡ Greater
key_decides_after x y bx by h = by_start_total.antisymm x y ∙ ap ordering_reverse (key_decides y x by bx h)

-- one key in the root is one lane
tied : (o p : ObjId) (l m : ℕ) (xs ys : List ℕ) (turn : Ordering) → l ≤ 2 → IsBytes xs → IsBytes ys
    → is_root o ≡ true → start_key o l (front_of xs) ≡ start_key p m (front_of ys)
    → ordering_then (object_cmp o p) (ordering_then (nat_cmp l m) (ordering_then (bytes_cmp xs ys) turn)) ≡ ordering_then (bytes_cmp xs ys) turn
tied Root Root l m xs ys turn few bx by r h =
    let x = top_fits xs bx in
    let y = top_fits ys by in
    ap (λ r. ordering_then r (ordering_then (bytes_cmp xs ys) turn)) (sym (nat_cmp_is l m Equal (omega arith)))
tied Root (Made j) l m xs ys turn few bx by r h = let x = top_fits xs bx in absurd (omega arith)
tied (Made i) p l m xs ys turn few bx by r h = cc

pub tied_in_root : (x y : Operation) → IsBytes (name_in x.op.key) → IsBytes (name_in y.op.key) → is_root x.op.obj ≡ true → key_at x ≡ key_at y
    → by_start x y ≡ ordering_then (bytes_cmp (name_in x.op.key) (name_in y.op.key)) (turn_cmp (spot_of x) (spot_of y))
tied_in_root x y bx by r h =
    tied x.op.obj y.op.obj (lane_of x.op.insert x.op.key) (lane_of y.op.insert y.op.key) (name_in x.op.key) (name_in y.op.key) (turn_cmp (spot_of x) (spot_of y))
    (lane_least x.op.insert x.op.key) bx by r h

-- one key below the greatest is one counter
one_counter : (i j : OpId) → min i.counter (2 ^ 61) ≡ min j.counter (2 ^ 61) → min i.counter (2 ^ 61) < 2 ^ 61 → i.counter ≡ j.counter
one_counter i j h low = omega arith

one_object : (o p : ObjId) (l m f g : ℕ) → is_root o ≡ false → is_root p ≡ false → start_key o l f ≡ start_key p m g → start_key o l f < 3 * 2 ^ 62 + 2 ^ 61
    → actor_in o ≡ actor_in p → object_cmp o p ≡ Equal
one_object Root p l m f g r s h low e = absurd (both_ways true r refl)
one_object (Made i) Root l m f g r s h low e = absurd (both_ways true s refl)
one_object (Made i) (Made j) l m f g r s h low e =
    let c : i.counter ≡ j.counter = one_counter i j (omega arith) (omega arith) in
    let same : i ≡ j = λ k. record { counter = c k; actor = e k } in
    ap (id_cmp i) (sym same) ∙ tied_itself id_total i

pub tied_in_object : (x y : Operation) → is_root x.op.obj ≡ false → is_root y.op.obj ≡ false → key_at x ≡ key_at y → key_at x < 3 * 2 ^ 62 + 2 ^ 61
    → actor_in x.op.obj ≡ actor_in y.op.obj → object_cmp x.op.obj y.op.obj ≡ Equal
tied_in_object x y r s h low e =
    one_object x.op.obj y.op.obj (lane_of x.op.insert x.op.key) (lane_of y.op.insert y.op.key) (front_of (name_in x.op.key)) (front_of (name_in y.op.key)) r s h low e

-- ---- numbers in two halves, compared by the upper ones and then by the lower ones

pub upper_less : (a b d m n : ℕ) → 0 < d → m ≡ a / d → n ≡ b / d → nat_cmp m n ≡ Less → nat_cmp a b ≡ Less
upper_less a b d m n pos em en e =
    let l : m < n = subst (λ r. MatchOrdering r (m < n) (m ≡ n) (n < m)) e (ranks m n) in
    sym (nat_cmp_is a b Less (quotient_less a b d pos (subst (λ k. k < b / d) em (subst (λ k. m < k) en l))))

pub upper_greater : (a b d m n : ℕ) → 0 < d → m ≡ a / d → n ≡ b / d → nat_cmp m n ≡ Greater → nat_cmp a b ≡ Greater
upper_greater a b d m n pos em en e =
    let l : n < m = subst (λ r. MatchOrdering r (m < n) (m ≡ n) (n < m)) e (ranks m n) in
    sym (nat_cmp_is a b Greater (quotient_less b a d pos (subst (λ k. k < a / d) en (subst (λ k. n < k) em l))))

pub lower_decides : (a b d m n p q : ℕ) → m ≡ a / d → n ≡ b / d → nat_cmp m n ≡ Equal → p ≡ a % d → q ≡ b % d → nat_cmp p q ≡ nat_cmp a b
lower_decides a b d m n p q em en e ep eq =
    let same = same_number m n e in
    let x : m * d + p ≡ a = (λ i. em i * d + ep i) ∙ div-add-mod' a d in
    let y : m * d + q ≡ b = (λ i. same i * d + q) ∙ (λ i. en i * d + eq i) ∙ div-add-mod' b d in
    shifted (m * d) p q ∙ (λ i. nat_cmp (x i) (y i))
  where
    shifted : (s p q : ℕ) → nat_cmp p q ≡ nat_cmp (s + p) (s + q)
    shifted s p q = elim (cases_lt p q) [
      | inl l ↦ sym (nat_cmp_is p q Less l) ∙ nat_cmp_is (s + p) (s + q) Less (omega arith)
      | inr g ↦ (elim (cases_lt q p) [
        | inl l ↦ sym (nat_cmp_is p q Greater l) ∙ nat_cmp_is (s + p) (s + q) Greater (omega arith)
        | inr h ↦ sym (nat_cmp_is p q Equal (omega arith)) ∙ nat_cmp_is (s + p) (s + q) Equal (omega arith)
      ])
    ]
