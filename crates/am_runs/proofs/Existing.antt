-- Each list of items has a canonical spelling, and only that.
use Rattle.std.proofs.Common.{◌≡◌, ◌≢◌, ℕ, suc, ◌^◌, ◌<◌, ◌≤◌, List, [], ◌∷◌, length, Option, Some, None, true, false, cond, refl, sym, ap, subst, arith, length-append, inl, inr, ◌↔◌}
use Rattle.std.specs.Option.{IfSome}
use Rattle.std.specs.List.{flat_map, AllByRecursion}
use Rattle.std.specs.Str.{bytes_eq}
use Rattle.std.proofs.lemmas.List.{length-replicate, length-map}
use Rattle.std.proofs.lemmas.Slice.Eq.{bytes_eq-Decides}
use Rattle.am_runs.specs.Items.{IsItem}
use Rattle.am_runs.specs.Runs.{Run, Repeat, Literal, Nulls, expansion, bytes_of, IsRun}
use Rattle.am_runs.specs.Canonical.{NoEqualNeighbours, IsTight, MayFollow, AreCanonical, AreNulls, Canon, and_literal, item_first, null_first, grouped, are_nulls, canonical_bytes}
use Rattle.am_runs.proofs.Grouping.{again, twice, before_repeat, before_literal, Canon-one}

abbrev Shaped : (List ℕ → Option ℕ) → Run → Type 0
Shaped end (Repeat n item) = (2 ≤ n) × IsItem end item
Shaped end (Literal items) = (1 ≤ length items) × AllByRecursion (IsItem end) items × NoEqualNeighbours items
Shaped end (Nulls k) = 1 ≤ k

abbrev Follows : Run → List Run → Type 0
Follows r [] = Unit {0}
Follows r (s ∷ runs) = MayFollow r s

abbrev Linked : List Run → Type 0
Linked [] = Unit {0}
Linked (r ∷ runs) = Follows r runs × Linked runs

record Good (end : List ℕ → Option ℕ) (runs : List Run) (list : List (Option (List ℕ))) : Type 0 where
  shaped : AllByRecursion (Shaped end) runs
  order : Linked runs
  list_is : flat_map expansion runs ≡ list

null_good : (end : List ℕ → Option ℕ) (runs : List Run) (list : List (Option (List ℕ))) → Good end runs list → Good end (null_first runs) (None ∷ list)
null_good end [] list g = record { shaped = (omega arith, tt); order = (tt, tt); list_is = ap (λ l. None ∷ l) g.list_is }
null_good end (Repeat n y ∷ runs) list g = record { shaped = (omega arith, g.shaped); order = ((λ e. (cc), λ h. h), g.order); list_is = ap (λ l. None ∷ l) g.list_is }
null_good end (Literal [] ∷ runs) list g = absurd (omega (arith, g.shaped.0.0))
null_good end (Literal (y ∷ ys) ∷ runs) list g = record { shaped = (omega arith, g.shaped); order = ((λ e. (cc), λ h. h), g.order); list_is = ap (λ l. None ∷ l) g.list_is }
null_good end (Nulls k ∷ runs) list g = record { shaped = (omega arith, g.shaped.1); order = (nulls_follow k runs g.order.0, g.order.1); list_is = ap (λ l. None ∷ l) g.list_is }
  where
    nulls_follow : (k : ℕ) (runs : List Run) → Follows (Nulls k) runs → Follows (Nulls (suc k)) runs
    nulls_follow k [] h = tt
    nulls_follow k (s ∷ runs) h = h

by_bytes : {P : Type 0} (x y : List ℕ) → (x ≡ y → P) → (x ≢ y → P) → P
by_bytes {P = P} x y f g = elim (bytes_eq x y) as (λ b. bytes_eq x y ≡ b → P) [
  | true ↦ λ e. f ((bytes_eq-Decides x y).0 e)
  | false ↦ λ e. g (λ h. let t = (bytes_eq-Decides x y).1 h in cc)
] refl

-- a literal of one in front
one_good : (end : List ℕ → Option ℕ) (x : List ℕ) (runs : List Run) (list : List (Option (List ℕ))) → IsItem end x → Follows (Literal (x ∷ [])) runs → Good end runs list → Good end (Literal (x ∷ []) ∷ runs) (Some x ∷ list)
one_good end x runs list i f g = record { shaped = ((omega arith, (i, tt), tt), g.shaped); order = (f, g.order); list_is = ap (λ l. Some x ∷ l) g.list_is }

repeat_follow : (m n : ℕ) (y : List ℕ) (runs : List Run) → Follows (Repeat m y) runs → Follows (Repeat n y) runs
repeat_follow m n y [] h = tt
repeat_follow m n y (s ∷ runs) h = h

more_good : (end : List ℕ → Option ℕ) (n : ℕ) (y : List ℕ) (runs : List Run) (list : List (Option (List ℕ))) → Good end (Repeat n y ∷ runs) list → Good end (Repeat (suc n) y ∷ runs) (Some y ∷ list)
more_good end n y runs list g = record { shaped = ((omega (arith, g.shaped.0.0), g.shaped.0.1), g.shaped.1); order = (repeat_follow n (suc n) y runs g.order.0, g.order.1); list_is = ap (λ l. Some y ∷ l) g.list_is }

from_literal : (y : List ℕ) (runs : List Run) → Follows (Literal (y ∷ [])) runs → Follows (Repeat 2 y) runs
from_literal y [] h = tt
from_literal y (s ∷ runs) h = (h.0, λ a. a)

longer_follow : (y z : List ℕ) (zs : List (List ℕ)) (runs : List Run) → Follows (Literal (y ∷ z ∷ zs)) runs → Follows (Literal (z ∷ zs)) runs
longer_follow y z zs [] h = tt
longer_follow y z zs (Repeat n x ∷ runs) h = h
longer_follow y z zs (Literal xs ∷ runs) h = h
longer_follow y z zs (Nulls k ∷ runs) h = h

shorter_follow : (y z : List ℕ) (zs : List (List ℕ)) (runs : List Run) → Follows (Literal (z ∷ zs)) runs → Follows (Literal (y ∷ z ∷ zs)) runs
shorter_follow y z zs [] h = tt
shorter_follow y z zs (Repeat n x ∷ runs) h = h
shorter_follow y z zs (Literal xs ∷ runs) h = h
shorter_follow y z zs (Nulls k ∷ runs) h = h

pair_good : (end : List ℕ → Option ℕ) (y : List ℕ) (ys : List (List ℕ)) (runs : List Run) (list : List (Option (List ℕ))) → Good end (Literal (y ∷ ys) ∷ runs) list → Good end (Repeat 2 y ∷ and_literal ys runs) (Some y ∷ list)
pair_good end y [] runs list g = record { shaped = ((omega arith, g.shaped.0.1.0), g.shaped.1); order = (from_literal y runs g.order.0, g.order.1); list_is = ap (λ l. Some y ∷ l) g.list_is }
pair_good end y (z ∷ zs) runs list g = record {
  shaped = ((omega arith, g.shaped.0.1.0), ((omega arith, g.shaped.0.1.1, g.shaped.0.2.1), g.shaped.1));
  order = (((λ e. g.shaped.0.2.0 (let q : y ≡ z = cc in q)), λ a. a), (longer_follow y z zs runs g.order.0, g.order.1));
  list_is = ap (λ l. Some y ∷ l) g.list_is;
}

item_good : (end : List ℕ → Option ℕ) (x : List ℕ) (runs : List Run) (list : List (Option (List ℕ))) → IsItem end x → Good end runs list → Good end (item_first x runs) (Some x ∷ list)
item_good end x [] list i g = one_good end x [] list i tt g
item_good end x (Repeat n y ∷ runs) list i g = by_bytes x y
    (λ e. subst (λ z. Good end (item_first z (Repeat n y ∷ runs)) (Some z ∷ list)) (sym e)
    (subst (λ rs. Good end rs (Some y ∷ list)) (sym (again n y runs)) (more_good end n y runs list g)))
    (λ d. subst (λ rs. Good end rs (Some x ∷ list)) (sym (before_repeat n x y runs d)) (one_good end x (Repeat n y ∷ runs) list i ((λ e. d (let q : x ≡ y = cc in q)), λ a. a) g))
item_good end x (Literal [] ∷ runs) list i g = absurd (omega (arith, g.shaped.0.0))
item_good end x (Literal (y ∷ ys) ∷ runs) list i g = by_bytes x y
    (λ e. subst (λ z. Good end (item_first z (Literal (y ∷ ys) ∷ runs)) (Some z ∷ list)) (sym e)
    (subst (λ rs. Good end rs (Some y ∷ list)) (sym (twice y ys runs)) (pair_good end y ys runs list g)))
    (λ d. subst (λ rs. Good end rs (Some x ∷ list)) (sym (before_literal x y ys runs d)) (record {
      shaped = ((omega arith, (i, g.shaped.0.1), (d, g.shaped.0.2)), g.shaped.1);
      order = (shorter_follow x y ys runs g.order.0, g.order.1);
      list_is = ap (λ l. Some x ∷ l) g.list_is;
    }))
item_good end x (Nulls k ∷ runs) list i g = one_good end x (Nulls k ∷ runs) list i ((λ e. (cc)), λ a. a) g

grouped_good : (end : List ℕ → Option ℕ) (list : List (Option (List ℕ))) → AllByRecursion (λ entry. IfSome entry (IsItem end)) list → Good end (grouped list) list
grouped_good end [] h = record { shaped = tt; order = tt; list_is = refl }
grouped_good end (None ∷ list) h = null_good end (grouped list) list (grouped_good end list h.1)
grouped_good end (Some x ∷ list) h = item_good end x (grouped list) list h.0 (grouped_good end list h.1)

tight : (end : List ℕ → Option ℕ) (r : Run) → Shaped end r → IsTight r
tight end (Repeat n item) h = h.0
tight end (Literal items) h = h.2
tight end (Nulls k) h = tt

canonical : (end : List ℕ → Option ℕ) (runs : List Run) → AllByRecursion (Shaped end) runs → Linked runs → AreCanonical runs
canonical end [] s l = tt
canonical end (r ∷ []) s l = tight end r s.0
canonical end (r ∷ t ∷ runs) s l = (tight end r s.0, l.0, canonical end (t ∷ runs) s.1 l.1)

fits : (end : List ℕ → Option ℕ) (r : Run) → Shaped end r → length (expansion r) < 2 ^ 63 → IsRun end r
fits end (Repeat n item) s h = (omega (arith, s.0), omega (arith, length-replicate n (Some item)), s.1)
fits end (Literal items) s h = (s.0, omega (arith, length-map items Some), s.1)
fits end (Nulls k) s h = (s, omega (arith, length-replicate {A = Option (List ℕ)} k None))

all_fit : (end : List ℕ → Option ℕ) (runs : List Run) → AllByRecursion (Shaped end) runs → length (flat_map expansion runs) < 2 ^ 63 → AllByRecursion (IsRun end) runs
all_fit end [] s h = tt
all_fit end (r ∷ runs) s h = (
  fits end r s.0 (omega (arith, length-append (expansion r) (flat_map expansion runs))),
  all_fit end runs s.1 (omega (arith, length-append (expansion r) (flat_map expansion runs))),
)

are_nulls_true : (list : List (Option (List ℕ))) → are_nulls list ≡ true → AreNulls list
are_nulls_true [] e = tt
are_nulls_true (None ∷ list) e = (refl, are_nulls_true list e)
are_nulls_true (Some x ∷ list) e = absurd (cc)

are_nulls_false : (list : List (Option (List ℕ))) → are_nulls list ≡ false → ¬ AreNulls list
are_nulls_false [] e h = cc
are_nulls_false (None ∷ list) e h = are_nulls_false list e h.1
are_nulls_false (Some x ∷ list) e h = let q = h.0 in cc

-- a list of items has a canonical spelling
pub canonical_bytes-Canon : (end : List ℕ → Option ℕ) (list : List (Option (List ℕ))) → AllByRecursion (λ entry. IfSome entry (IsItem end)) list → length list < 2 ^ 63 → Canon end (canonical_bytes list) list
canonical_bytes-Canon end list h l = elim (are_nulls list) as (λ b. are_nulls list ≡ b → Canon end (cond b [] (flat_map bytes_of (grouped list))) list) [
  | true ↦ λ e. inl (refl, are_nulls_true list e)
  | false ↦ λ e. let g = grouped_good end list h in
      inr (are_nulls_false list e, (grouped list, all_fit end (grouped list) g.shaped (let n = ap length g.list_is in omega arith), canonical end (grouped list) g.shaped g.order, refl, sym g.list_is))
]
    refl

-- exactly one
pub Canon_iff : (end : List ℕ → Option ℕ) (list : List (Option (List ℕ))) (bytes : List ℕ) → AllByRecursion (λ entry. IfSome entry (IsItem end)) list → length list < 2 ^ 63 → Canon end bytes list ↔ (bytes ≡ canonical_bytes list)
Canon_iff end list bytes h l = (
  (λ c. Canon-one end bytes (canonical_bytes list) list c (canonical_bytes-Canon end list h l)),
  (λ e. subst (λ b. Canon end b list) (sym e) (canonical_bytes-Canon end list h l)),
)
