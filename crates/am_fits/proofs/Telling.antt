-- What the clock and the facts tell is what the definition of good references asks.
use Rattle.std.proofs.Common.{ℕ, ◌≡◌, ◌<◌, ◌==◌, List, [], ◌∷◌, ◌++◌, length, get_or, take, Bool, true, false, not, ◌&&◌, ◌||◌, Some, None, refl, sym, ap, ◌∙◌, inl, inr, arith}
use Rattle.std.specs.List.{list_any, list_all, slice_get}
use Rattle.std.specs.Option.{option_map_or}
use Rattle.std.proofs.lemmas.List.Folds.{list_any-append}
use Rattle.std.proofs.lemmas.Option.{slice_get_cases, slice_get_within, get_or_from_slice_get}
use Rattle.am_types.specs.declared.OpId.{OpId}
use Rattle.am_types.specs.declared.ObjId.{ObjId}
use Rattle.am_types.specs.declared.ObjId.TheVariants.{Root, Made}
use Rattle.am_types.specs.declared.Key.{Key}
use Rattle.am_types.specs.declared.Key.TheVariants.{Name, Head, Elem}
use Rattle.am_types.specs.declared.Change.{Change}
use Rattle.am_types.specs.Actions as actions
use Rattle.am_laws.specs.Laws.{bad_at}
use Rattle.am_types.specs.Members.{Member, changes}
use Rattle.am_types.specs.Ancestors.{ancestors}
use Rattle.am_types.specs.Operations.{Operation, operations, all_operations, slot}
use Rattle.am_types.specs.References.{has_good_references, object_takes, element_known, pred_known, first_bad}
use Rattle.am_types.specs.Same.{same_id, same_object, same_key}
use Rattle.am_laws.proofs.FirstBad.{finds_first_bad}
use Rattle.am_laws.proofs.Listed.{Facts}
use Rattle.am_graph.specs.declared.reach.Reach.{Reach}
use Rattle.am_graph.specs.Clocks.{covers, IsClockOf}
use Rattle.am_graph.proofs.Covering.{covered, covering}
use Rattle.am_fits.specs.Facts.{Fact, fact_of, facts_of}
use Rattle.am_fits.specs.Told.{Telling, object_by, element_by, good_by, inserts, gives_to, ancestor_fact, own_fact, told, own, IsGoodAt, IsBadAt, IsFirstBad}
use Rattle.am_fits.proofs.KnownBy.{known_by}
use Rattle.am_fits.proofs.OwnOperations.{any_own, own_get, length-operations}

-- ---- by the operations themselves

abbrev any_of : List Operation → Telling
any_of S i p = list_any (λ x. same_id x.id i && p (fact_of x)) S

either_way : (a b : Bool) → (a || b) ≡ (b || a)
either_way true true = refl
either_way true false = refl
either_way false true = refl
either_way false false = refl

and_moved : (a b c : Bool) → ((a && b) && c) ≡ (a && (b && c))
and_moved true b c = refl
and_moved false b c = refl

any_agrees : {X : Type 0} (p q : X → Bool) → ((x : X) → p x ≡ q x) → (xs : List X) → list_any p xs ≡ list_any q xs
any_agrees p q h [] = refl
any_agrees p q h (x ∷ xs) = λ j. h x j || any_agrees p q h xs j

all_agree : {X : Type 0} (p q : X → Bool) → ((x : X) → p x ≡ q x) → (xs : List X) → list_all p xs ≡ list_all q xs
all_agree p q h [] = refl
all_agree p q h (x ∷ xs) = λ j. h x j && all_agree p q h xs j

object_any : (S : List Operation) (o : ObjId) (k : Key) → object_takes S o k ≡ object_by (any_of S) o k
object_any S Root k = refl
object_any S (Made i) k = refl

element_any : (S : List Operation) (o : ObjId) (k : Key) → element_known S o k ≡ element_by (any_of S) o k
element_any S o (Name n) = refl
element_any S o Head = refl
element_any S o (Elem e) = any_agrees _ (λ x. same_id x.id e && inserts o (fact_of x)) (λ x. and_moved (same_id x.id e) x.op.insert (same_object x.op.obj o)) S

pred_any : (S : List Operation) (x : Operation) (p : OpId) → pred_known S x p ≡ any_of S p (gives_to x.op.obj (slot x))
pred_any S x p = any_agrees _ (λ y. same_id y.id p && gives_to x.op.obj (slot x) (fact_of y))
    (λ y. let a = same_id y.id p in let b = not (y.op.action == actions.del) in let c = same_object y.op.obj x.op.obj in let d = same_key (slot y) (slot x) in
    ap (λ t. t && d) (and_moved a b c) ∙ and_moved a (b && c) d) S

good_any : (S : List Operation) (x : Operation) → has_good_references S x ≡ good_by (any_of S) x
good_any S x = λ j. object_any S x.op.obj x.op.key j && element_any S x.op.obj x.op.key j && all_agree (pred_known S x) (λ p. any_of S p (gives_to x.op.obj (slot x))) (pred_any S x) x.op.preds j

-- ---- two that tell the same

module _ (K L : Telling) (same : (i : OpId) (p : Fact → Bool) → K i p ≡ L i p) where
  object_same : (o : ObjId) (k : Key) → object_by K o k ≡ object_by L o k
  object_same Root k = refl
  object_same (Made i) k = same i _

  element_same : (o : ObjId) (k : Key) → element_by K o k ≡ element_by L o k
  element_same o (Name n) = refl
  element_same o Head = refl
  element_same o (Elem e) = same e (inserts o)

  good_same : (x : Operation) → good_by K x ≡ good_by L x
  good_same x = λ j. object_same x.op.obj x.op.key j && element_same x.op.obj x.op.key j && all_agree (λ p. K p (gives_to x.op.obj (slot x))) (λ p. L p (gives_to x.op.obj (slot x))) (λ p. same p (gives_to x.op.obj (slot x))) x.op.preds j

-- ---- what is told of a set

module _ (C : List Member) (is : Facts C) (c : Change) (clock : List (List ℕ × Reach)) (of : IsClockOf (ancestors C c.deps) clock) where
  abbrev known : List Operation
  known = all_operations (changes (ancestors C c.deps))

  abbrev fs : List (OpId × Fact)
  fs = facts_of (changes C)

  told_is : (k : ℕ) (i : OpId) (p : Fact → Bool) → any_of (known ++ take k (operations c)) i p ≡ told clock fs c k i p
  told_is k i p =
      list_any-append (λ x. same_id x.id i && p (fact_of x)) known (take k (operations c))
      ∙ (λ j. known_by C is c.deps (covers clock) (λ i t. covering (ancestors C c.deps) i (sym (of.covers i) ∙ t)) (λ i v. of.covers i ∙ covered (ancestors C c.deps) i v) i p j || any_own c k i p j)
      ∙ either_way (option_map_or p (ancestor_fact clock fs i) false) (option_map_or p (own_fact c k i) false)

  good_is : (k : ℕ) (x : Operation) → has_good_references (known ++ take k (operations c)) x ≡ good_by (told clock fs c k) x
  good_is k x = good_any (known ++ take k (operations c)) x ∙ good_same (any_of (known ++ take k (operations c))) (told clock fs c k) (told_is k) x

  at_is : (k : ℕ) (d : Operation) → k < length c.ops → has_good_references (known ++ take k (operations c)) (get_or (operations c) k d) ≡ good_by (told clock fs c k) (own c k (get_or c.ops k d.op))
  at_is k d l = ap (has_good_references (known ++ take k (operations c))) (own_get c k d d.op l) ∙ good_is k (own c k (get_or c.ops k d.op))

  bad_is : (k : ℕ) (x : Operation) → slice_get (operations c) k ≡ Some x → bad_at known (operations c) k ≡ not (good_by (told clock fs c k) (own c k (get_or c.ops k x.op)))
  bad_is k x is =
      let size = length-operations c in
      let within : k < length (operations c) = slice_get_within (operations c) k x is in
      ap (λ o. option_map_or (λ y. not (has_good_references (known ++ take k (operations c)) y)) o false) is
      ∙ ap (λ y. not (has_good_references (known ++ take k (operations c)) y)) (sym (get_or_from_slice_get (operations c) k x x is))
      ∙ ap not (at_is k x (omega arith))

  is_bad : (k : ℕ) → k < length c.ops → IsBadAt clock fs c k → bad_at known (operations c) k ≡ true
  is_bad k l bad = let size = length-operations c in elim (slice_get_cases (operations c) k).1 [
    | inl x ↦ bad_is k x.0 x.2 ∙ ap not (bad x.0.op)
    | inr past ↦ absurd (omega (arith, past.0))
  ]

  is_good : (k : ℕ) → (k < length c.ops → IsGoodAt clock fs c k) → bad_at known (operations c) k ≡ false
  is_good k good = let size = length-operations c in elim (slice_get_cases (operations c) k).1 [
    | inl x ↦ bad_is k x.0 x.2 ∙ ap not (good (omega (arith, x.1)) x.0.op)
    | inr past ↦ ap (λ o. option_map_or (λ y. not (has_good_references (known ++ take k (operations c)) y)) o false) past.1
  ]

  pub bad_found : (k : ℕ) → IsFirstBad clock fs c k → first_bad known (operations c) ≡ Some k
  bad_found k b = ((finds_first_bad known (operations c)).some k).1 (record { bad = is_bad k b.within b.bad; before = λ j m. is_good j (λ l. b.before j m) })

  pub bad_none : ((k : ℕ) → k < length c.ops → IsGoodAt clock fs c k) → first_bad known (operations c) ≡ None
  bad_none good = (finds_first_bad known (operations c)).none.1 (λ k. is_good k (good k))
