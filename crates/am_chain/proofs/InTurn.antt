-- A whole list of insertions, put in turn, stands in the order of elements.
use Rattle.std.proofs.Common.{ℕ, ◌≡◌, ◌≢◌, ◌++◌, List, [], ◌∷◌, Some, None, Option, Bool, true, false, refl, sym, ap, ◌∙◌, subst, IsPermutation, slice_get, Contains}
use Rattle.std.specs.List.{AllByRecursion}
use Rattle.std.proofs.lemmas.Bool.{both_ways}
use Rattle.std.proofs.lemmas.List.Elements.{Contains-append_left, Contains-get_or}
use Rattle.std.proofs.lemmas.Option.{get_or_from_slice_get, slice_get_within}
use Rattle.am_types.specs.declared.OpId.{OpId}
use Rattle.am_types.specs.declared.ObjId.{ObjId}
use Rattle.am_types.specs.declared.Key.{Key}
use Rattle.am_types.specs.declared.Key.TheVariants.{Name, Head, Elem}
use Rattle.am_types.specs.Elements.{elements}
use Rattle.am_types.specs.Operations.{OneOperationPerId, Operation}
use Rattle.am_chain.specs.Insertions.{AreInTurn, AreOperations, walked}
use Rattle.am_chain.specs.Passing.{IsAbove, IsAboveReference, RefersBack, into, put_in_turn, put_passing}
use Rattle.am_chain.specs.Sequences.{IsNodeBelow, key_of_node}
use Rattle.am_chain.specs.declared.whole.Insertion.{Insertion}
use Rattle.am_chain.proofs.Passing.{put_in_turn-elements}

-- ---- the walk as operations

walked_is : (ids fs : List OpId) (ns : List Insertion) (xs : List Operation) → AreOperations ids ns xs → walked ids fs ns ≡ put_in_turn fs xs
walked_is ids fs [] [] same = refl
walked_is ids fs [] (x ∷ xs) same = absurd same
walked_is ids fs (n ∷ ns) [] same = absurd same
walked_is ids fs (n ∷ ns) (x ∷ xs) same =
    walked_is (ids ++ n.id ∷ []) (put_passing (key_of_node ids n.after) n.id fs) ns xs same.2
    ∙ λ i. put_in_turn (put_passing (sym same.1 i) (sym same.0 i) fs) xs

-- ---- references come before, and are less

above : (ids : List OpId) (e : OpId) (after : Option ℕ) → IsNodeBelow ids e after → IsAbove e (key_of_node ids after)
above ids e None below = tt
above ids e (Some n) below = let there = below.1 in rw there below.2

are_above : (ids : List OpId) (ns : List Insertion) (xs : List Operation) → AreInTurn ids ns → AreOperations ids ns xs → AllByRecursion IsAboveReference xs
are_above ids [] [] turn same = tt
are_above ids [] (x ∷ xs) turn same = absurd same
are_above ids (n ∷ ns) [] turn same = absurd same
are_above ids (n ∷ ns) (x ∷ xs) turn same = (
  subst (λ (k : Key). IsAbove x.id k) (sym same.1) (subst (λ (e : OpId). IsAbove e (key_of_node ids n.after)) (sym same.0) (above ids n.id n.after turn.0)),
  are_above (ids ++ n.id ∷ []) ns xs turn.2 same.2,
)

-- what was inserted before isn't inserted again
apart : (ids : List OpId) (ns : List Insertion) (xs : List Operation) (r : OpId) → AreInTurn ids ns → AreOperations ids ns xs → Contains ids r → AllByRecursion (λ y. Elem r ≢ Elem y.id) xs
apart ids [] [] r turn same held = tt
apart ids [] (x ∷ xs) r turn same held = absurd same
apart ids (n ∷ ns) [] r turn same held = absurd same
apart ids (n ∷ ns) (x ∷ xs) r turn same held = (
  (λ e. let one : r ≡ x.id = cc in turn.1 (subst (Contains ids) (one ∙ same.0) held)),
  apart (ids ++ n.id ∷ []) ns xs r turn.2 same.2 (Contains-append_left ids (n.id ∷ []) r held),
)

abbrev names_element : Key → Bool
names_element Head = false
names_element (Elem r) = true
names_element (Name n) = false

no_reference : (xs : List Operation) → AllByRecursion (λ y. Head ≢ Elem y.id) xs
no_reference [] = tt
no_reference (x ∷ xs) = ((λ e. both_ways false refl (ap names_element e)), no_reference xs)

held_from : (ids : List OpId) (n : ℕ) (r : OpId) → slice_get ids n ≡ Some r → Contains ids r
held_from ids n r there = subst (Contains ids) (get_or_from_slice_get ids n r r there) (Contains-get_or ids n r (slice_get_within ids n r there))

refers_back_one : (ids : List OpId) (e : OpId) (after : Option ℕ) (ns : List Insertion) (xs : List Operation) → IsNodeBelow ids e after → AreInTurn (ids ++ e ∷ []) ns → AreOperations (ids ++ e ∷ []) ns xs
    → AllByRecursion (λ y. key_of_node ids after ≢ Elem y.id) xs
refers_back_one ids e None ns xs below turn same = no_reference xs
refers_back_one ids e (Some n) ns xs below turn same =
    let there = below.1 in
    rw there (apart (ids ++ e ∷ []) ns xs below.0 turn same (Contains-append_left ids (e ∷ []) below.0 (held_from ids n below.0 there)))

refer_back : (ids : List OpId) (ns : List Insertion) (xs : List Operation) → AreInTurn ids ns → AreOperations ids ns xs → RefersBack xs
refer_back ids [] [] turn same = tt
refer_back ids [] (x ∷ xs) turn same = absurd same
refer_back ids (n ∷ ns) [] turn same = absurd same
refer_back ids (n ∷ ns) (x ∷ xs) turn same = (
  subst (λ (k : Key). AllByRecursion (λ y. k ≢ Elem y.id) xs) (sym same.1) (refers_back_one ids n.id n.after ns xs turn.0 turn.2 same.2),
  refer_back (ids ++ n.id ∷ []) ns xs turn.2 same.2,
)

-- ---- what the walk comes to

pub walked_elements : (ns : List Insertion) → AreInTurn [] ns → (A : List Operation) (o : ObjId) (xs : List Operation) → AreOperations [] ns xs → OneOperationPerId (into o A) → IsPermutation (into o A) xs → walked [] [] ns ≡ elements A o
walked_elements ns turn A o xs same distinct listed =
    walked_is [] [] ns xs same
    ∙ put_in_turn-elements A o xs distinct listed (refer_back [] ns xs turn same) (are_above [] ns xs turn same)
