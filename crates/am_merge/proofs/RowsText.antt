-- What the walk over the rows of the smaller set gives is what the writer is owed.
use Rattle.std.proofs.Common.{ℕ, zero, suc, ◌≡◌, ◌+◌, ◌≤◌, ◌^◌, List, [], ◌∷◌, ◌++◌, length, Option, Some, All, refl, sym, ap, ◌∙◌, subst, inl, inr, arith}
use Rattle.std.proofs.lemmas.Bool.{cases_Bool}
use Rattle.std.specs.List.{AllByRecursion}
use Rattle.std.specs.Option.{IfSome}
use Rattle.std.specs.Prelude.{Result, Ok, Err, IfOk, OnOk}
use Rattle.std.specs.Result.{result_and}
use Rattle.std.proofs.lemmas.Result.{IfOk-weaker}
use Rattle.std.proofs.lemmas.List.{map-append}
use Rattle.std.proofs.lemmas.List.Elements.{All-from_recursion, recursion_from_All}
use Rattle.am_types.specs.declared.Change.{Change}
use Rattle.am_types.specs.declared.Row.{Row}
use Rattle.am_types.specs.Members.{Member, changes}
use Rattle.am_types.specs.Operations.{Operation, operation_cmp, all_operations, ascending}
use Rattle.am_types.specs.ValidSets.{IsValidSet}
use Rattle.am_types.specs.Limits.{most_operations}
use Rattle.am_types.proofs.Permuted.{operation_total}
use Rattle.am_types.proofs.Rising.{Rises-sorted_by, sorted_by-rising}
use Rattle.am_places.specs.Rising.{Rise}
use Rattle.am_places.specs.Sound.{HasRoom, HaveDistinctPreds}
use Rattle.am_places.proofs.Validity.{have_room, sound_set}
use Rattle.am_doccols.specs.Conditions.{IsRowFor}
use Rattle.am_doccols.specs.Front.{HasRoomFor}
use Rattle.am_merge.specs.Carrying.{CanCarry, taking}
use Rattle.am_merge.specs.Growing.{Grows, rows_in}
use Rattle.am_merge.specs.Laws.{operations_of}
use Rattle.am_merge.specs.Plans.{Event, carried}
use Rattle.am_merge.specs.Walk.{beginning, behind, is_next, spot_of, spot_of_row, walk_into, walk_out, walked}
use Rattle.am_merge.proofs.AddedOperations.{added_few, added_rise}
use Rattle.am_merge.proofs.ElementRows.{new_inside}
use Rattle.am_merge.proofs.Sorts.{Contains-sorted_by, Contains-from_sorted_by}
use Rattle.am_merge.proofs.WalkRows.{walks_rows}
use Rattle.am_merge.proofs.Walked.{long}

-- ---- the walk takes each old row once

out_takes : (A : List Operation) (n : ℕ) (ws : List Operation) → taking (walk_out A n ws) ≡ 0
out_takes A zero ws = refl
out_takes A (suc n) [] = refl
out_takes A (suc n) (y ∷ ws) = out_takes A n (behind A (spot_of y) ws)

into_takes : (A : List Operation) (r : Row) (rest : ℕ → List Operation → List Event) (k : ℕ) → ((n : ℕ) (ws : List Operation) → taking (rest n ws) ≡ k)
    → (n : ℕ) (ws : List Operation) → taking (walk_into A r rest n ws) ≡ k + 1
into_takes A r rest k h zero ws = ap (λ m. m + 1) (h zero (behind A (spot_of_row r) ws))
into_takes A r rest k h (suc n) [] = ap (λ m. m + 1) (h (suc n) (behind A (spot_of_row r) []))
into_takes A r rest k h (suc n) (y ∷ ws) =
    let again = into_takes A r rest k h n (behind A (spot_of y) ws) in
    let here = h (suc n) (behind A (spot_of_row r) (y ∷ ws)) in
    elim (cases_Bool (is_next y r)) [ inl t ↦ simp t again | inr t ↦ simp t (ap (λ m. m + 1) here) ]

pub walked_takes : (A : List Operation) (rs : List Row) (n : ℕ) (ws : List Operation) → taking (walked A rs n ws) ≡ length rs
walked_takes A [] n ws = out_takes A n ws
walked_takes A (r ∷ rs) n ws = let e = into_takes A r (walked A rs) (length rs) (walked_takes A rs) n ws in omega arith

-- ---- a growing set

module _ (C E : List Member) (actors : List (List ℕ)) (rs : List Row) (cs : List Change) (g : Grows C E actors rs cs) where
  abbrev N : List Operation
  N = operations_of E

  abbrev A : List Operation
  A = ascending (operations_of E)

  whole_set : IsValidSet (changes (C ++ E))
  whole_set = record { set = C ++ E; are = refl; valid = g.larger }

  behind_all : (xs ys : List Change) → All HasRoom (xs ++ ys) → All HasRoom ys
  behind_all xs ys all = All-from_recursion HasRoom ys (go xs (recursion_from_All HasRoom (xs ++ ys) all))
    where
      go : (xs : List Change) → AllByRecursion HasRoom (xs ++ ys) → AllByRecursion HasRoom ys
      go [] h = h
      go (x ∷ xs) h = go xs h.1

  pub room_for : All HasRoom cs
  room_for =
      subst (All HasRoom) g.added_are
      (behind_all (changes C) (changes E) (subst (All HasRoom) (map-append (λ (m : Member). m.change) C E) (have_room (changes (C ++ E)) whole_set)))

  pub operations_are : ascending (all_operations cs) ≡ ascending (operations_of E)
  operations_are = ap (λ l. ascending (all_operations l)) (sym g.added_are)

  ascends_twice : ascending A ≡ A
  ascends_twice = sorted_by-rising operation_total A (Rises-sorted_by operation_total N)

  distinct : HaveDistinctPreds A
  distinct x c =
      (sound_set (changes (C ++ E)) whole_set).distinct x
      (Contains-sorted_by operation_cmp (operations_of (C ++ E)) x (new_inside C E g.smaller g.larger x.op.obj x (Contains-from_sorted_by operation_cmp N x c)))

  pub few_old : length rs ≤ 2 ^ 22
  few_old =
      let w = (walks_rows C E g.smaller g.larger).walk in
      let l = long A (rows_in C) (beginning A) (rows_in (C ++ E)) w in
      let e = ap length g.rows_are in
      let f = g.few in
      omega arith

  pub gives : carried (walked A rs most_operations (beginning A)) rs ≡ rows_in (C ++ E)
  gives =
      ap (λ l. carried (walked A l most_operations (beginning A)) l) g.rows_are
      ∙ (walks_rows C E g.smaller g.larger).told most_operations (let f = g.few in omega arith)

  pub can : (es : List Event) → es ≡ walked A rs most_operations (beginning A) → CanCarry actors (Some []) es rs
  can es e =
      let made : carried es rs ≡ rows_in (C ++ E) = ap (λ l. carried l rs) e ∙ gives in
      record {
        rows = [];
        are_written = refl;
        enough = let t = ap taking e ∙ walked_takes A rs most_operations (beginning A) in omega arith;
        fit = subst (AllByRecursion (IsRowFor actors)) (sym made) g.fit;
        room = subst (HasRoomFor []) (sym made) (record { few = let f = g.few in omega arith; few_succs = let f = g.few_succs in omega arith });
      }

  -- ---- the walk, where these are the added operations

  module _ (D : List Operation) (all : D ≡ ascending (all_operations cs)) where
    are_all : D ≡ A
    are_all = all ∙ operations_are

    pub ascend : ascending D ≡ D
    ascend = subst (λ D. ascending D ≡ D) (sym are_all) ascends_twice

    pub are_distinct : HaveDistinctPreds D
    are_distinct = subst HaveDistinctPreds (sym are_all) distinct

    pub are_rising : Rise D
    are_rising = subst Rise (sym are_all) (added_rise C E g.larger)

    pub are_few : length D ≤ 2 ^ 22
    are_few = subst (λ D. length D ≤ 2 ^ 22) (sym are_all) (added_few C E g.larger)

    pub can_walk : CanCarry actors (Some []) (walked D rs most_operations (beginning D)) rs
    can_walk = can (walked D rs most_operations (beginning D)) (ap (λ D. walked D rs most_operations (beginning D)) are_all)

    pub made : carried (walked D rs most_operations (beginning D)) rs ≡ rows_in (C ++ E)
    made = ap (λ D. carried (walked D rs most_operations (beginning D)) rs) are_all ∙ gives

-- ---- the text

pub is_text : {X : Type 0} (F : List (List ℕ) → List Row → X) (text : X) (a b : List (List ℕ)) (w : Option (List Row)) (rows out : List Row) → b ≡ a → w ≡ Some rows → rows ≡ out
    → IfSome w (λ rows. text ≡ F b rows) → text ≡ F a out
is_text F text a b w rows out e f g h = subst (λ w. IfSome w (λ rows. text ≡ F b rows)) (f ∙ ap (λ l. Some l) g) h ∙ ap (λ b. F b out) e

-- ---- behind what was written

-- what the text says, where what was written before it says so
pub text_after : {S T X : Type 0} (written : Result S X) (text both : Result T X) (P Q : T → Type 0) → both ≡ result_and written text → OnOk written ((t : T) → P t → Q t) → IfOk text P → IfOk both Q
text_after (Ok x) text both P Q e f p = subst (λ r. IfOk r Q) (sym e) (IfOk-weaker text P Q f p)
text_after (Err x) text both P Q e f p = subst (λ r. IfOk r Q) (sym e) tt

pub OnOk-both : {S X : Type 0} (r : Result S X) (P Q R : Type 0) → (P → Q → R) → OnOk r P → OnOk r Q → OnOk r R
OnOk-both (Ok x) P Q R f p q = f p q
OnOk-both (Err x) P Q R f p q = tt
