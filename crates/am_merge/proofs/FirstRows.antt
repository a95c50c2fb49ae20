-- Rows of a first document: what is written, and what the operations that wait will make.
use Rattle.std.proofs.Common.{ℕ, ◌≡◌, ◌+◌, List, [], ◌∷◌, ◌++◌, Option, Some, arith, false, length, refl, sym, ap, ◌∙◌, subst}
use Rattle.std.specs.Option.{IfSome}
use Rattle.std.proofs.lemmas.List.{append-nil}
use Rattle.am_types.specs.declared.Row.{Row}
use Rattle.am_types.specs.Operations.{Operation}
use Rattle.am_types.specs.Rows.{succs}
use Rattle.am_doccols.specs.Conditions.{HasRoom, IsRowFor}
use Rattle.am_merge.specs.Aims.{stacked_at}
use Rattle.am_merge.specs.Carrying.{CanCarry}
use Rattle.am_merge.specs.Plans.{Event, Put, carried}
use Rattle.am_merge.specs.Stops.{is_some_left}
use Rattle.am_merge.specs.Walk.{behind, new_row, spot_of, walk_out}
use Rattle.am_merge.proofs.Carried.{IsWritten, can_first, can_rest, carries_on, one_put}
use Rattle.am_merge.proofs.Stopping.{out_comes}

-- the operation y comes, and ws waited behind it
module _ (A : List Operation) (n m : ℕ) (y : Operation) (ws vs : List Operation) (top : vs ≡ y ∷ ws) (fewer : m + 1 ≡ n) where
  abbrev here : List Event
  here = Put (new_row A y) ∷ []

  abbrev later : List Event
  later = walk_out A m (behind A (spot_of y) ws)

  comes : walk_out A n vs ≡ here ++ later
  comes = ap (walk_out A n) top ∙ out_comes A m n y ws fewer

  can_go_on : (a : List (List ℕ)) (w : Option (List Row)) → CanCarry a w (walk_out A n vs) [] → CanCarry a w (here ++ later) []
  can_go_on a w h = subst (λ es. CanCarry a w es []) comes h

  pub can_put : (a : List (List ℕ)) (w : Option (List Row)) → CanCarry a w (walk_out A n vs) [] → IsRowFor a (new_row A y) × IfSome w (λ rows. HasRoom rows (succs A y.id))
  can_put a w h = one_put a w (new_row A y) [] (can_first a w here later [] (can_go_on a w h))

  pub can_behind : (a b : List (List ℕ)) (w v : Option (List Row)) (us : List Operation) → CanCarry a w (walk_out A n vs) [] → b ≡ a
      → IsWritten w v (new_row A y ∷ []) → us ≡ behind A (spot_of y) ws → CanCarry b v (walk_out A m us) []
  can_behind a b w v us h same written wait =
      subst (λ us. CanCarry b v (walk_out A m us) []) (sym wait) (can_rest a b w v here later [] [] (can_go_on a w h) same written refl)

  pub whole_behind : (a : List (List ℕ)) (w v : Option (List Row)) (us : List Operation) (total : List Row) → CanCarry a w (walk_out A n vs) []
      → IsWritten w v (new_row A y ∷ []) → us ≡ behind A (spot_of y) ws
      → IfSome w (λ done. done ++ carried (walk_out A n vs) [] ≡ total) → IfSome v (λ done. done ++ carried (walk_out A m us) [] ≡ total)
  whole_behind a w v us total h written wait whole =
      subst (λ us. IfSome v (λ done. done ++ carried (walk_out A m us) [] ≡ total)) (sym wait)
      (carries_on a w v here later [] [] total (can_go_on a w h) written refl (subst (λ es. IfSome w (λ done. done ++ carried es [] ≡ total)) comes whole))

-- once none waits, all is written
pub all_put : (a : List (List ℕ)) (w : Option (List Row)) (es : List Event) (total : List Row) → CanCarry a w es [] → es ≡ [] → IfSome w (λ done. done ++ carried es [] ≡ total) → w ≡ Some total
all_put a w es total h none whole =
    h.are_written
    ∙ ap (λ l. Some l) (sym (append-nil h.rows) ∙ subst (λ v. IfSome v (λ done. done ++ [] ≡ total)) h.are_written (subst (λ es. IfSome w (λ done. done ++ carried es [] ≡ total)) none whole))

-- a stack of none has no top
pub none_at : (A : List Operation) (ks : List ℕ) → length ks ≡ 0 → is_some_left (stacked_at A ks) ≡ false
none_at A [] l = refl
none_at A (k ∷ ks) l = absurd (omega arith)
