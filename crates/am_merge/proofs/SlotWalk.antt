-- The walk over the rows of one slot, where nothing is inserted.
use Rattle.std.proofs.Common.{◌≡◌, List, [], ◌∷◌, ◌++◌, map, Bool, true, false, sym, ◌∙◌, subst, inl, inr, Contains}
use Rattle.std.specs.Ordering.{is_gt}
use Rattle.std.proofs.lemmas.Bool.{cases_Bool}
use Rattle.am_types.specs.declared.Row.{Row}
use Rattle.am_types.specs.Order.{id_cmp}
use Rattle.am_types.specs.Operations.{Operation}
use Rattle.am_types.proofs.Lists.{Contains-head, Contains-tail}
use Rattle.am_merge.specs.Merge.{extended, merge}
use Rattle.am_merge.specs.Walk.{is_first, is_next, behind, behind_of, spot_of, spot_of_row, new_row, Walks, comes_last, comes, passes}
use Rattle.am_merge.proofs.PlanLaws.{by_id}

-- y comes before what is first of the old rows, if there is any
abbrev pub is_before : Operation → List Row → Bool
is_before y [] = true
is_before y (r ∷ rs) = is_next y r

-- the old rows olds and the new operations ups of one slot, where st waits below and rs stand behind
pub record Meets (olds : List Row) (ups : List Operation) (rs : List Row) (st : List Operation) : Type 0 where
  pub old_plain : (r : Row) → Contains olds r → r.insert ≡ false
  pub new_plain : (y : Operation) → Contains ups y → y.op.insert ≡ false
  pub quiet : (r : Row) → Contains olds r → is_first st r ≡ false
  pub early : (y : Operation) → Contains ups y → is_before y rs ≡ true
  pub by_ids : (r : Row) (y : Operation) → Contains olds r → Contains ups y → is_next y r ≡ is_gt (id_cmp r.id y.id)

-- a new operation comes
pub come : (A : List Operation) (rs : List Row) (y : Operation) (ws : List Operation) (out : List Row) → is_before y rs ≡ true → Walks A rs (behind A (spot_of y) ws) out → Walks A rs (y ∷ ws) (new_row A y ∷ out)
come A [] y ws out t w = comes_last y ws out w
come A (r ∷ rs) y ws out t w = comes r rs y ws out t w

module _ (A : List Operation) (rs : List Row) (st : List Operation) (out : List Row) (w : Walks A rs st out) where
  abbrev merged : List Row → List Operation → List Row
  merged olds ups = merge by_id (map (extended A) olds) (map (new_row A) ups)

  fewer_old : (r : Row) (olds : List Row) (ups : List Operation) → Meets (r ∷ olds) ups rs st → Meets olds ups rs st
  fewer_old r olds ups m = record {
    old_plain = λ q c. m.old_plain q (Contains-tail r olds q c);
    new_plain = m.new_plain;
    quiet = λ q c. m.quiet q (Contains-tail r olds q c);
    early = m.early;
    by_ids = λ q y c d. m.by_ids q y (Contains-tail r olds q c) d;
  }

  fewer_new : (olds : List Row) (y : Operation) (ups : List Operation) → Meets olds (y ∷ ups) rs st → Meets olds ups rs st
  fewer_new olds y ups m = record {
    old_plain = m.old_plain;
    new_plain = λ z c. m.new_plain z (Contains-tail y ups z c);
    quiet = m.quiet;
    early = λ z c. m.early z (Contains-tail y ups z c);
    by_ids = λ q z c d. m.by_ids q z c (Contains-tail y ups z d);
  }

  -- what is no insertion puts nothing on the stack
  plain : (rs ws' : List Row) (y : Operation) (ws : List Operation) → y.op.insert ≡ false → Walks A rs ws ws' → Walks A rs (behind A (spot_of y) ws) ws'
  plain rs ws' y ws e v = subst (λ b. Walks A rs (behind_of A b y.op.obj y.id ws) ws') (sym e) v

  plain_row : (rs ws' : List Row) (r : Row) (ws : List Operation) → r.insert ≡ false → Walks A rs ws ws' → Walks A rs (behind A (spot_of_row r) ws) ws'
  plain_row rs ws' r ws e v = subst (λ b. Walks A rs (behind_of A b r.obj r.id ws) ws') (sym e) v

  all_new : (ups : List Operation) → Meets [] ups rs st → Walks A rs (ups ++ st) (map (new_row A) ups ++ out)
  all_new [] m = w
  all_new (y ∷ ups) m =
      come A rs y (ups ++ st) (map (new_row A) ups ++ out) (m.early y (Contains-head y ups))
      (plain rs (map (new_row A) ups ++ out) y (ups ++ st) (m.new_plain y (Contains-head y ups)) (all_new ups (fewer_new [] y ups m)))

  with_old : (r : Row) (olds : List Row) → ((ups : List Operation) → Meets olds ups rs st → Walks A (olds ++ rs) (ups ++ st) (merged olds ups ++ out))
      → (ups : List Operation) → Meets (r ∷ olds) ups rs st → Walks A (r ∷ olds ++ rs) (ups ++ st) (merged (r ∷ olds) ups ++ out)
  with_old r olds again [] m =
      passes r (olds ++ rs) st (merged olds [] ++ out) (m.quiet r (Contains-head r olds))
      (plain_row (olds ++ rs) (merged olds [] ++ out) r st (m.old_plain r (Contains-head r olds)) (again [] (fewer_old r olds [] m)))
  with_old r olds again (y ∷ ups) m =
      let same = m.by_ids r y (Contains-head r olds) (Contains-head y ups) in
      elim (cases_Bool (is_gt (id_cmp r.id y.id))) [
        | inl t ↦ simp t
            (comes r (olds ++ rs) y (ups ++ st) (merged (r ∷ olds) ups ++ out) (same ∙ t)
            (plain (r ∷ olds ++ rs) (merged (r ∷ olds) ups ++ out) y (ups ++ st) (m.new_plain y (Contains-head y ups)) (with_old r olds again ups (fewer_new (r ∷ olds) y ups m))))
        | inr f ↦ simp f
            (passes r (olds ++ rs) (y ∷ ups ++ st) (merged olds (y ∷ ups) ++ out) (same ∙ f)
            (plain_row (olds ++ rs) (merged olds (y ∷ ups) ++ out) r (y ∷ ups ++ st) (m.old_plain r (Contains-head r olds)) (again (y ∷ ups) (fewer_old r olds (y ∷ ups) m))))
      ]

  pub slot_walks : (olds : List Row) (ups : List Operation) → Meets olds ups rs st → Walks A (olds ++ rs) (ups ++ st) (merge by_id (map (extended A) olds) (map (new_row A) ups) ++ out)
  slot_walks [] ups m = all_new ups m
  slot_walks (r ∷ olds) ups m = with_old r olds (slot_walks olds) ups m
