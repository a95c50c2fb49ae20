-- The walk over the rows of a list or a text goes as the walk over its elements, turn by turn.
use Rattle.std.proofs.Common.{ℕ, zero, suc, ◌≡◌, ◌+◌, List, [], ◌∷◌, ◌++◌, length, map, true, false, not, refl, sym, ap, ◌∙◌, subst, inl, inr, Contains, arith}
use Rattle.std.specs.List.{flat_map}
use Rattle.std.specs.Ordering.{is_gt}
use Rattle.std.proofs.lemmas.Bool.{cases_Bool}
use Rattle.std.proofs.lemmas.List.{append_assoc}
use Rattle.std.proofs.lemmas.List.Elements.{Contains-append_cases}
use Rattle.std.proofs.lemmas.List.Sorted.{Contains-permutation, IsPermutation-sym}
use Rattle.am_types.specs.declared.OpId.{OpId}
use Rattle.am_types.specs.declared.ObjId.{ObjId}
use Rattle.am_types.specs.declared.Key.TheVariants.{Elem}
use Rattle.am_types.specs.declared.Row.{Row}
use Rattle.am_types.specs.Order.{id_cmp}
use Rattle.am_types.specs.Operations.{Operation, ascending}
use Rattle.am_laws.proofs.Ancestry.{Contains-from_filter}
use Rattle.am_types.proofs.Lists.{Contains-head, Contains-tail}
use Rattle.am_merge.specs.Merge.{extended, merge}
use Rattle.am_merge.specs.Turns.{Turn, Old, New, children, others, named_by, pushed, turns, id_of_turn}
use Rattle.am_merge.specs.Walk.{behind, behind_of, is_first, is_next, name_in, new_row, spot_of, spot_of_row, Walks, passes}
use Rattle.am_merge.proofs.Goings.{children_stay}
use Rattle.am_merge.proofs.Hanging.{kids, vals, behind_element, is_value, pushed-more}
use Rattle.am_merge.proofs.Once.{Once, first_alone, once_tail}
use Rattle.am_merge.proofs.PlanLaws.{by_id}
use Rattle.am_merge.proofs.SlotWalk.{Meets, come, is_before, slot_walks}
use Rattle.am_merge.proofs.Stack.{pushed_permutes}
use Rattle.am_merge.proofs.TurnLaws.{sizes}
use Rattle.am_merge.proofs.WalkOrder.{value_before_insertion, value_after_none, values_by_id, insertions_by_id}

-- an insertion into o, and the rows of its element: its own, and the new values
pub record IsInto (N : List Operation) (o : ObjId) (outs : OpId → List Row) (y : Operation) : Type 0 where
  pub obj : y.op.obj ≡ o
  pub inserts : y.op.insert ≡ true
  pub nameless : name_in y.op.key ≡ []
  pub rows : outs y.id ≡ new_row (ascending N) y ∷ map (new_row (ascending N)) (vals N o y.id)

-- the rows of the element f of o: its own, and its values, and those of the larger set
pub record IsElement (N : List Operation) (o : ObjId) (outs : OpId → List Row) (own : Row) (olds : List Row) (f : OpId) : Type 0 where
  pub id : own.id ≡ f
  pub obj : own.obj ≡ o
  pub inserts : own.insert ≡ true
  pub nameless : name_in own.key ≡ []
  pub olds_obj : (r : Row) → Contains olds r → r.obj ≡ o
  pub olds_plain : (r : Row) → Contains olds r → r.insert ≡ false
  pub olds_key : (r : Row) → Contains olds r → r.key ≡ Elem f
  pub rows : outs f ≡ extended (ascending N) own ∷ merge by_id (map (extended (ascending N)) olds) (map (new_row (ascending N)) (vals N o f))

module _ (N : List Operation) (o : ObjId) (own : OpId → Row) (olds outs : OpId → List Row) where
  abbrev A : List Operation
  A = ascending N

  abbrev pub rows_of : List OpId → List Row
  rows_of fs = flat_map (λ f. own f ∷ olds f) fs

  abbrev outs_of : List Turn → List Row
  outs_of ts = flat_map outs (map id_of_turn ts)

  -- what stands behind the object
  module _ (rs : List Row) (st : List Operation) (late_rows : (y : Operation) → y.op.obj ≡ o → is_before y rs ≡ true) (late_stack : (r : Row) → r.obj ≡ o → is_first st r ≡ false) where
    abbrev AllElements : List OpId → Type 0
    AllElements fs = (f : OpId) → Contains fs f → IsElement N o outs (own f) (olds f) f

    abbrev AllInto : List Operation → Type 0
    AllInto ys = (y : Operation) → Contains ys y → IsInto N o outs y

    all_pushed : (cs ws : List Operation) → AllInto cs → AllInto ws → AllInto (pushed cs ws)
    all_pushed cs ws ac aw y c = elim (Contains-append_cases cs ws y (Contains-permutation (pushed cs ws) (cs ++ ws) y (IsPermutation-sym (cs ++ ws) (pushed cs ws) (pushed_permutes cs ws)) c)) [
      | inl d ↦ ac y d
      | inr d ↦ aw y d
    ]

    -- a new value comes before what follows the rows of its element
    early : (fs : List OpId) → AllElements fs → (e : OpId) (y : Operation) → Contains (vals N o e) y → is_before y (rows_of fs ++ rs) ≡ true
    early [] all e y c = late_rows y (is_value N o e y c).obj
    early (f ∷ fs) all e y c =
        let v = is_value N o e y c in
        let m = all f (Contains-head f fs) in
        value_after_none o (own f) y m.obj v.obj e m.inserts v.plain v.key

    -- an old value comes before the insertions that wait
    quiet : (zs : List Operation) → AllInto zs → (f : OpId) (r : Row) → IsElement N o outs (own f) (olds f) f → Contains (olds f) r → is_first (zs ++ st) r ≡ false
    quiet [] all f r m c = late_stack r (m.olds_obj r c)
    quiet (z ∷ zs) all f r m c =
        let i = all z (Contains-head z zs) in
        value_before_insertion o r z (m.olds_obj r c) i.obj f (m.olds_plain r c) (m.olds_key r c) i.inserts

    new_step : (fs : List OpId) (y : Operation) (ws : List Operation) (more : List Row) → AllElements fs → IsInto N o outs y → is_before y (rows_of fs ++ rs) ≡ true
        → Walks A (rows_of fs ++ rs) (pushed (kids N o y.id) (ws ++ st)) more → Walks A (rows_of fs ++ rs) (y ∷ ws ++ st) (outs y.id ++ more)
    new_step fs y ws more all i t w =
        let es : List Operation = vals N o y.id in
        let below : List Operation = pushed (kids N o y.id) (ws ++ st) in
        let meets : Meets [] es (rows_of fs ++ rs) below = record {
          old_plain = λ r c. absurd (nothing r c);
          new_plain = λ z c. (is_value N o y.id z c).plain;
          quiet = λ r c. absurd (nothing r c);
          early = λ z c. early fs all y.id z c;
          by_ids = λ r z c d. absurd (nothing r c);
        } in
        let stack : behind A (spot_of y) (ws ++ st) ≡ es ++ below =
        (λ j. behind_of A (i.inserts j) (i.obj j) y.id (ws ++ st)) ∙ behind_element N o y.id (ws ++ st) in
        subst (λ l. Walks A (rows_of fs ++ rs) (y ∷ ws ++ st) (l ++ more)) (sym i.rows)
        (come A (rows_of fs ++ rs) y (ws ++ st) (map (new_row A) es ++ more) t
        (subst (λ l. Walks A (rows_of fs ++ rs) l (map (new_row A) es ++ more)) (sym stack) (slot_walks A (rows_of fs ++ rs) below more w [] es meets)))
      where
        nothing : (r : Row) → Contains [] r → ⊥
        nothing r c = omega (arith, c.1)

    old_step : (f : OpId) (fs : List OpId) (zs ws : List Operation) (more : List Row) → AllElements (f ∷ fs) → AllInto zs → pushed (kids N o f) (ws ++ st) ≡ zs ++ st → is_first (ws ++ st) (own f) ≡ false
        → Walks A (rows_of fs ++ rs) (zs ++ st) more → Walks A (rows_of (f ∷ fs) ++ rs) (ws ++ st) (outs f ++ more)
    old_step f fs zs ws more all into below t w =
        let m = all f (Contains-head f fs) in
        let es : List Operation = vals N o f in
        let meets : Meets (olds f) es (rows_of fs ++ rs) (zs ++ st) = record {
          old_plain = λ r c. m.olds_plain r c;
          new_plain = λ z c. (is_value N o f z c).plain;
          quiet = λ r c. quiet zs into f r m c;
          early = λ z c. early fs (λ g c. all g (Contains-tail f fs g c)) f z c;
          by_ids = λ r z c d. let v = is_value N o f z d in values_by_id o r z (m.olds_obj r c) v.obj f (m.olds_plain r c) (m.olds_key r c) v.plain v.key;
        } in
        let stack : behind A (spot_of_row (own f)) (ws ++ st) ≡ es ++ (zs ++ st) =
        (λ j. behind_of A (m.inserts j) (m.obj j) (m.id j) (ws ++ st)) ∙ behind_element N o f (ws ++ st) ∙ ap (λ l. es ++ l) below in
        let slot : Walks A (olds f ++ (rows_of fs ++ rs)) (es ++ (zs ++ st)) (merge by_id (map (extended A) (olds f)) (map (new_row A) es) ++ more) =
        slot_walks A (rows_of fs ++ rs) (zs ++ st) more w (olds f) es meets in
        let merged : List Row = merge by_id (map (extended A) (olds f)) (map (new_row A) es) in
        subst (λ l. Walks A (rows_of (f ∷ fs) ++ rs) (ws ++ st) (l ++ more)) (sym m.rows)
        (passes (own f) ((olds f ++ rows_of fs) ++ rs) (ws ++ st) (merged ++ more) t
        (subst (λ l. Walks A l (behind A (spot_of_row (own f)) (ws ++ st)) (merged ++ more)) (sym (append_assoc (olds f) (rows_of fs) rs))
        (subst (λ l. Walks A (olds f ++ (rows_of fs ++ rs)) l (merged ++ more)) (sym stack) slot)))

    -- ---- all turns

    abbrev AreTheKids : List Operation → List Turn → Type 0
    AreTheKids xs ts = (e : OpId) → Contains (map id_of_turn ts) e → children (Elem e) xs ≡ kids N o e

    -- once e has come, the children of others are the same
    kids_later : (e : OpId) (xs : List Operation) (ts : List Turn) → Once (e ∷ map id_of_turn ts)
        → ((d : OpId) → Contains (e ∷ map id_of_turn ts) d → children (Elem d) xs ≡ kids N o d) → AreTheKids (others (Elem e) xs) ts
    kids_later e xs ts once h d c =
        children_stay (Elem e) (Elem d) (λ k. first_alone e (map id_of_turn ts) once (subst (Contains (map id_of_turn ts)) (sym (elem_is k)) c)) xs
        ∙ h d (Contains-tail e (map id_of_turn ts) d c)
      where
        elem_is : {i j : OpId} → Elem i ≡ Elem j → i ≡ j
        elem_is k = cc

    all_others : (k : OpId) (xs : List Operation) → AllInto xs → AllInto (others (Elem k) xs)
    all_others k xs all y c = all y (Contains-from_filter (λ x. not (named_by (Elem k) x)) xs y c).0

    all_children : (k : OpId) (xs : List Operation) → AllInto xs → AllInto (children (Elem k) xs)
    all_children k xs all y c = all y (Contains-from_filter (named_by (Elem k)) xs y c).0

    abbrev Goal : List OpId → List Operation → List Turn → List Row → Type 0
    Goal fs waiting ts out = Walks A (rows_of fs ++ rs) (waiting ++ st) (outs_of ts ++ out)

    module _ (out : List Row) (w : Walks A rs st out) where
      new_turn : (fs : List OpId) (y : Operation) (waiting xs : List Operation) (ts : List Turn) → AllElements fs → AllInto (y ∷ waiting) → is_before y (rows_of fs ++ rs) ≡ true
          → children (Elem y.id) xs ≡ kids N o y.id → Goal fs (pushed (children (Elem y.id) xs) waiting) ts out → Goal fs (y ∷ waiting) (New y ∷ ts) out
      new_turn fs y waiting xs ts all into t k g =
          let more : List Row = outs_of ts ++ out in
          let stack : pushed (kids N o y.id) (waiting ++ st) ≡ pushed (children (Elem y.id) xs) waiting ++ st = pushed-more (kids N o y.id) waiting st ∙ ap (λ l. pushed l waiting ++ st) (sym k) in
          subst (λ l. Walks A (rows_of fs ++ rs) (y ∷ waiting ++ st) l) (sym (append_assoc (outs y.id) (outs_of ts) out))
          (new_step fs y waiting more all (into y (Contains-head y waiting)) t (subst (λ l. Walks A (rows_of fs ++ rs) l more) (sym stack) g))

      old_turn : (f : OpId) (fs : List OpId) (waiting xs : List Operation) (ts : List Turn) → AllElements (f ∷ fs) → AllInto waiting → AllInto xs → is_first (waiting ++ st) (own f) ≡ false
          → children (Elem f) xs ≡ kids N o f → Goal fs (pushed (children (Elem f) xs) waiting) ts out → Goal (f ∷ fs) waiting (Old f ∷ ts) out
      old_turn f fs waiting xs ts all into more_into t k g =
          let stack : pushed (kids N o f) (waiting ++ st) ≡ pushed (children (Elem f) xs) waiting ++ st = pushed-more (kids N o f) waiting st ∙ ap (λ l. pushed l waiting ++ st) (sym k) in
          subst (λ l. Walks A (rows_of (f ∷ fs) ++ rs) (waiting ++ st) l) (sym (append_assoc (outs f) (outs_of ts) out))
          (old_step f fs (pushed (children (Elem f) xs) waiting) waiting (outs_of ts ++ out) all (all_pushed (children (Elem f) xs) waiting (all_children f xs more_into) into) stack t g)

      -- the insertion y against the row of the element f
      against : (f : OpId) (y : Operation) → IsElement N o outs (own f) (olds f) f → IsInto N o outs y → is_next y (own f) ≡ is_gt (id_cmp y.id f)
      against f y m i = insertions_by_id o (own f) y m.obj i.obj m.inserts m.nameless i.inserts i.nameless ∙ ap (λ j. is_gt (id_cmp y.id j)) m.id

      pub list_walks : (n : ℕ) (fs : List OpId) (waiting xs : List Operation) → n ≡ length fs + (length waiting + length xs)
          → AllElements fs → AllInto waiting → AllInto xs → Once (map id_of_turn (turns n fs waiting xs)) → AreTheKids xs (turns n fs waiting xs)
          → Goal fs waiting (turns n fs waiting xs) out
      list_walks zero [] [] xs e all into more once kids_are = w
      list_walks zero [] (y ∷ waiting) xs e all into more once kids_are = absurd (omega arith)
      list_walks zero (f ∷ fs) waiting xs e all into more once kids_are = absurd (omega arith)
      list_walks (suc n) [] [] xs e all into more once kids_are = w
      list_walks (suc n) [] (y ∷ waiting) xs e all into more once kids_are =
          let k = kids_are y.id (Contains-head y.id (map id_of_turn (turns n [] (pushed (children (Elem y.id) xs) waiting) (others (Elem y.id) xs)))) in
          let ts : List Turn = turns n [] (pushed (children (Elem y.id) xs) waiting) (others (Elem y.id) xs) in
          let i = into y (Contains-head y waiting) in
          new_turn [] y waiting xs ts all into (late_rows y i.obj) k
          (list_walks n [] (pushed (children (Elem y.id) xs) waiting) (others (Elem y.id) xs) (let s = sizes (Elem y.id) waiting xs in omega arith) all
          (all_pushed (children (Elem y.id) xs) waiting (all_children y.id xs more) (λ z c. into z (Contains-tail y waiting z c))) (all_others y.id xs more)
          (once_tail y.id (map id_of_turn ts) once) (kids_later y.id xs ts once kids_are))
      list_walks (suc n) (f ∷ fs) [] xs e all into more once kids_are =
          let m = all f (Contains-head f fs) in
          let k = kids_are f (Contains-head f (map id_of_turn (turns n fs (pushed (children (Elem f) xs) []) (others (Elem f) xs)))) in
          let ts : List Turn = turns n fs (pushed (children (Elem f) xs) []) (others (Elem f) xs) in
          old_turn f fs [] xs ts all into more (late_stack (own f) m.obj) k
          (list_walks n fs (pushed (children (Elem f) xs) []) (others (Elem f) xs) (let s = sizes (Elem f) [] xs in omega arith) (λ g c. all g (Contains-tail f fs g c))
          (all_pushed (children (Elem f) xs) [] (all_children f xs more) into) (all_others f xs more)
          (once_tail f (map id_of_turn ts) once) (kids_later f xs ts once kids_are))
      list_walks (suc n) (f ∷ fs) (y ∷ waiting) xs e all into more once kids_are =
          let m = all f (Contains-head f fs) in
          let i = into y (Contains-head y waiting) in
          elim (cases_Bool (is_gt (id_cmp y.id f))) [
            | inl t ↦ let ts : List Turn = turns n (f ∷ fs) (pushed (children (Elem y.id) xs) waiting) (others (Elem y.id) xs) in
                let is : turns (suc n) (f ∷ fs) (y ∷ waiting) xs ≡ New y ∷ ts = simp t refl in
                let once_now : Once (y.id ∷ map id_of_turn ts) = subst (λ us. Once (map id_of_turn us)) is once in
                let kids_now : AreTheKids xs (New y ∷ ts) = subst (AreTheKids xs) is kids_are in
                subst (λ us. Goal (f ∷ fs) (y ∷ waiting) us out) (sym is)
                (new_turn (f ∷ fs) y waiting xs ts all into (against f y m i ∙ t) (kids_now y.id (Contains-head y.id (map id_of_turn ts)))
                (list_walks n (f ∷ fs) (pushed (children (Elem y.id) xs) waiting) (others (Elem y.id) xs) (let s = sizes (Elem y.id) waiting xs in omega arith) all
                (all_pushed (children (Elem y.id) xs) waiting (all_children y.id xs more) (λ z c. into z (Contains-tail y waiting z c))) (all_others y.id xs more)
                (once_tail y.id (map id_of_turn ts) once_now) (kids_later y.id xs ts once_now kids_now)))
            | inr t ↦ let ts : List Turn = turns n fs (pushed (children (Elem f) xs) (y ∷ waiting)) (others (Elem f) xs) in
                let is : turns (suc n) (f ∷ fs) (y ∷ waiting) xs ≡ Old f ∷ ts = simp t refl in
                let once_now : Once (f ∷ map id_of_turn ts) = subst (λ us. Once (map id_of_turn us)) is once in
                let kids_now : AreTheKids xs (Old f ∷ ts) = subst (AreTheKids xs) is kids_are in
                subst (λ us. Goal (f ∷ fs) (y ∷ waiting) us out) (sym is)
                (old_turn f fs (y ∷ waiting) xs ts all into more (against f y m i ∙ t) (kids_now f (Contains-head f (map id_of_turn ts)))
                (list_walks n fs (pushed (children (Elem f) xs) (y ∷ waiting)) (others (Elem f) xs) (let s = sizes (Elem f) (y ∷ waiting) xs in omega arith) (λ g c. all g (Contains-tail f fs g c))
                (all_pushed (children (Elem f) xs) (y ∷ waiting) (all_children f xs more) into) (all_others f xs more)
                (once_tail f (map id_of_turn ts) once_now) (kids_later f xs ts once_now kids_now)))
          ]
