-- The walk over the rows of one object after another gives those of the larger set.
use Rattle.std.proofs.Common.{ℕ, ◌≡◌, ◌+◌, List, [], ◌∷◌, ◌++◌, length, map, true, false, refl, sym, ap, ◌∙◌, subst, inl, inr, AllPairs, Contains, arith}
use Rattle.std.specs.List.{flat_map}
use Rattle.std.specs.declared.cmp.Ordering.TheVariants.{Less}
use Rattle.std.proofs.lemmas.List.{append_assoc}
use Rattle.std.proofs.lemmas.List.Elements.{Contains-append_cases}
use Rattle.std.proofs.lemmas.List.Sorted.{Contains-permutation, IsPermutation-sym}
use Rattle.am_types.specs.declared.OpId.{OpId}
use Rattle.am_types.specs.declared.ObjId.{ObjId}
use Rattle.am_types.specs.declared.Key.TheVariants.{Name, Head, Elem}
use Rattle.am_types.specs.declared.Row.{Row}
use Rattle.am_types.specs.Order.{bytes_cmp}
use Rattle.am_types.specs.Operations.{Operation, ascending}
use Rattle.am_types.specs.Members.{Member}
use Rattle.am_types.specs.ValidSets.{Valid}
use Rattle.am_types.specs.Elements.{elements, insertions}
use Rattle.am_laws.proofs.Ancestry.{Contains-from_filter}
use Rattle.am_types.proofs.Lists.{Contains-head, Contains-tail}
use Rattle.am_merge.specs.Laws.{operations_of}
use Rattle.am_merge.specs.Plans.{new_in}
use Rattle.am_merge.specs.Turns.{Turn, children, others, named_by, pushed, going, id_of_turn}
use Rattle.am_merge.specs.Walk.{is_first, Walks}
use Rattle.am_merge.proofs.Chains.{once_elements}
use Rattle.am_merge.proofs.ElementRows.{element_is, first_row, insertion_into, insertion_of, old_rows, own, olds, outs, slot_is}
use Rattle.am_merge.proofs.Goings.{children_stay, walk_goes_on}
use Rattle.am_merge.proofs.Grouped.{group, in_names, in_elements}
use Rattle.am_merge.proofs.ListWalk.{IsElement, IsInto, list_walks, rows_of}
use Rattle.am_merge.proofs.NameWalk.{IsAtName, names_walk, behind_all}
use Rattle.am_merge.proofs.Once.{Once}
use Rattle.am_merge.proofs.SlotRows.{ops_in}
use Rattle.am_merge.proofs.SlotWalk.{is_before}
use Rattle.am_merge.proofs.Stack.{pushed_permutes}
use Rattle.am_merge.proofs.StackLaw.{walks_elements}
use Rattle.am_merge.proofs.WalkOrder.{name_first, name_before_insertion}

-- the new operations of an object that wait when the walk comes to it
abbrev pub heads : List Operation → ObjId → List Operation
heads N o = pushed (children Head (insertions N o)) []

abbrev pub at_names : List Operation → List (List ℕ) → ObjId → List Operation
at_names N ns o = flat_map (λ n. ops_in N (o, Name n)) ns

abbrev pub front : List Operation → List (List ℕ) → ObjId → List Operation
front N ns o = at_names N ns o ++ heads N o

flat_map_within : {X Y : Type 0} (f g : X → List Y) (xs : List X) → ((x : X) → Contains xs x → f x ≡ g x) → flat_map f xs ≡ flat_map g xs
flat_map_within f g [] h = refl
flat_map_within f g (x ∷ xs) h =
    λ i. h x (Contains-head x xs) i ++ flat_map_within f g xs (λ y c. h y (Contains-tail x xs y c)) i

module _ (C E : List Member) (v : Valid C) (w : Valid (C ++ E)) where
  abbrev S : List Operation
  S = operations_of C

  abbrev N : List Operation
  N = operations_of E

  abbrev T : List Operation
  T = operations_of (C ++ E)

  abbrev A : List Operation
  A = ascending (operations_of E)

  -- ---- one object

  module _ (o : ObjId) (rs : List Row) (st : List Operation) (out : List Row)
      (late_rows : (y : Operation) → y.op.obj ≡ o → is_before y rs ≡ true) (late_stack : (r : Row) → r.obj ≡ o → is_first st r ≡ false) where
    abbrev fs : List OpId
    fs = elements (operations_of C) o

    abbrev xs : List Operation
    xs = insertions (operations_of E) o

    abbrev ts : List Turn
    ts = going fs (heads N o) (others Head xs)

    turns_are : map id_of_turn ts ≡ elements T o
    turns_are = ap (map id_of_turn) (sym (walk_goes_on.begins fs xs)) ∙ walks_elements C E v w o

    into_all : (y : Operation) → Contains xs y → IsInto N o (outs C E v w o) y
    into_all y c = insertion_into C E v w o y c

    into_heads : (y : Operation) → Contains (heads N o) y → IsInto N o (outs C E v w o) y
    into_heads y c = elim (Contains-append_cases (children Head xs) [] y (Contains-permutation (heads N o) (children Head xs ++ []) y (IsPermutation-sym (children Head xs ++ []) (heads N o) (pushed_permutes (children Head xs) [])) c)) [
      | inl d ↦ into_all y (Contains-from_filter (named_by Head) xs y d).0
      | inr d ↦ absurd (omega (arith, d.1))
    ]

    elements_walk : Walks A rs st out → Walks A (rows_of N o (own C E v w o) (olds C E v w o) (outs C E v w o) fs ++ rs) (heads N o ++ st) (in_elements T o ++ out)
    elements_walk k =
        subst (λ es. Walks A (rows_of N o (own C E v w o) (olds C E v w o) (outs C E v w o) fs ++ rs) (heads N o ++ st) (flat_map (outs C E v w o) es ++ out)) turns_are
        (list_walks N o (own C E v w o) (olds C E v w o) (outs C E v w o) rs st late_rows late_stack out k
        (length fs + (length (heads N o) + length (others Head xs))) fs (heads N o) (others Head xs) refl
        (λ f c. element_is C E v w o f c) into_heads (λ y c. into_all y (Contains-from_filter _ xs y c).0)
        (subst Once (sym turns_are) (once_elements (C ++ E) w o))
        (λ e c. children_stay Head (Elem e) (λ q. no_head e q) xs))
      where
        no_head : (e : OpId) → Head ≡ Elem e → ⊥
        no_head e q = cc

    rows_there : in_elements S o ≡ rows_of N o (own C E v w o) (olds C E v w o) (outs C E v w o) fs
    rows_there = flat_map_within (λ e. new_in S (o, Elem e)) (λ f. own C E v w o f ∷ olds C E v w o f) fs (λ f c.
        let i = insertion_of C v o f c in
        subst (λ e. new_in S (o, Elem e) ≡ own C E v w o e ∷ olds C E v w o e) i.2
        (let is = old_rows C E v w o i.0 i.1 in is ∙ ap (λ r. r ∷ olds C E v w o i.0.id) (sym (ap first_row is))))

    name_early : (n : List ℕ) (y : Operation) → IsAtName o n y.op.obj y.op.insert y.op.key → is_before y (rows_of N o (own C E v w o) (olds C E v w o) (outs C E v w o) fs ++ rs) ≡ true
    name_early n y a = go fs (λ f c. element_is C E v w o f c)
      where
        go : (gs : List OpId) → ((f : OpId) → Contains gs f → IsElement N o (outs C E v w o) (own C E v w o f) (olds C E v w o f) f) → is_before y (rows_of N o (own C E v w o) (olds C E v w o) (outs C E v w o) gs ++ rs) ≡ true
        go [] all = late_rows y a.obj
        go (g ∷ gs) all = let m = all g (Contains-head g gs) in name_first o (own C E v w o g) y m.obj a.obj n m.inserts a.plain a.key

    name_quiet : (n : List ℕ) (r : Row) → IsAtName o n r.obj r.insert r.key → is_first (heads N o ++ st) r ≡ false
    name_quiet n r a = behind_all r (heads N o) st (λ z c. let i = into_heads z c in name_before_insertion o r z a.obj i.obj n a.plain a.key i.inserts) (late_stack r a.obj)

    pub object_walks : (ns : List (List ℕ)) → AllPairs (λ a b. bytes_cmp a b ≡ Less) ns → Walks (ascending (operations_of E)) rs st out
        → Walks (ascending (operations_of E)) (group (operations_of C) ns o ++ rs) (front (operations_of E) ns o ++ st) (group (operations_of (C ++ E)) ns o ++ out)
    object_walks ns ascend k =
        let names : Walks A (in_names S ns o ++ (rows_of N o (own C E v w o) (olds C E v w o) (outs C E v w o) fs ++ rs)) (at_names N ns o ++ (heads N o ++ st)) (in_names T ns o ++ (in_elements T o ++ out)) =
        names_walk S N T o (λ n. slot_is C E v w o (o, Name n)) (rows_of N o (own C E v w o) (olds C E v w o) (outs C E v w o) fs ++ rs) (heads N o ++ st) (in_elements T o ++ out) name_early name_quiet (elements_walk k) ns ascend in
        moved (ap (λ l. in_names S ns o ++ (l ++ rs)) (sym rows_there) ∙ sym (append_assoc (in_names S ns o) (in_elements S o) rs)) (sym (append_assoc (at_names N ns o) (heads N o) st)) (sym (append_assoc (in_names T ns o) (in_elements T o) out)) names
      where
        moved : {qs bs : List Row} {us vs : List Operation} {ps rs' : List Row} → qs ≡ bs → us ≡ vs → ps ≡ rs' → Walks (ascending (operations_of E)) qs us ps → Walks (ascending (operations_of E)) bs vs rs'
        moved e f g k = subst (λ l. l) (λ i. Walks (ascending (operations_of E)) (e i) (f i) (g i)) k
