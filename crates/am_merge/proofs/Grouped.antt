-- The rows of a valid set, object by object, in each name by name and element by element.
use Rattle.std.proofs.Common.{ℕ, ◌≡◌, List, [], ◌∷◌, ◌++◌, map, true, false, refl, sym, ap, ◌∙◌, subst, inl, inr, AllPairs, Contains}
use Rattle.std.specs.List.{flat_map}
use Rattle.std.specs.declared.cmp.Ordering.TheVariants.{Less}
use Rattle.std.proofs.lemmas.Bool.{cases_Bool, both_ways, and_from}
use Rattle.std.proofs.lemmas.Cmp.{tied_itself}
use Rattle.std.proofs.lemmas.List.Concat.{flat_map-append}
use Rattle.std.proofs.lemmas.List.Elements.{Contains-append_left, Contains-append_right}
use Rattle.std.proofs.lemmas.List.Sorted.{Contains-permutation}
use Rattle.am_types.specs.declared.ObjId.{ObjId}
use Rattle.am_types.specs.declared.Key.{Key}
use Rattle.am_types.specs.declared.Key.TheVariants.{Name, Head, Elem}
use Rattle.am_types.specs.declared.Row.{Row}
use Rattle.am_types.specs.Order.{bytes_cmp, object_cmp}
use Rattle.am_types.specs.Same.{same_object}
use Rattle.am_types.specs.Operations.{Operation, operation_cmp, ascending, slot}
use Rattle.am_types.specs.Members.{Member}
use Rattle.am_types.specs.ValidSets.{Valid}
use Rattle.am_types.specs.Elements.{elements, insertions, inserts_into}
use Rattle.am_types.specs.Rows.{rows}
use Rattle.am_laws.proofs.Ancestry.{Contains-from_filter}
use Rattle.am_laws.proofs.Following.{follow_references}
use Rattle.am_laws.proofs.References.{fine_op, refers}
use Rattle.am_laws.proofs.ValidSetLaws.{grounds_valid}
use Rattle.am_merge.specs.Laws.{operations_of}
use Rattle.am_merge.specs.Plans.{Slot, AreSlots, new_in, plan, carried}
use Rattle.am_merge.proofs.Chains.{once_elements, in_place}
use Rattle.am_merge.proofs.Lists.{Contains-map}
use Rattle.am_merge.proofs.Places.{object_total}
use Rattle.am_merge.proofs.PlanLaws.{joined, plan_carried}
use Rattle.am_merge.proofs.PlanRows.{plan_rows}
use Rattle.am_merge.proofs.SlotLaws.{Contains-flat_map, keys_ascend, objects_ascend}
use Rattle.am_merge.proofs.Sorts.{Contains-from_sorted_by}
use Rattle.am_merge.proofs.StackLaw.{is_inserted, nothing_valid}
use Rattle.am_merge.proofs.Within.{stays}

-- ---- lists of lists

pub flat_map-map : {X Y Z : Type 0} (f : Y → List Z) (g : X → Y) (xs : List X) → flat_map f (map g xs) ≡ flat_map (λ x. f (g x)) xs
flat_map-map f g [] = refl
flat_map-map f g (x ∷ xs) = ap (λ l. f (g x) ++ l) (flat_map-map f g xs)

pub flat_map-flat_map : {X Y Z : Type 0} (f : Y → List Z) (g : X → List Y) (xs : List X) → flat_map f (flat_map g xs) ≡ flat_map (λ x. flat_map f (g x)) xs
flat_map-flat_map f g [] = refl
flat_map-flat_map f g (x ∷ xs) = flat_map-append f (g x) (flat_map g xs) ∙ ap (λ l. flat_map f (g x) ++ l) (flat_map-flat_map f g xs)

-- ---- the rows, slot after slot

abbrev pub in_names : List Operation → List (List ℕ) → ObjId → List Row
in_names A ns o = flat_map (λ n. new_in A (o, Name n)) ns

abbrev pub in_elements : List Operation → ObjId → List Row
in_elements A o = flat_map (λ e. new_in A (o, Elem e)) (elements A o)

abbrev pub group : List Operation → List (List ℕ) → ObjId → List Row
group A ns o = in_names A ns o ++ in_elements A o

no_rows : rows [] ≡ []
unfolding rows
no_rows = refl

joined_alone : (A : List Operation) (ss : List Slot) → joined A ss [] ≡ flat_map (new_in A) ss
joined_alone A [] = refl
joined_alone A (s ∷ ss) = ap (λ l. new_in A s ++ l) (joined_alone A ss)

-- os has all objects, and ns all names
pub record HasAll (A : List Operation) (os : List ObjId) (ns : List (List ℕ)) : Type 0 where
  pub os_ascend : AllPairs (λ a b. object_cmp a b ≡ Less) os
  pub ns_ascend : AllPairs (λ a b. bytes_cmp a b ≡ Less) ns
  pub objects : (x : Operation) → Contains A x → Contains os x.op.obj
  pub names : (x : Operation) → Contains A x → (n : List ℕ) → x.op.key ≡ Name n → Contains ns n

module _ (D : List Member) (v : Valid D) (os : List ObjId) (ns : List (List ℕ)) (h : HasAll (operations_of D) os ns) where
  abbrev A : List Operation
  A = operations_of D

  abbrev keys : ObjId → List Key
  keys o = map Name ns ++ map Elem (elements (operations_of D) o)

  abbrev slots : List Slot
  slots = flat_map (λ o. map (λ k. (o, k)) (keys o)) os

  same_object_itself : (o : ObjId) → same_object o o ≡ true
  same_object_itself o = rw (tied_itself object_total o) refl

  element_there : (o : ObjId) (x : Operation) → Contains A x → inserts_into o x ≡ true → Contains (keys o) (Elem x.id)
  element_there o x c t =
      Contains-append_right (map Name ns) (map Elem (elements A o)) (Elem x.id)
      (Contains-map Elem (elements A o) x.id
      (Contains-permutation (map (λ (y : Operation). y.id) (insertions A o)) (elements A o) x.id (follow_references D v o).ids
      (Contains-map (λ (y : Operation). y.id) (insertions A o) x (is_inserted A o x c t))))

  slot_there : (x : Operation) → Contains A x → Contains (keys x.op.obj) (slot x)
  slot_there x c = elim (cases_Bool x.op.insert) [
    | inl t ↦ let is : slot x ≡ Elem x.id = simp t refl in
        subst (Contains (keys x.op.obj)) (sym is) (element_there x.op.obj x c (and_from x.op.insert (same_object x.op.obj x.op.obj) t (same_object_itself x.op.obj)))
    | inr f ↦ let is : slot x ≡ x.op.key = simp f refl in subst (Contains (keys x.op.obj)) (sym is) (go x.op.key refl f)
  ]
    where
      go : (k : Key) → x.op.key ≡ k → x.op.insert ≡ false → Contains (keys x.op.obj) k
      go (Name n) e f = Contains-append_left (map Name ns) (map Elem (elements A x.op.obj)) (Name n) (Contains-map Name ns n (h.names x c n e))
      go Head e f = absurd (both_ways x.op.insert f ((fine_op D (grounds_valid D v) x c).head e))
      go (Elem r) e f =
          let z = refers D (grounds_valid D v) x c r e in
          subst (λ i. Contains (keys x.op.obj) (Elem i)) z.has_id (element_there x.op.obj z.insertion z.is_among z.inserts)

  slots_are : AreSlots (operations_of D) slots
  slots_are = record {
    ascend = objects_ascend (elements A) keys (λ o. keys_ascend (elements A) o ns h.ns_ascend (in_place (elements A o) (once_elements D v o))) os h.os_ascend;
    all = λ x k.
        let c = Contains-from_sorted_by operation_cmp A x (Contains-from_filter stays (ascending A) x k).0 in
        Contains-flat_map (λ o. map (λ k. (o, k)) (keys o)) os x.op.obj (x.op.obj, slot x) (h.objects x c)
        (Contains-map (λ k. (x.op.obj, k)) (keys x.op.obj) (slot x) (slot_there x c));
  }

  in_keys : (o : ObjId) → flat_map (new_in A) (map (λ k. (o, k)) (keys o)) ≡ group A ns o
  in_keys o =
      flat_map-map (new_in A) (λ k. (o, k)) (keys o)
      ∙ flat_map-append (λ k. new_in A (o, k)) (map Name ns) (map Elem (elements A o))
      ∙ (λ i. flat_map-map (λ k. new_in A (o, k)) Name ns i ++ flat_map-map (λ k. new_in A (o, k)) Elem (elements A o) i)

  pub rows_grouped : rows (operations_of D) ≡ flat_map (group (operations_of D) ns) os
  rows_grouped =
      sym (plan_rows [] D nothing_valid v slots slots_are)
      ∙ ap (λ rs. carried (plan A slots rs) rs) no_rows
      ∙ plan_carried A slots []
      ∙ joined_alone A slots
      ∙ flat_map-flat_map (new_in A) (λ o. map (λ k. (o, k)) (keys o)) os
      ∙ ap (λ (f : ObjId → List Row). flat_map f os) (λ i o. in_keys o i)
