-- What a table tells of an element, and of a predecessor.
use Rattle.std.proofs.Common.{◌≡◌, List, [], ◌∷◌, ◌++◌, map, filter, Bool, true, false, ◌&&◌, refl, sym, ap, ◌∙◌, subst, inl, inr, Contains}
use Rattle.std.specs.List.{AllByRecursion}
use Rattle.std.proofs.lemmas.Bool.{both_ways, cases_Bool}
use Rattle.std.proofs.lemmas.List.{map-append}
use Rattle.std.proofs.lemmas.List.Elements.{filter-append}
use Rattle.am_types.specs.declared.OpId.{OpId}
use Rattle.am_types.specs.declared.ObjId.{ObjId}
use Rattle.am_types.specs.declared.ObjId.TheVariants.{Root}
use Rattle.am_types.specs.declared.Key.{Key}
use Rattle.am_types.specs.declared.Key.TheVariants.{Name, Head, Elem}
use Rattle.am_types.specs.Order.{among, id_cmp, same}
use Rattle.am_types.specs.Same.{same_id, same_key, same_object}
use Rattle.am_types.specs.Operations.{Operation, ascending}
use Rattle.am_types.specs.Rows.{succs}
use Rattle.am_types.proofs.Lists.{Contains-head, Contains-tail}
use Rattle.am_types.proofs.Orders.{same_id-true, same_id_itself}
use Rattle.am_places.specs.Sound.{AreDistinct, HaveDistinctPreds}
use Rattle.am_merge.specs.Naming.{Named, is_named, naming_each, predecessors, reference, reference_of, references}
use Rattle.am_merge.specs.Walk.{hangs_on}
use Rattle.am_merge.proofs.Lists.{map-map, same_answers}

abbrev by : Named → Operation
by n = n.operation

and_no : (a : Bool) → (a && false) ≡ false
and_no true = refl
and_no false = refl

-- ---- elements

module _ (o : ObjId) (e : OpId) where
  one_reference : (x : Operation) (k : Key) → x.op.key ≡ k → map by (filter (is_named o e) (reference_of x k)) ≡ filter (hangs_on o e) (x ∷ [])
  one_reference x (Name n) h = let f : hangs_on o e x ≡ false = ap (λ k. same_object x.op.obj o && same_key k (Elem e)) h ∙ and_no (same_object x.op.obj o) in simp f refl
  one_reference x Head h = let f : hangs_on o e x ≡ false = ap (λ k. same_object x.op.obj o && same_key k (Elem e)) h ∙ and_no (same_object x.op.obj o) in simp f refl
  one_reference x (Elem i) h =
      let is : hangs_on o e x ≡ (same_object x.op.obj o && same_id i e) = ap (λ k. same_object x.op.obj o && same_key k (Elem e)) h in
      elim (cases_Bool (same_object x.op.obj o && same_id i e)) [
        | inl t ↦ let u : hangs_on o e x ≡ true = is ∙ t in simp (t, u) refl
        | inr t ↦ let u : hangs_on o e x ≡ false = is ∙ t in simp (t, u) refl
      ]

  pub hung_named : (xs : List Operation) → map (λ n. n.operation) (filter (is_named o e) (references xs)) ≡ filter (hangs_on o e) xs
  hung_named [] = refl
  hung_named (x ∷ xs) =
      ap (map by) (filter-append (is_named o e) (reference x) (references xs))
      ∙ map-append by (filter (is_named o e) (reference x)) (filter (is_named o e) (references xs))
      ∙ (λ i. one_reference x x.op.key refl i ++ hung_named xs i)
      ∙ sym (filter-append (hangs_on o e) (x ∷ []) xs)

-- ---- predecessors

module _ (i : OpId) where
  turned : (p : OpId) → same_id p i ≡ same id_cmp i p
  turned p = same_answers (same_id p i) (same id_cmp i p)
      (λ t. subst (λ q. same_id i q ≡ true) (sym (same_id-true p i t)) (same_id_itself i))
      (λ t. subst (λ q. same_id p q ≡ true) (sym (same_id-true i p t)) (same_id_itself p))

  abbrev naming_all : Operation → List OpId → List Named
  naming_all x ps = map (λ p. let n : Named = record { obj = Root; id = p; operation = x } in n) ps

  none_left : (x : Operation) (p : OpId) (ps : List OpId) → same_id p i ≡ true → AllByRecursion (λ q. same_id p q ≡ false) ps → filter (is_named Root i) (naming_all x ps) ≡ []
  none_left x p [] t all = refl
  none_left x p (q ∷ ps) t all =
      let f : same_id q i ≡ false = not_both (same_id q i) refl in
      simp f (none_left x p ps t all.1)
    where
      not_both : (b : Bool) → same_id q i ≡ b → same_id q i ≡ false
      not_both true u = absurd (both_ways (same_id p q) all.0 (subst (λ j. same_id p j ≡ true) (same_id-true p i t ∙ sym (same_id-true q i u)) (same_id_itself p)))
      not_both false u = u

  abbrev if_any : Bool → Operation → List Operation
  if_any true x = x ∷ []
  if_any false x = []

  each_once : (x : Operation) (ps : List OpId) → AreDistinct ps → map by (filter (is_named Root i) (naming_all x ps)) ≡ if_any (among id_cmp ps i) x
  each_once x [] d = refl
  each_once x (p ∷ ps) d = elim (cases_Bool (same_id p i)) [
    | inl t ↦ let u : same id_cmp i p ≡ true = sym (turned p) ∙ t in
        let rest : filter (is_named Root i) (naming_all x ps) ≡ [] = none_left x p ps t d.0 in
        simp (t, u, rest) refl
    | inr t ↦ let u : same id_cmp i p ≡ false = sym (turned p) ∙ t in
        simp (t, u) (each_once x ps d.1)
  ]

  one_kept : (x : Operation) → if_any (among id_cmp x.op.preds i) x ≡ filter (λ x. among id_cmp x.op.preds i) (x ∷ [])
  one_kept x = elim (cases_Bool (among id_cmp x.op.preds i)) [ inl t ↦ simp t refl | inr t ↦ simp t refl ]

  named_all : (xs : List Operation) → ((x : Operation) → Contains xs x → AreDistinct x.op.preds) → map by (filter (is_named Root i) (predecessors xs)) ≡ filter (λ x. among id_cmp x.op.preds i) xs
  named_all [] d = refl
  named_all (x ∷ xs) d =
      ap (map by) (filter-append (is_named Root i) (naming_each x) (predecessors xs))
      ∙ map-append by (filter (is_named Root i) (naming_each x)) (filter (is_named Root i) (predecessors xs))
      ∙ (λ j. (each_once x x.op.preds (d x (Contains-head x xs)) ∙ one_kept x) j ++ named_all xs (λ y c. d y (Contains-tail x xs y c)) j)
      ∙ sym (filter-append (λ x. among id_cmp x.op.preds i) (x ∷ []) xs)

  pub succs_named : (A : List Operation) → ascending A ≡ A → HaveDistinctPreds A → map (λ n. n.operation.id) (filter (is_named Root i) (predecessors A)) ≡ succs A i
  succs_named A up d =
      sym (map-map (λ (x : Operation). x.id) by (filter (is_named Root i) (predecessors A)))
      ∙ ap (map (λ (x : Operation). x.id)) (named_all A d ∙ ap (filter (λ x. among id_cmp x.op.preds i)) (sym up))
