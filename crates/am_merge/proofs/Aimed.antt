-- Who names whom, step by step along the links; and stacks of places.
use Rattle.std.proofs.Common.{ℕ, ◌≡◌, ◌+◌, ◌<◌, ◌==◌, List, [], ◌∷◌, ◌++◌, All, true, false, drop, filter, get_or, length, map, take, refl, sym, subst, ap, ◌∙◌, inl, inr, append_assoc, drop-cons}
use Rattle.std.specs.List.{AllByRecursion}
use Rattle.std.proofs.lemmas.Bool.{cases_Bool}
use Rattle.std.proofs.lemmas.List.{append-nil, drop-map, reverse-append}
use Rattle.std.proofs.lemmas.List.Elements.{All-append, All-from_recursion, recursion_from_All}
use Rattle.std.proofs.lemmas.List.Sorted.{All-permutation}
use Rattle.am_types.specs.declared.OpId.{OpId}
use Rattle.am_types.specs.Operations.{Operation, ascending}
use Rattle.am_types.specs.Rows.{succs}
use Rattle.am_types.specs.Order.{sorted_by}
use Rattle.am_types.proofs.Sorting.{IsPermutation-sorted_by}
use Rattle.am_places.specs.Numbered.{operation_of}
use Rattle.am_places.specs.declared.numbered.Numbered.{Numbered}
use Rattle.am_places.specs.Sound.{HaveDistinctPreds}
use Rattle.am_places.proofs.Stable.{sorted_by-map}
use Rattle.am_merge.specs.Aims.{AreLinked, Tells, means_element, means_id, namers, one_at, picked, places_to, stacked_at}
use Rattle.am_merge.specs.Buckets.{IsNext, is_in}
use Rattle.am_merge.specs.Starts.{Placed, Stands, by_placed, by_start}
use Rattle.am_merge.specs.Turns.{pushed}
use Rattle.am_merge.specs.Naming.{Named, is_named, predecessors, references}
use Rattle.am_merge.specs.Walk.{beginning, behind, behind_of, hanging, spot_of, starts}
use Rattle.am_merge.specs.declared.aims.Aim.{Aim}
use Rattle.am_merge.specs.declared.aims.Aims.{Aims}
use Rattle.am_merge.proofs.Linked.{next_more}
use Rattle.am_merge.proofs.Lists.{map-map}
use Rattle.am_merge.proofs.NamedLaws.{hung_named, succs_named}
use Rattle.am_merge.proofs.Starting.{starts_alike}

abbrev target : Aim → ℕ
target a = a.target

abbrev place : Aim → ℕ
place a = a.place

abbrev by : Named → Operation
by n = n.operation

abbrev id_in : Operation → OpId
id_in x = x.id

-- ---- what stands at a place

pub one_there : (ns : List Numbered) (k : ℕ) (n : Numbered) → k < length ns → n ≡ get_or ns k n → one_at (map operation_of ns) k ≡ operation_of n ∷ []
one_there ns k n l is = ap (take 1) (drop-map operation_of k ns ∙ ap (map operation_of) (drop-cons ns k n l)) ∙ ap (λ m. operation_of m ∷ []) (sym is)

-- ---- stacks

pub stacked_more : (A : List Operation) (ks : List ℕ) (k : ℕ) (x : Operation) → one_at A k ≡ x ∷ [] → stacked_at A (ks ++ k ∷ []) ≡ x ∷ stacked_at A ks
stacked_more A ks k x e = ap (picked A) (reverse-append ks (k ∷ [])) ∙ ap (λ l. l ++ stacked_at A ks) e

pushed_short : (l ws : List Operation) → pushed (take 1 l) ws ≡ take 1 l ++ ws
pushed_short [] ws = refl
pushed_short (x ∷ l) ws = refl

pushed_both : (xs ys ws : List Operation) → pushed (xs ++ ys) ws ≡ pushed ys (pushed xs ws)
pushed_both [] ys ws = refl
pushed_both (x ∷ xs) ys ws = pushed_both xs ys (x ∷ ws)

pub stacked_pushed : (A : List Operation) (ks more : List ℕ) → stacked_at A (ks ++ more) ≡ pushed (picked A more) (stacked_at A ks)
stacked_pushed A ks [] = ap (stacked_at A) (append-nil ks)
stacked_pushed A ks (k ∷ more) =
    ap (stacked_at A) (sym (append_assoc ks (k ∷ []) more))
    ∙ stacked_pushed A (ks ++ k ∷ []) more
    ∙ ap (pushed (picked A more)) (ap (picked A) (reverse-append ks (k ∷ [])) ∙ sym (pushed_short (drop k A) (stacked_at A ks)))
    ∙ sym (pushed_both (one_at A k) (picked A more) (stacked_at A ks))

pub one_within : (n k : ℕ) (ks : List ℕ) → All (λ j. j < n) ks → k < n → All (λ j. j < n) (ks ++ k ∷ [])
one_within n k ks all l = All-append (λ j. j < n) ks (k ∷ []) all (All-from_recursion (λ j. j < n) (k ∷ []) (l, tt))

split_within : (n k : ℕ) (ks : List ℕ) → AllByRecursion (λ j. j < n) (ks ++ k ∷ []) → (k < n) × AllByRecursion (λ j. j < n) ks
split_within n k [] all = (all.0, tt)
split_within n k (j ∷ ks) all = let again = split_within n k ks all.1 in (again.0, (all.0, again.1))

-- the top of a stack, and what is below it
pub last_within : (n k : ℕ) (ks js : List ℕ) → js ≡ ks ++ k ∷ [] → All (λ j. j < n) js → k < n
last_within n k ks js e all = (split_within n k ks (recursion_from_All (λ j. j < n) (ks ++ k ∷ []) (subst (All (λ j. j < n)) e all))).0

pub others_within : (n k : ℕ) (ks js : List ℕ) → js ≡ ks ++ k ∷ [] → All (λ j. j < n) js → All (λ j. j < n) ks
others_within n k ks js e all =
    All-from_recursion (λ j. j < n) ks (split_within n k ks (recursion_from_All (λ j. j < n) (ks ++ k ∷ []) (subst (All (λ j. j < n)) e all))).1

namers_within : (n k : ℕ) (aims : List Aim) → AllByRecursion (λ (a : Aim). a.place < n) aims → AllByRecursion (λ j. j < n) (places_to aims k)
namers_within n k [] all = tt
namers_within n k (a ∷ aims) all =
    let again : AllByRecursion (λ j. j < n) (places_to aims k) = namers_within n k aims all.1 in
    elim (cases_Bool (a.target == k)) [ inl e ↦ simp e (all.0, again) | inr e ↦ simp e again ]

pub more_within : (n k : ℕ) (ks : List ℕ) (aims : List Aim) → All (λ j. j < n) ks → All (λ (a : Aim). a.place < n) aims → All (λ j. j < n) (ks ++ places_to aims k)
more_within n k ks aims all places =
    All-append (λ j. j < n) ks (places_to aims k) all
    (All-from_recursion (λ j. j < n) (places_to aims k) (namers_within n k aims (recursion_from_All (λ (a : Aim). a.place < n) aims places)))

-- ---- what starts, beside its place

abbrev pub operation_in : Placed → Operation
operation_in p = p.operation

pub starts_sorted : (A : List Operation) (ps : List Placed) → map operation_in ps ≡ filter starts A → ascending A ≡ A → map operation_in (sorted_by by_placed ps) ≡ beginning A
starts_sorted A ps e up = sym (sorted_by-map by_start operation_in ps) ∙ ap (sorted_by by_start) e ∙ starts_alike A up

pub stand_sorted : (A : List Operation) (ps : List Placed) → All (Stands A) ps → All (Stands A) (sorted_by by_placed ps)
stand_sorted A ps all = All-permutation (Stands A) ps (sorted_by by_placed ps) (IsPermutation-sorted_by by_placed ps) all

-- ---- who names what is at a place

pub namers_are : (A : List Operation) (t : Aims) (k : ℕ) (x : Operation) → Tells means_id A (predecessors A) t → one_at A k ≡ x ∷ [] → ascending A ≡ A → HaveDistinctPreds A
    → map id_in (namers A t.aims.items k) ≡ succs A x.id
namers_are A t k x told there up distinct =
    ap (map id_in) (told.are.tell k x there)
    ∙ map-map id_in (λ (n : Named). n.operation) (filter (means_id x) (predecessors A))
    ∙ succs_named x.id A up distinct

by_insertion : (x : Operation) (ns : List Named) → x.op.insert ≡ true → filter (means_element x) ns ≡ filter (is_named x.op.obj x.id) ns
by_insertion x [] t = refl
by_insertion x (n ∷ ns) t = let again = by_insertion x ns t in rw (t, again) refl

by_none : (x : Operation) (ns : List Named) → x.op.insert ≡ false → filter (means_element x) ns ≡ []
by_none x [] f = refl
by_none x (n ∷ ns) f = let again = by_none x ns f in rw (f, again) refl

-- what waits once it has come
pub namers_wait : (A : List Operation) (t : Aims) (k : ℕ) (x : Operation) (ks : List ℕ) → Tells means_element A (references (hanging A)) t → one_at A k ≡ x ∷ []
    → stacked_at A (ks ++ places_to t.aims.items k) ≡ behind A (spot_of x) (stacked_at A ks)
namers_wait A t k x ks told there =
    stacked_pushed A ks (places_to t.aims.items k)
    ∙ ap (λ l. pushed l (stacked_at A ks)) (told.are.tell k x there)
    ∙ elim (cases_Bool x.op.insert) [
      | inl e ↦ ap (λ ns. pushed (map by ns) (stacked_at A ks)) (by_insertion x (references (hanging A)) e) ∙ ap (λ l. pushed l (stacked_at A ks)) (hung_named x.op.obj x.id (hanging A))
          ∙ ap (λ b. behind_of A b x.op.obj x.id (stacked_at A ks)) (sym e)
      | inr e ↦ ap (λ ns. pushed (map by ns) (stacked_at A ks)) (by_none x (references (hanging A)) e) ∙ ap (λ b. behind_of A b x.op.obj x.id (stacked_at A ks)) (sym e)
    ]

-- ---- one step along the links

module _ (t : Aims) (linked : AreLinked t) (k i h : ℕ) (a : Aim) (l : i < length t.aims.items) (at : a ≡ get_or t.aims.items i a) (is : (get_or t.aims.items i a).target ≡ k) (from : h ≡ get_or t.nexts.items i h) where
  abbrev rest : ℕ → List Aim
  rest j = filter (is_in target k) (drop j t.aims.items)

  both : IsNext (is_in target k) t.aims.items (i + 1) h × (a ∷ rest h ≡ rest i)
  both = next_more target t.aims.items k i h t.heads.items t.nexts.items a [] (a ∷ []) (rest i) linked.links linked.nexts l at is from refl refl

  pub onward : IsNext (is_in target k) t.aims.items (i + 1) h
  onward = both.0

  pub one_place : (before after whole : List ℕ) → after ≡ before ++ a.place ∷ [] → before ++ map place (rest i) ≡ whole → after ++ map place (rest h) ≡ whole
  one_place before after whole pushed all =
      ap (λ ps. ps ++ map place (rest h)) pushed
      ∙ append_assoc before (a.place ∷ []) (map place (rest h))
      ∙ ap (λ bs. before ++ map place bs) both.1
      ∙ all

  pub one_id : (ns : List Numbered) (n : Numbered) → a.place < length ns → n ≡ get_or ns a.place n → (before after whole : List OpId) → after ≡ before ++ (operation_of n).id ∷ []
      → before ++ map id_in (picked (map operation_of ns) (map place (rest i))) ≡ whole → after ++ map id_in (picked (map operation_of ns) (map place (rest h))) ≡ whole
  one_id ns n low there before after whole pushed all =
      ap (λ ids. ids ++ map id_in (picked (map operation_of ns) (map place (rest h)))) pushed
      ∙ append_assoc before ((operation_of n).id ∷ []) (map id_in (picked (map operation_of ns) (map place (rest h))))
      ∙ ap (λ xs. before ++ map id_in (xs ++ picked (map operation_of ns) (map place (rest h)))) (sym (one_there ns a.place n low there))
      ∙ ap (λ bs. before ++ map id_in (picked (map operation_of ns) (map place bs))) both.1
      ∙ all
