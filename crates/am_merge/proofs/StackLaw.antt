-- Where references are there, the walk with a stack gives the elements of a larger set.
use Rattle.std.proofs.Common.{◌≡◌, ◌≢◌, ◌+◌, List, [], ◌∷◌, ◌++◌, length, map, true, false, not, refl, sym, ap, ◌∙◌, subst, inl, inr, Contains, IsPermutation, arith}
use Rattle.std.specs.List.{AllByRecursion, flat_map}
use Rattle.std.specs.Ordering.{is_gt}
use Rattle.std.proofs.lemmas.Bool.{both_ways, not-true, and_parts}
use Rattle.std.proofs.lemmas.List.{length-append, map-append}
use Rattle.std.proofs.lemmas.List.Concat.{flat_map-append}
use Rattle.std.proofs.lemmas.List.Kept.{AllPairs-filter}
use Rattle.std.proofs.lemmas.List.Elements.{Contains-append_left, Contains-append_right, Contains-append_cases, filter-append, recursion_from_All}
use Rattle.std.proofs.lemmas.List.Sorted.{IsPermutation-refl, IsPermutation-sym, IsPermutation-trans, IsPermutation-map, IsPermutation-append, IsPermutation-append_right, Contains-permutation, length_permutation}
use Rattle.am_types.specs.declared.OpId.{OpId}
use Rattle.am_types.specs.declared.ObjId.{ObjId}
use Rattle.am_types.specs.declared.Key.{Key}
use Rattle.am_types.specs.declared.Key.TheVariants.{Name, Head, Elem}
use Rattle.am_types.specs.Same.{same_object}
use Rattle.am_types.specs.Operations.{Operation, operations, operation_cmp, ascending, DistinctIds, OneOperationPerId}
use Rattle.am_types.specs.Members.{Member, changes}
use Rattle.am_types.specs.ValidSets.{Valid}
use Rattle.am_types.specs.Elements.{elements, insertions, inserts_into}
use Rattle.am_laws.specs.Laws.{ReferenceIsThere}
use Rattle.am_laws.proofs.Ancestry.{Contains-from_filter, Contains-filter}
use Rattle.am_laws.proofs.DistinctOperations.{distinct_ids_valid}
use Rattle.am_laws.proofs.ListingLaws.{one_per_id}
use Rattle.am_laws.proofs.Following.{follow_references}
use Rattle.am_types.proofs.Lists.{all_of, Contains-head, Contains-tail}
use Rattle.am_types.proofs.Permuted.{operation_total}
use Rattle.am_types.proofs.Permutations.{IsPermutation-filter}
use Rattle.am_laws.proofs.References.{stands}
use Rattle.am_types.proofs.Rising.{Rises, Rises-sorted_by, filter-sorted_by}
use Rattle.am_types.proofs.SameLaws.{same_object-true, same_key-true}
use Rattle.am_types.proofs.Sorting.{IsPermutation-sorted_by}
use Rattle.am_laws.proofs.ValidSetLaws.{grounds_valid}
use Rattle.am_chain.specs.Passing.{put_passing, IsAbove, IsAboveReference, into}
use Rattle.am_chain.proofs.Passing.{put_in_turn-more}
use Rattle.am_merge.specs.Turns.{Turn, children, others, named_by, pushed, turns, grown, id_of_turn, arrivals}
use Rattle.am_merge.specs.Laws.{operations_of, WalksElements, ElementsWalkTree}
use Rattle.am_merge.proofs.Lists.{Contains-map}
use Rattle.am_merge.proofs.Once.{Once, once-permutation, once_distinct, first_alone, once_tail, once_apart}
use Rattle.am_merge.proofs.Stack.{BelowAll, Climbs, AllAboveAll, other_way, climbs_filtered, all_filtered, falls_pushed, pushed_permutes, step_permutes}
use Rattle.am_merge.proofs.TurnLaws.{ids, Waits, IsReached, left, Stands, Does, does_turns}

-- what is among the insertions
pub record Inserted (A : List Operation) (o : ObjId) (x : Operation) : Type 0 where
  pub among : Contains A x
  pub into_it : inserts_into o x ≡ true

pub inserted : (A : List Operation) (o : ObjId) (x : Operation) → Contains (insertions A o) x → Inserted A o x
inserted A o x c =
    let f = Contains-from_filter (inserts_into o) (ascending A) x c in
    record { among = Contains-permutation (ascending A) A x (IsPermutation-sym A (ascending A) (IsPermutation-sorted_by operation_cmp A)) f.0; into_it = f.1 }

pub is_inserted : (A : List Operation) (o : ObjId) (x : Operation) → Contains A x → inserts_into o x ≡ true → Contains (insertions A o) x
is_inserted A o x c t = Contains-filter (inserts_into o) (ascending A) x (Contains-permutation A (ascending A) x (IsPermutation-sorted_by operation_cmp A) c) t

pub insertions_permute : (A : List Operation) (o : ObjId) → IsPermutation (into o A) (insertions A o)
insertions_permute A o = IsPermutation-filter (inserts_into o) A (ascending A) (IsPermutation-sorted_by operation_cmp A)

pub insertions_rise : (A : List Operation) (o : ObjId) → Rises operation_total (insertions A o)
insertions_rise A o = subst (Rises operation_total) (sym (filter-sorted_by operation_total (inserts_into o) A)) (Rises-sorted_by operation_total (into o A))

pub above_there : (A : List Operation) (x : Operation) (k : Key) → ReferenceIsThere A x k → IsAbove x.id k
above_there A x Head there = tt
above_there A x (Elem r) there = there.lower
above_there A x (Name n) there = tt

-- what rises without repeats climbs
pub climbs_rising : (xs : List Operation) → Rises operation_total xs → Once (ids xs) → Climbs xs
climbs_rising [] r once = tt
climbs_rising (x ∷ xs) r once = (go xs r.0 (λ y c e. first_alone x.id (ids xs) once (subst (Contains (ids xs)) (sym e) (Contains-map (λ (z : Operation). z.id) xs y c))), climbs_rising xs r.1 (once_tail x.id (ids xs) once))
  where
    go : (ys : List Operation) → AllByRecursion (λ y. is_gt (operation_cmp x y) ≡ false) ys → ((y : Operation) → Contains ys y → x.id ≢ y.id) → BelowAll x.id ys
    go [] all n = tt
    go (y ∷ ys) all n = (other_way x.id y.id (n y (Contains-head y ys)) all.0, go ys all.1 (λ z c. n z (Contains-tail y ys z c)))

pub above_nothing : (xs : List Operation) → AllAboveAll xs []
above_nothing [] = tt
above_nothing (x ∷ xs) = (tt, above_nothing xs)

-- B are further operations beside A
pub record Grows (A B : List Operation) (o : ObjId) : Type 0 where
  pub distinct : DistinctIds (A ++ B)
  pub one : OneOperationPerId (A ++ B)
  pub follow : IsPermutation (ids (insertions A o)) (elements A o)
  pub old : (x : Operation) → Contains A x → inserts_into o x ≡ true → ReferenceIsThere A x x.op.key
  pub new : (x : Operation) → Contains B x → inserts_into o x ≡ true → ReferenceIsThere (A ++ B) x x.op.key

module _ (A B : List Operation) (o : ObjId) (g : Grows A B o) where
  abbrev fs : List OpId
  fs = elements A o

  abbrev xs : List Operation
  xs = insertions B o

  abbrev first : List Operation
  first = pushed (children Head xs) []

  abbrev rest : List Operation
  rest = others Head xs

  first_permutes : IsPermutation xs (first ++ rest)
  first_permutes = step_permutes Head [] xs

  all_once : Once (fs ++ ids xs)
  all_once =
      once-permutation (ids (into o (A ++ B))) (fs ++ ids xs)
      (subst (λ l. IsPermutation l (fs ++ ids xs)) (sym (ap ids (filter-append (inserts_into o) A B) ∙ map-append (λ (x : Operation). x.id) (into o A) (into o B)))
      (IsPermutation-append (ids (into o A)) fs (ids (into o B)) (ids xs)
      (IsPermutation-trans (ids (into o A)) (ids (insertions A o)) fs (IsPermutation-map (λ (x : Operation). x.id) (into o A) (insertions A o) (insertions_permute A o)) g.follow)
      (IsPermutation-map (λ (x : Operation). x.id) (into o B) xs (insertions_permute B o))))
      (once_distinct (into o (A ++ B)) (AllPairs-filter (λ (x y : Operation). x.id ≢ y.id) (inserts_into o) (A ++ B) g.distinct))

  once_right : (a b : List OpId) → Once (a ++ b) → Once b
  once_right [] b c = c
  once_right (i ∷ a) b c = once_right a b (once_tail i (a ++ b) c)

  pub climbs : Climbs (insertions B o)
  climbs = climbs_rising xs (insertions_rise B o) (once_right fs (ids xs) all_once)

  new_there : (x : Operation) → Contains xs x → ReferenceIsThere (A ++ B) x x.op.key
  new_there x c = let i = inserted B o x c in g.new x i.among i.into_it

  above : AllByRecursion IsAboveReference xs
  above = recursion_from_All IsAboveReference xs (all_of IsAboveReference xs (λ x c. above_there (A ++ B) x x.op.key (new_there x c)))

  to_left : (r : OpId) → Contains (fs ++ ids xs) r → Contains (left fs first rest) r
  to_left r c = Contains-permutation (fs ++ ids xs) (left fs first rest) r (IsPermutation-append_right fs (ids xs) (ids (first ++ rest)) (IsPermutation-map (λ (x : Operation). x.id) xs (first ++ rest) first_permutes)) c

  object_is : (x : Operation) → inserts_into o x ≡ true → x.op.obj ≡ o
  object_is x t = same_object-true x.op.obj o (and_parts x.op.insert (same_object x.op.obj o) t).1

  -- the id of an insertion
  stands_among : (z : Operation) → Contains (A ++ B) z → inserts_into o z ≡ true → Contains (fs ++ ids xs) z.id
  stands_among z c t = elim (Contains-append_cases A B z c) [
    | inl a ↦ Contains-append_left fs (ids xs) z.id (Contains-permutation (ids (insertions A o)) fs z.id g.follow (Contains-map (λ (x : Operation). x.id) (insertions A o) z (is_inserted A o z a t)))
    | inr b ↦ Contains-append_right fs (ids xs) z.id (Contains-map (λ (x : Operation). x.id) xs z (is_inserted B o z b t))
  ]

  pub begins : Stands [] (elements A o) (pushed (children Head (insertions B o)) []) (others Head (insertions B o))
  begins = record {
    once = once-permutation (fs ++ ids xs) (left fs first rest) (IsPermutation-append_right fs (ids xs) (ids (first ++ rest)) (IsPermutation-map (λ (x : Operation). x.id) xs (first ++ rest) first_permutes)) all_once;
    falls = falls_pushed (children Head xs) [] (climbs_filtered (named_by Head) xs climbs) tt (above_nothing (children Head xs));
    climbs = climbs_filtered (λ x. not (named_by Head x)) xs climbs;
    above = all_filtered IsAboveReference (λ x. not (named_by Head x)) xs above;
    waits = λ x c. waits_head x (key_head x c);
    reached = λ y c. let f = Contains-from_filter (λ x. not (named_by Head x)) xs y c in
        reached y f.0 y.op.key refl (λ e. both_ways (named_by Head y) (not-true (named_by Head y) f.1) (rw e refl)) (new_there y f.0);
  }
    where
      key_head : (x : Operation) → Contains first x → x.op.key ≡ Head
      key_head x c = elim (Contains-append_cases (children Head xs) [] x (Contains-permutation first (children Head xs ++ []) x (IsPermutation-sym (children Head xs ++ []) first (pushed_permutes (children Head xs) [])) c)) [
        | inl d ↦ same_key-true x.op.key Head (Contains-from_filter (named_by Head) xs x d).1
        | inr d ↦ absurd (omega (arith, d.1))
      ]

      waits_head : (x : Operation) → x.op.key ≡ Head → Waits [] x
      waits_head x e = record {
        placed = λ gs. ap (λ k. put_passing k x.id gs) e;
        reference = λ r k. absurd (no_head r (sym e ∙ k));
      }
        where
          no_head : (r : OpId) → Head ≡ Elem r → ⊥
          no_head r e = cc

      reached : (y : Operation) → Contains xs y → (k : Key) → y.op.key ≡ k → (y.op.key ≡ Head → ⊥) → ReferenceIsThere (A ++ B) y k → IsReached (left fs first rest) y
      reached y c Head e n there = absurd (n e)
      reached y c (Elem r) e n there = record {
        reference = r;
        key = e;
        comes = to_left r (subst (Contains (fs ++ ids xs)) there.has_id (stands_among there.insertion there.is_among (subst (λ p. inserts_into p there.insertion ≡ true) (object_is y (inserted B o y c).into_it) there.inserts)));
      }
      reached y c (Name m) e n there = absurd there

  does : Does [] fs first rest (turns (length fs + length xs) fs first rest)
  does =
      let size = length_permutation xs (first ++ rest) first_permutes in
      let both = length-append first rest in
      does_turns (length fs + length xs) [] fs first rest (omega arith) begins

  abbrev ts : List Turn
  ts = grown fs xs

  pub listed : IsPermutation (into o B) (arrivals (grown (elements A o) (insertions B o)))
  listed = IsPermutation-trans (into o B) xs (arrivals ts) (insertions_permute B o) (IsPermutation-trans xs (first ++ rest) (arrivals ts) first_permutes does.all)

  from_arrivals : (y : Operation) → Contains (arrivals ts) y → Contains (into o B) y
  from_arrivals y c = Contains-permutation (arrivals ts) (into o B) y (IsPermutation-sym (into o B) (arrivals ts) listed) c

  -- old insertions don't refer to new ones
  apart : (x : Operation) → Contains A x → inserts_into o x ≡ true → (y : Operation) → Contains B y → (k : Key) → ReferenceIsThere A x k → k ≢ Elem y.id
  apart x cx t y cy Head there e = cc
  apart x cx t y cy (Elem r) there e =
      let z = there.insertion in
      let same : z.id ≡ y.id = there.has_id ∙ elem_is e in
      let is : z ≡ y = g.one z y (Contains-append_left A B z there.is_among) (Contains-append_right A B y cy) same in
      twice A there.is_among (subst (Contains B) (sym is) cy) g.distinct
    where
      elem_is : {i j : OpId} → Elem i ≡ Elem j → i ≡ j
      elem_is h = cc

      twice : {z : Operation} (A : List Operation) → Contains A z → Contains B z → DistinctIds (A ++ B) → ⊥
      twice {z} A ca cb d =
          once_apart (ids A) (ids B) (subst Once (map-append (λ (x : Operation). x.id) A B) (once_distinct (A ++ B) d)) z.id
          (Contains-map (λ (x : Operation). x.id) A z ca) (Contains-map (λ (x : Operation). x.id) B z cb)
  apart x cx t y cy (Name n) there e = there

  pub walks : map id_of_turn ts ≡ elements (A ++ B) o
  walks =
      sym does.put
      ∙ put_in_turn-more A B o (arrivals ts)
      (λ x y cx cy e. g.one x y (Contains-from_filter (inserts_into o) (A ++ B) x cx).0 (Contains-from_filter (inserts_into o) (A ++ B) y cy).0 e)
      listed does.back
      (recursion_from_All _ (into o A) (all_of (λ x. AllByRecursion (λ (y : Operation). x.op.key ≢ Elem y.id) (arrivals ts)) (into o A)
      (λ x cx. let fx = Contains-from_filter (inserts_into o) A x cx in
      recursion_from_All _ (arrivals ts) (all_of (λ (y : Operation). x.op.key ≢ Elem y.id) (arrivals ts)
      (λ y cy. apart x fx.0 fx.1 y (Contains-from_filter (inserts_into o) B y (from_arrivals y cy)).0 x.op.key (g.old x fx.0 fx.1))))))
      (recursion_from_All IsAboveReference (into o A) (all_of IsAboveReference (into o A)
      (λ x cx. let fx = Contains-from_filter (inserts_into o) A x cx in above_there A x x.op.key (g.old x fx.0 fx.1))))
      (recursion_from_All IsAboveReference (arrivals ts) (all_of IsAboveReference (arrivals ts)
      (λ y cy. let fy = Contains-from_filter (inserts_into o) B y (from_arrivals y cy) in above_there (A ++ B) y y.op.key (g.new y fy.0 fy.1))))

-- ---- valid sets

pub operations_both : (C E : List Member) → operations_of (C ++ E) ≡ operations_of C ++ operations_of E
operations_both C E = ap (flat_map operations) (map-append (λ (m : Member). m.change) C E) ∙ flat_map-append operations (changes C) (changes E)

pub there_valid : (C : List Member) → Valid C → (o : ObjId) (x : Operation) → Contains (operations_of C) x → inserts_into o x ≡ true → ReferenceIsThere (operations_of C) x x.op.key
there_valid C v o x c t = stands C (grounds_valid C v) x c (and_parts x.op.insert (same_object x.op.obj o) t).0 x.op.key refl

pub grows_valid : (C E : List Member) → Valid C → Valid (C ++ E) → (o : ObjId) → Grows (operations_of C) (operations_of E) o
grows_valid C E v w o =
    let A : List Operation = operations_of C in
    let B : List Operation = operations_of E in
    let both : operations_of (C ++ E) ≡ A ++ B = operations_both C E in
    record {
      distinct = subst DistinctIds both (distinct_ids_valid (C ++ E) w);
      one = subst OneOperationPerId both (one_per_id (C ++ E) w);
      follow = (follow_references C v o).ids;
      old = there_valid C v o;
      new = λ x c t. subst (λ T. ReferenceIsThere T x x.op.key) both (there_valid (C ++ E) w o x (subst (λ T. Contains T x) (sym both) (Contains-append_right A B x c)) t);
    }

pub walks_elements : WalksElements
walks_elements C E v w o = walks (operations_of C) (operations_of E) o (grows_valid C E v w o) ∙ ap (λ T. elements T o) (sym (operations_both C E))

pub nothing_valid : Valid []
nothing_valid = record { listing = []; same = IsPermutation-refl []; in_turn = tt }

pub no_elements : (o : ObjId) → elements [] o ≡ []
unfolding elements
no_elements o = refl

pub elements_walk_tree : ElementsWalkTree
elements_walk_tree C v o = ap (λ fs. map id_of_turn (grown fs (insertions (operations_of C) o))) (sym (no_elements o)) ∙ walks_elements [] C nothing_valid v o
