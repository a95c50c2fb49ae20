-- The tests tell whether rows are those of what is rebuilt from them.
use Rattle.std.proofs.Common.{ℕ, suc, get_or, ◌≡◌, ◌≢◌, ◌+◌, ◌<◌, List, [], ◌∷◌, ◌++◌, length, map, filter, Bool, true, false, not, Some, None, refl, sym, ap, ◌∙◌, subst, inl, inr, arith, All, AllPairs, Contains, IsPermutation}
use Rattle.std.specs.List.{AllByRecursion, IsDistinct, dedup, dedup_from, flat_map}
use Rattle.std.specs.List.Sorted.{IsSorted, IsStrictlySortedBy}
use Rattle.std.specs.Ordering.{is_lt, is_gt}
use Rattle.std.specs.declared.cmp.Ordering.TheVariants.{Less}
use Rattle.std.proofs.lemmas.Bool.{cases_Bool, both_ways, and_parts, and_from, not-true, not_from_false, false_from_ne_true}
use Rattle.std.proofs.lemmas.Cmp.{eq_by_cmp_equiv}
use Rattle.std.proofs.lemmas.List.{get_or-map, length-map, drop_all}
use Rattle.std.proofs.lemmas.Simd.{map-map}
use Rattle.std.proofs.lemmas.List.Elements.{recursion_from_All, All-contains, All-from_recursion, filter-append}
use Rattle.std.proofs.lemmas.List.Kept.{Contains-dedup, Contains-from_dedup, IsStrictlySortedBy-dedup, IsSortedBy-filter}
use Rattle.std.proofs.lemmas.List.Sorted.{ranks_by, IsPermutation-map, IsPermutation-sym, length_permutation}
use Rattle.std.proofs.lemmas.Map.Keys.{IsDistinct-head, IsDistinct-tail, IsDistinct-IsPermutation, IsDistinct-from_sorted, IsDistinct-from_apart, apart_from_distinct, sorted_head, sorted_tail}
use Rattle.am_types.specs.declared.OpId.{OpId}
use Rattle.am_types.specs.declared.Hash.{Hash}
use Rattle.am_types.specs.declared.Change.{Change}
use Rattle.am_types.specs.declared.Row.{Row}
use Rattle.am_types.specs.declared.Table.{Table}
use Rattle.am_types.specs.Actions as actions
use Rattle.am_types.specs.Order.{id_cmp, Ascends}
use Rattle.am_types.specs.Same.{same_id}
use Rattle.am_types.specs.Operations.{all_operations}
use Rattle.am_types.specs.Members.{Member, changes}
use Rattle.am_types.specs.ValidSets.{JoinInTurn}
use Rattle.am_types.specs.Rows.{rows}
use Rattle.am_types.specs.Views.{id_of}
use Rattle.am_types.proofs.Lists.{all_of}
use Rattle.am_types.proofs.Orders.{id_total, same_id-true, same_id_itself}
use Rattle.am_types.proofs.Permutations.{IsPermutation-filter}
use Rattle.am_laws.proofs.SameMembers.{NoRepeat, same_members}
use Rattle.am_histories.specs.Rebuilt.{ids, rebuilt_after, rebuilt}
use Rattle.am_histories.specs.Gapless.{NoGaps}
use Rattle.am_histories.specs.Laws.{Passes}
use Rattle.am_histories.specs.OnePass.{one_pass}
use Rattle.am_histories.proofs.OnePass.{one_pass_tells}
use Rattle.am_histories.proofs.Sorted.{not_less_itself}
use Rattle.am_histories.proofs.Contained.{Contains-map, Contains-from_map}
use Rattle.am_histories.proofs.Restored.{each_once-sorted}
use Rattle.am_histories.proofs.RowsTold.{no_repeat_ids}
use Rattle.am_histories.proofs.Building.{builds_end}
use Rattle.am_histories.proofs.Gapless.{rows_are_rebuilt}
use Rattle.am_rebuild.specs.declared.mention.Named.{Named}
use Rattle.am_rebuild.specs.Mentions.{Mention, named_in, mentions, mention_of, by_author, author_cmp, AreSortedMentions}
use Rattle.am_rebuild.specs.Joined.{BuiltGapless}
use Rattle.am_rebuild.specs.Told.{ids_behind, differ_from, TellsRest}
use Rattle.am_rebuild.proofs.Authors.{author_total, author_exact, author_ties}
use Rattle.am_rebuild.proofs.Ordered.{not_above, sorted-drop}
use Rattle.am_rebuild.proofs.Whole.{filter-map, sorted-map, ties_alike}
use Rattle.am_rebuild.proofs.Mentioned.{id_known, known_id}

abbrev named_id : Named → OpId
named_id n = id_of n.id

flips : (i j : OpId) → same_id i j ≡ same_id j i
flips = (eq_by_cmp_equiv id_total).symm

-- ---- how many ids there are

climbing_once : (is : List OpId) → IsStrictlySortedBy author_cmp is → NoRepeat is
climbing_once [] s = tt
climbing_once (i ∷ is) s = (
  λ c. not_less_itself author_total author_exact i i refl (All-contains (λ j. author_cmp i j ≡ Less) is i (All-from_recursion (λ j. author_cmp i j ≡ Less) is (sorted_head author_cmp i is s)) c),
  climbing_once is (sorted_tail author_cmp i is s),
)

once_from : (i : OpId) (is : List OpId) → ids_behind (Some i) is + 1 ≡ length (dedup_from same_id i is)
once_from i [] = refl
once_from i (j ∷ is) =
    let again = once_from i is in
    let next = once_from j is in
    elim (cases_Bool (same_id j i)) [
      | inl e ↦ let f = flips i j ∙ e in simp (e, f) again
      | inr e ↦ let f = flips i j ∙ e in simp (e, f) (omega arith)
    ]

ids_once : (is : List OpId) → ids_behind None is ≡ length (dedup same_id is)
ids_once [] = refl
ids_once (i ∷ is) = once_from i is

module _ (rs : List Row) (all : List Named) (s : AreSortedMentions rs all) where
  abbrev all_ids : List OpId
  all_ids = map named_id all

  ids_sorted : IsSorted author_cmp all_ids
  ids_sorted = sorted-map author_cmp named_id all s.sorted

  counted : ids_behind None all_ids ≡ length (ids rs)
  counted =
      let once : List OpId = dedup same_id all_ids in
      ids_once all_ids
      ∙ sym (length_permutation once (ids rs)
      (same_members once (ids rs)
      (climbing_once once (IsStrictlySortedBy-dedup author_total ties_alike all_ids ids_sorted))
      (no_repeat_ids (ids rs) (IsDistinct-from_sorted id_cmp (ids rs) (each_once-sorted (flat_map (λ (r : Row). r.id ∷ r.succs) rs))))
      (λ i c.
      let x = Contains-from_map named_id all i (Contains-from_dedup same_id all_ids i c) in
      subst (Contains (ids rs)) x.2 (id_known rs all s x.0 x.1))
      (λ i c.
      let x = known_id rs all s i c in
      Contains-dedup (eq_by_cmp_equiv id_total) same_id-true all_ids i (subst (Contains all_ids) x.2 (Contains-map named_id all x.0 x.1)))))

-- ---- no two rows have one id

later_differ : (i : OpId) (is : List OpId) → IsSorted author_cmp (i ∷ is) → differ_from (Some i) is ≡ true → AllByRecursion (λ j. same_id i j ≡ false) is
later_differ i [] up e = tt
later_differ i (j ∷ is) up e =
    let parts = and_parts (not (same_id i j)) _ e in
    let differ = not-true _ parts.0 in (
      differ,
      recursion_from_All (λ k. same_id i k ≡ false) is (all_of (λ k. same_id i k ≡ false) is (λ k c. false_from_ne_true _ (λ t.
          let d : OpId = k in
          let same_one : k ≡ i = sym (same_id-true i k t) in
          let at : ℕ = c.0 in
          let within : at < length is = c.1 in
          let f : is_gt (author_cmp i j) ≡ false = not_above author_total (λ (x : OpId). x) (i ∷ j ∷ is) up 0 1 d (omega arith) (omega arith) in
          let g : is_gt (author_cmp j (get_or is at d)) ≡ false = not_above author_total (λ (x : OpId). x) (i ∷ j ∷ is) up 1 (suc (suc at)) d (omega arith) (omega arith) in
          let h : is_gt (author_cmp j i) ≡ false = ap (λ (x : OpId). is_gt (author_cmp j x)) (sym (c.2 ∙ same_one)) ∙ g in
          both_ways _ differ (ap (same_id i) (sym (author_ties i j f h)) ∙ same_id_itself i)))),
    )

fewer : (i : OpId) (is : List OpId) → differ_from (Some i) is ≡ true → differ_from None is ≡ true
fewer i [] e = refl
fewer i (j ∷ is) e = (and_parts (not (same_id i j)) _ e).1

differ_distinct : (is : List OpId) → IsSorted author_cmp is → differ_from None is ≡ true → IsDistinct same_id is
unfolding IsDistinct
differ_distinct [] up e = tt
differ_distinct (i ∷ is) up e = (later_differ i is up e, differ_distinct is (sorted-drop author_total (λ (x : OpId). x) (i ∷ is) up 1) (fewer i is e))

differ_later : (i : OpId) (is : List OpId) → AllByRecursion (λ j. same_id i j ≡ false) is → IsDistinct same_id is → differ_from (Some i) is ≡ true
differ_later i [] a d = refl
differ_later i (j ∷ is) a d = and_from _ _ (not_from_false _ a.0) (differ_later j is (IsDistinct-head same_id j is d) (IsDistinct-tail same_id j is d))

distinct_differ : (is : List OpId) → IsDistinct same_id is → differ_from None is ≡ true
distinct_differ [] d = refl
distinct_differ (i ∷ is) d = differ_later i is (IsDistinct-head same_id i is d) (IsDistinct-tail same_id i is d)

abbrev row_id : Row → OpId
row_id r = r.id

abbrev RowsApart : List Row → Type 0
RowsApart rs = AllPairs (λ (r s : Row). r.id ≢ s.id) rs

apart_distinct : (rs : List Row) → RowsApart rs → IsDistinct same_id (map row_id rs)
apart_distinct [] a = IsDistinct-from_apart same_id [] (λ i j d l m. absurd (omega arith))
apart_distinct (r ∷ rs) a = IsDistinct-from_apart same_id (map row_id (r ∷ rs)) (λ i j d l m.
    let n = length-map (r ∷ rs) row_id in
    let there : j < length (r ∷ rs) = omega arith in
    let x = get_or-map row_id (r ∷ rs) i r d (omega arith) in
    let y = get_or-map row_id (r ∷ rs) j r d there in
    false_from_ne_true _ (λ t. a i j r l there (sym x ∙ same_id-true (get_or (map row_id (r ∷ rs)) i d) (get_or (map row_id (r ∷ rs)) j d) t ∙ y)))

distinct_apart : (rs : List Row) → IsDistinct same_id (map row_id rs) → RowsApart rs
distinct_apart rs d i j r l m =
    let n = length-map rs row_id in
    let x = get_or-map row_id rs i r (row_id r) (omega arith) in
    let y = get_or-map row_id rs j r (row_id r) m in
    λ e. both_ways _ (apart_from_distinct same_id (map row_id rs) i j (row_id r) d l (omega arith)) ((λ k. same_id (x k) (y k)) ∙ ap (same_id (get_or rs i r).id) (sym e) ∙ same_id_itself (get_or rs i r).id)

abbrev is_own : Mention → Bool
is_own n = n.own

none_own : (r : Row) (is : List OpId) → filter is_own (map (named_in r) is) ≡ []
none_own r [] = refl
none_own r (i ∷ is) = none_own r is

own_ids : (rs : List Row) → map (λ (m : Mention). m.id) (filter is_own (mentions rs)) ≡ map row_id rs
own_ids [] = refl
own_ids (r ∷ rs) =
    ap (λ l. r.id ∷ map (λ (m : Mention). m.id) l) (filter-append is_own (map (named_in r) r.succs) (mentions rs) ∙ ap (λ l. l ++ filter is_own (mentions rs)) (none_own r r.succs))
    ∙ ap (λ l. r.id ∷ l) (own_ids rs)

module _ (rs : List Row) (all : List Named) (s : AreSortedMentions rs all) where
  abbrev own : Named → Bool
  own n = n.own

  abbrev owned : List Named → List OpId
  owned l = map named_id (filter own l)

  owned_are : owned s.unsorted ≡ map row_id rs
  owned_are =
      sym (map-map (λ (m : Mention). m.id) mention_of (filter own s.unsorted))
      ∙ ap (map (λ (m : Mention). m.id)) (sym (filter-map mention_of is_own s.unsorted) ∙ ap (filter is_own) s.are)
      ∙ own_ids rs

  moved : IsPermutation (owned s.unsorted) (owned all)
  moved = IsPermutation-map named_id (filter own s.unsorted) (filter own all) (IsPermutation-filter own s.unsorted all s.moved)

  owned_sorted : IsSorted author_cmp (owned all)
  owned_sorted = sorted-map author_cmp named_id (filter own all) (IsSortedBy-filter (λ x y. is_lt (by_author x y)) (ranks_by author_total named_id) own all s.sorted)

  rows_apart : differ_from None (owned all) ≡ true → RowsApart rs
  rows_apart e = distinct_apart rs (subst (IsDistinct same_id) owned_are (IsDistinct-IsPermutation same_id flips (owned all) (owned s.unsorted) (IsPermutation-sym (owned s.unsorted) (owned all) moved) (differ_distinct (owned all) owned_sorted e)))

  owned_differ : RowsApart rs → differ_from None (owned all) ≡ true
  owned_differ a = distinct_differ (owned all) (IsDistinct-IsPermutation same_id flips (owned s.unsorted) (owned all) moved (subst (IsDistinct same_id) (sym owned_are) (apart_distinct rs a)))

  abbrev Kept : Row → Type 0
  Kept r = (r.action ≢ actions.del) × Ascends id_cmp r.succs

  pub tells_rest : (n : ℕ) → ids_behind None (map named_id all) ≡ n → differ_from None (owned all) ≡ true → All Kept rs → one_pass rs ≡ true → TellsRest rs n
  tells_rest n c d k o = record {
    count = sym (counted rs all s) ∙ c;
    apart = rows_apart d;
    kept = λ i x l. (k i x l).0;
    succs = λ i x l. (k i x l).1;
    in_order = (one_pass_tells rs).0 o;
  }

  pub rest_counted : (n : ℕ) → TellsRest rs n → ids_behind None (map named_id all) ≡ n
  rest_counted n h = counted rs all s ∙ h.count

  pub rest_differs : (n : ℕ) → TellsRest rs n → differ_from None (owned all) ≡ true
  rest_differs n h = owned_differ h.apart

  pub rest_kept : (n : ℕ) → TellsRest rs n → All Kept rs
  rest_kept n h = λ i x l. (h.kept i x l, h.succs i x l)

  pub rest_passes : (n : ℕ) → TellsRest rs n → one_pass rs ≡ true
  rest_passes n h = (one_pass_tells rs).1 h.in_order

-- ---- the rows are those of what is rebuilt

module _ (hash_of : Change → Hash) (t : Table) (R : List Member) (b : BuiltGapless hash_of t (length t.metas) R) where
  is_R : rebuilt hash_of t ≡ R
  is_R = (builds_end hash_of t (length t.metas) R b.builds refl).0

  turn : JoinInTurn [] (rebuilt hash_of t)
  turn = subst (JoinInTurn []) (sym is_R) (builds_end hash_of t (length t.metas) R b.builds refl).1

  no_gaps : NoGaps t.rows [] (rebuilt hash_of t)
  no_gaps = b.gaps.0 (subst (λ ms. NoGaps t.rows R (rebuilt_after hash_of t.rows R ms)) (sym (drop_all (length t.metas) t.metas (omega arith))) tt)

  abbrev AreRows : List Member → Type 0
  AreRows S = t.rows ≡ rows (all_operations (changes S))

  pub rows_if : TellsRest t.rows (length (all_operations (changes R))) → AreRows R
  rows_if h = subst AreRows is_R ((rows_are_rebuilt hash_of t turn).0 (record {
    no_gaps = no_gaps;
    count = h.count ∙ ap (λ S. length (all_operations (changes S))) (sym is_R);
    apart = h.apart;
    kept = h.kept;
    succs = h.succs;
    in_order = h.in_order;
  }))

  pub tells_if : AreRows R → TellsRest t.rows (length (all_operations (changes R)))
  tells_if e =
      let h = (rows_are_rebuilt hash_of t turn).1 (subst AreRows (sym is_R) e) in
      record {
        count = h.count ∙ ap (λ S. length (all_operations (changes S))) is_R;
        apart = h.apart;
        kept = h.kept;
        succs = h.succs;
        in_order = h.in_order;
      }

-- ---- rows that no count fits have no history

pub passing_tells : (hash_of : Change → Hash) (t : Table) → Passes t (rebuilt hash_of t) → TellsRest t.rows (length (all_operations (changes (rebuilt hash_of t))))
passing_tells hash_of t p =
    let h = (rows_are_rebuilt hash_of t p.in_turn).1 p.rows in
    record {
      count = h.count;
      apart = h.apart;
      kept = h.kept;
      succs = h.succs;
      in_order = h.in_order;
    }
