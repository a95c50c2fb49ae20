-- The canonical table of a valid set can be read again.
use Rattle.std.proofs.Common.{ℕ, zero, suc, ◌≡◌, ◌+◌, ◌<◌, List, [], ◌∷◌, get_or, length, map, filter, not, true, false, ◌||◌, cond, Bool, Contains, refl, sym, ap, ◌∙◌, subst, inl, inr, arith}
use Rattle.std.specs.Prelude.{IfSome}
use Rattle.std.specs.List.{AllByRecursion, IsDistinct, dedup, list_any, position_or_len}
use Rattle.std.specs.Ordering.{is_eq, is_gt}
use Rattle.std.specs.declared.cmp.Ordering.{Ordering}
use Rattle.std.specs.declared.cmp.Ordering.TheVariants.{Less, Equal, Greater}
use Rattle.std.proofs.lemmas.Bool.{both_ways, cases_Bool, false_from_ne_true}
use Rattle.std.proofs.lemmas.Cmp.{eq_by_cmp_equiv}
use Rattle.std.proofs.lemmas.List.{length-map}
use Rattle.std.proofs.lemmas.List.Elements.{All-contains, recursion_from_All}
use Rattle.std.proofs.lemmas.List.Sorted.{IsPermutation-sym, Contains-permutation}
use Rattle.std.proofs.lemmas.Map.Keys.{IsDistinct-head, IsDistinct-tail, IsDistinct-IsPermutation}
use Rattle.std.proofs.lemmas.Map.Views.{list_any-from_Contains}
use Rattle.am_types.specs.declared.Hash.{Hash}
use Rattle.am_types.specs.declared.Meta.{Meta}
use Rattle.am_types.specs.declared.Row.{Row}
use Rattle.am_types.specs.Order.{bytes_cmp, hash_cmp, sorted_by, Ascends}
use Rattle.am_types.specs.Same.{same_bytes, same_hash}
use Rattle.am_types.specs.Members.{Member, hashes, heads, is_dependency, DistinctHashes}
use Rattle.am_types.specs.Deliver.{MayCome}
use Rattle.am_types.specs.Canonical.{canonical_cmp, order}
use Rattle.am_types.specs.Documents.{used_actors, index, meta_of, unless_empty, metas, table}
use Rattle.am_types.proofs.Lists.{all_of, Contains-head, Contains-tail}
use Rattle.am_types.proofs.Orders.{hash_total, same_hash-true}
use Rattle.am_types.proofs.Rising.{Rises, Rises-sorted_by}
use Rattle.am_types.proofs.Sorting.{IsPermutation-sorted_by}
use Rattle.am_laws.specs.Laws.{KeepsRules}
use Rattle.am_laws.specs.Tables.{authors, RowWithin, MetaWithin, TableWithin}
use Rattle.am_laws.proofs.Ancestry.{Contains-from_filter}
use Rattle.am_laws.proofs.Climbing.{once_from}
use Rattle.am_laws.proofs.Sums.{Contains-from_map}
use Rattle.am_fields.specs.Actors.{IsListed}
use Rattle.am_fields.specs.Limits.{IsShortActor}
use Rattle.am_change.specs.Fronts.{Has32}
use Rattle.am_doccols.specs.Conditions.{IsMetaFor, IsReadable as IsReadableRow, IsReadableMeta}
use Rattle.am_doc.specs.Conditions.{IsReadable}
use Rattle.am_doc.proofs.Writable.{writable}

-- ---- heads ascend

same_flips : (x y : Hash) → same_hash x y ≡ same_hash y x
same_flips = (eq_by_cmp_equiv hash_total).symm

each_other : (x : Hash) (ys : List Hash) → ((y : Hash) → Contains ys y → x ≡ y → ⊥) → AllByRecursion (λ y. same_hash x y ≡ false) ys
each_other x [] f = tt
each_other x (y ∷ ys) f = (false_from_ne_true _ (λ t. f y (Contains-head y ys) (same_hash-true x y t)), each_other x ys (λ z c. f z (Contains-tail y ys z c)))

kept_hashes : (p : Hash → Bool) (C : List Member) → DistinctHashes C → IsDistinct same_hash (filter p (hashes C))
unfolding IsDistinct
kept_hashes p [] d = tt
kept_hashes p (m ∷ C) d =
    let again : IsDistinct same_hash (filter p (hashes C)) = kept_hashes p C (λ i j n k l. d (suc i) (suc j) n (omega arith) (omega arith)) in
    let other : (h : Hash) → Contains (filter p (hashes C)) h → m.hash ≡ h → ⊥ = λ h c e.
    let n = Contains-from_map (λ (m : Member). m.hash) C h (Contains-from_filter p (hashes C) h c).0 in
    let k = n.1 in
    d 0 (suc k.0) n.0 (omega arith) (omega (arith, k.1)) (e ∙ n.2 ∙ ap (λ (z : Member). z.hash) (sym k.2)) in
    elim (cases_Bool (p m.hash)) [
      | inl e ↦ simp e (each_other m.hash (filter p (hashes C)) other, again)
      | inr e ↦ simp e again
    ]

below_next : (x y : Hash) → is_gt (hash_cmp x y) ≡ false → same_hash x y ≡ false → hash_cmp x y ≡ Less
below_next x y g n = go (hash_cmp x y) refl
  where
    go : (o : Ordering) → hash_cmp x y ≡ o → hash_cmp x y ≡ Less
    go Less e = e
    go Equal e = absurd (both_ways (same_hash x y) n (ap is_eq e))
    go Greater e = absurd (both_ways (is_gt (hash_cmp x y)) g (ap is_gt e))

ascend : (xs : List Hash) → Rises hash_total xs → IsDistinct same_hash xs → Ascends hash_cmp xs
ascend [] r d k e l = absurd (omega arith)
ascend (x ∷ []) r d k e l = absurd (omega arith)
ascend (x ∷ y ∷ hs) r d zero e l = below_next x y (r.0).0 (IsDistinct-head same_hash x (y ∷ hs) d).0
ascend (x ∷ y ∷ hs) r d (suc k) e l =
    let again : hash_cmp (get_or (y ∷ hs) k e) (get_or (y ∷ hs) (k + 1) e) ≡ Less = ascend (y ∷ hs) r.1 (IsDistinct-tail same_hash x (y ∷ hs) d) k e (omega arith) in
    let next : suc (k + 1) ≡ suc k + 1 = omega arith in
    subst (λ n. hash_cmp (get_or (y ∷ hs) k e) (get_or (x ∷ y ∷ hs) n e) ≡ Less) next again

heads_ascend : (C : List Member) → DistinctHashes C → Ascends hash_cmp (heads C)
heads_ascend C d =
    let kept : List Hash = filter (λ h. not (is_dependency C h)) (hashes C) in
    ascend (heads C) (Rises-sorted_by hash_total kept)
    (IsDistinct-IsPermutation same_hash same_flips kept (heads C) (IsPermutation-sorted_by hash_cmp kept) (kept_hashes (λ h. not (is_dependency C h)) C d))

-- ---- heads are hashes of members

head_from : (C : List Member) (h : Hash) → Contains (heads C) h → Contains (hashes C) h
head_from C h c =
    let kept : List Hash = filter (λ h. not (is_dependency C h)) (hashes C) in
    (Contains-from_filter (λ h. not (is_dependency C h)) (hashes C) h (Contains-permutation (heads C) kept h (IsPermutation-sym kept (heads C) (IsPermutation-sorted_by hash_cmp kept)) c)).0

-- ---- places of heads

position_in : {X : Type 0} (p : X → Bool) (xs : List X) → list_any p xs ≡ true → position_or_len p xs < length xs
position_in p [] e = absurd (both_ways false refl e)
position_in p (x ∷ xs) e =
    let again : list_any p xs ≡ true → position_or_len p xs < length xs = position_in p xs in
    elim (cases_Bool (p x)) [
      | inl t ↦ let here : position_or_len p (x ∷ xs) ≡ 0 = ap (λ b. cond (not b) (1 + position_or_len p xs) 0) t in omega arith
      | inr t ↦
          let there : position_or_len p (x ∷ xs) ≡ 1 + position_or_len p xs = ap (λ b. cond (not b) (1 + position_or_len p xs) 0) t in
          let l = again (sym (ap (λ b. b || list_any p xs) t) ∙ e) in
          omega arith
    ]

hash_there : (D : List Member) (h : Hash) → Contains (hashes D) h → index D h < length D
hash_there D h c =
    let l = position_in (same_hash h) (hashes D) (list_any-from_Contains (eq_by_cmp_equiv hash_total) h (hashes D) c) in
    let n = length-map D (λ (m : Member). m.hash) in
    omega arith

ordered : (C : List Member) (m : Member) → Contains C m → Contains (order C) m
unfolding order
ordered C m c = Contains-permutation C (order C) m (IsPermutation-sorted_by (canonical_cmp C) C) c

hash_of : (C : List Member) (m : Member) → Contains C m → Contains (hashes C) m.hash
hash_of C m c = go C c.0 c.1 c.2
  where
    go : (D : List Member) (k : ℕ) → k < length D → get_or D k m ≡ m → Contains (hashes D) m.hash
    go [] k l e = absurd (omega arith)
    go (n ∷ D) zero l e = (0, omega arith, ap (λ (z : Member). z.hash) e)
    go (n ∷ D) (suc k) l e = Contains-tail n.hash (hashes D) m.hash (go D k (omega arith) e)

head_there : (C : List Member) (h : Hash) → Contains (heads C) h → index (order C) h < length (metas (order C))
head_there C h c =
    let m = Contains-from_map (λ (m : Member). m.hash) C h (head_from C h c) in
    let there : Contains (hashes (order C)) h = subst (Contains (hashes (order C))) (sym m.2) (hash_of (order C) m.0 (ordered C m.0 m.1)) in
    let l = hash_there (order C) h there in
    let n = length-map (order C) (λ (m : Member). meta_of m.change (map (index (order C)) m.change.deps)) in
    omega arith

told : (hs : List Hash) (place : Hash → ℕ) (end : ℕ) → AllByRecursion (λ i. i < end) (map place hs)
    → IfSome (unless_empty (map place hs)) (λ places. (length places ≡ length hs) × (0 < length hs) × AllByRecursion (λ i. i < end) places)
told [] place end all = tt
told (h ∷ hs) place end all = (length-map (h ∷ hs) place, omega arith, all)

-- ---- the parts of a table

short_one : (actors : List (List ℕ)) (a : List ℕ) → IsListed actors a → AllByRecursion IsShortActor actors → IsShortActor a
short_one [] a l all = absurd l
short_one (x ∷ xs) a (inl e) all = subst IsShortActor (sym e) all.0
short_one (x ∷ xs) a (inr l) all = short_one xs a l all.1

metas_readable : (actors : List (List ℕ)) (n : ℕ) (ms : List Meta) → AllByRecursion IsShortActor actors → AllByRecursion (IsMetaFor actors) ms → AllByRecursion (MetaWithin actors n) ms → AllByRecursion (IsReadableMeta n) ms
metas_readable actors n [] short each within = tt
metas_readable actors n (m ∷ ms) short each within = (
  record {
    actor = short_one actors m.actor (each.0).actor short;
    seq = (within.0).seq.0;
    message = (within.0).message;
    deps = recursion_from_All (λ i. i < n) m.deps (within.0).deps;
  },
  metas_readable actors n ms short each.1 within.1,
)

rows_readable : (actors : List (List ℕ)) (rs : List Row) → AllByRecursion (RowWithin actors) rs → AllByRecursion IsReadableRow rs
rows_readable actors [] within = tt
rows_readable actors (r ∷ rs) within = (record { action = (within.0).action; mark = (within.0).mark }, rows_readable actors rs within.1)

-- ---- the table of a set

short_actors : (C : List Member) → KeepsRules C → used_actors C ≡ dedup same_bytes (sorted_by bytes_cmp (authors C)) → AllByRecursion IsShortActor (used_actors C)
short_actors C k e = recursion_from_All IsShortActor (used_actors C) (all_of IsShortActor (used_actors C) (λ a c.
    let m = Contains-from_map (λ (m : Member). m.change.actor) C a (once_from (authors C) a (subst (λ (l : List (List ℕ)). Contains l a) e c)) in
    let fine = (All-contains MayCome C m.0 k.members m.1).fine in
    subst IsShortActor (sym m.2) (fine.actor.some, fine.actor.few)))

sized_heads : (C : List Member) → KeepsRules C → AllByRecursion Has32 (heads C)
sized_heads C k = recursion_from_All Has32 (heads C) (all_of Has32 (heads C) (λ h c.
    let m = Contains-from_map (λ (m : Member). m.hash) C h (head_from C h c) in
    subst Has32 (sym m.2) (All-contains MayCome C m.0 k.members m.1).hash.length))

pub readable : (C : List Member) → KeepsRules C → TableWithin (table C) → used_actors C ≡ dedup same_bytes (sorted_by bytes_cmp (authors C)) → IsReadable (table C)
unfolding table
readable C k w e =
    let write = writable (table C) w in
    let short = short_actors C k e in
    record {
      short = short;
      sized = sized_heads C k;
      heads = heads_ascend C k.hashes;
      metas = metas_readable (used_actors C) (length (metas (order C))) (metas (order C)) short write.metas (recursion_from_All (MetaWithin (used_actors C) (length (metas (order C)))) (metas (order C)) w.metas);
      rows = rows_readable (used_actors C) (table C).rows (recursion_from_All (RowWithin (used_actors C)) (table C).rows w.rows);
      places = told (heads C) (index (order C)) (length (metas (order C))) (recursion_from_All (λ i. i < length (metas (order C))) (map (index (order C)) (heads C)) (all_of (λ i. i < length (metas (order C))) (map (index (order C)) (heads C)) (λ i c.
          let h = Contains-from_map (index (order C)) (heads C) i c in
          subst (λ n. n < length (metas (order C))) (sym h.2) (head_there C h.0 h.1))));
    }
