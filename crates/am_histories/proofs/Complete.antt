-- What is rebuilt from the table of a set are its changes.
use Rattle.std.proofs.Common.{ℕ, suc, get_or, ◌≡◌, ◌+◌, ◌-◌, ◌<◌, ◌≤◌, List, [], ◌∷◌, ◌++◌, length, map, filter, fold, max as larger, Bool, true, false, cond, not, Option, Some, refl, sym, ap, ◌∙◌, subst, inl, inr, Contains, IsPermutation, arith}
use Rattle.std.specs.Cmp.{IsTotalOrder}
use Rattle.std.specs.List.{list_any, flat_map, filter_map, cons_option, AllByRecursion, AllZip, position_or_len}
use Rattle.std.specs.List.Sorted.{IsStrictlySortedBy}
use Rattle.std.specs.Ordering.{is_gt}
use Rattle.std.specs.Prelude.{nat_le, nat_lt}
use Rattle.std.specs.declared.cmp.Ordering.{Ordering}
use Rattle.std.specs.declared.cmp.Ordering.TheVariants.{Less}
use Rattle.std.proofs.lemmas.Bool.{cases_Bool, both_ways, and_parts, and_from, ltb-true, leb-true, lt-ltb, le-leb, or_cases}
use Rattle.std.proofs.lemmas.List.{append_assoc, map-append}
use Rattle.std.proofs.lemmas.List.Elements.{Contains-append_right, Contains-append_cases}
use Rattle.std.proofs.lemmas.List.Kept.{IsStrictlySortedBy-filter}
use Rattle.std.proofs.lemmas.List.Sorted.{IsPermutation-map}
use Rattle.std.proofs.lemmas.Map.Keys.{sorted_from_all_adjacent, sorted_head, sorted_tail}
use Rattle.am_types.specs.declared.OpId.{OpId}
use Rattle.am_types.specs.declared.Hash.{Hash}
use Rattle.am_types.specs.declared.Op.{Op}
use Rattle.am_types.specs.declared.Change.{Change}
use Rattle.am_types.specs.declared.Row.{Row}
use Rattle.am_types.specs.declared.Meta.{Meta}
use Rattle.am_types.specs.Order.{id_cmp, hash_cmp, sorted_by, Ascends}
use Rattle.am_types.specs.Same.{same_bytes, same_hash}
use Rattle.am_types.specs.Operations.{Operation, operations, all_operations, max}
use Rattle.am_types.specs.Members.{Member, changes, hashes}
use Rattle.am_types.specs.ValidSets.{JoinInTurn}
use Rattle.am_types.specs.Rows.{rows}
use Rattle.am_types.specs.Documents.{index, meta_of, IsMetaOf}
use Rattle.am_types.proofs.Orders.{id_total, id_exact, hash_total, hash_exact, same_hash-true}
use Rattle.am_types.proofs.Rising.{Rises, sorted_by-rising}
use Rattle.am_types.proofs.Sorting.{sorted_by-permutation}
use Rattle.am_laws.proofs.Ancestry.{Contains-filter, Contains-from_filter}
use Rattle.am_histories.specs.Rebuilt.{ids, op_at, is_within, ops_within, last_max, hash_at, change_with, change_at, rebuilt_after}
use Rattle.am_histories.proofs.Sorted.{same_sorted, Contains-cases, Contains-here, Contains-there, Contains-none}
use Rattle.am_histories.proofs.Contained.{Contains-map, Contains-from_map}
use Rattle.am_histories.proofs.Tests.{same_bytes-true, same_bytes_itself}
use Rattle.am_histories.proofs.Authors.{Settled, Settled-push, Standing, standing, deps_held}
use Rattle.am_histories.proofs.Operations.{SoundOps, sound_ops, numbered-is, numbered-sorted, numbered-ops, operations_in, operation_of}
use Rattle.am_histories.proofs.Restored.{each_once-sorted, ids-has, ids-from, op_at-is}

-- ---- the largest of some numbers

at_most_fold : (a : ℕ) (ns : List ℕ) → a ≤ fold larger a ns
at_most_fold a [] = omega arith
at_most_fold a (n ∷ ns) = let again = at_most_fold (larger a n) ns in omega arith

pub at_most_largest : (a : ℕ) (ns : List ℕ) (n : ℕ) → Contains ns n → n ≤ fold larger a ns
at_most_largest a [] n c = absurd (Contains-none n c)
at_most_largest a (k ∷ ns) n c =
    let again : Contains ns n → n ≤ fold larger (larger a k) ns = at_most_largest (larger a k) ns n in
    let first = at_most_fold (larger a k) ns in
    elim (Contains-cases k n ns c) [ inl e ↦ omega arith | inr d ↦ again d ]

largest_below : (a b : ℕ) (ns : List ℕ) → a < b → ((n : ℕ) → Contains ns n → n < b) → fold larger a ns < b
largest_below a b [] l f = l
largest_below a b (k ∷ ns) l f =
    let here = f k (Contains-here k ns) in
    largest_below (larger a k) b ns (omega arith) (λ n c. f n (Contains-there k n ns c))

module _ (B : List Member) (actor : List ℕ) where
  abbrev by_author : Member → Bool
  by_author m = same_bytes m.change.actor actor

  last_max-at_least : (n : Member) → Contains B n → n.change.actor ≡ actor → max n.change ≤ last_max B actor
  last_max-at_least n c a =
      at_most_largest 0 _ (max n.change)
      (Contains-map (λ (m : Member). max m.change) (filter by_author B) n (Contains-filter by_author B n c (ap (λ b. same_bytes b actor) a ∙ same_bytes_itself actor)))

  last_max-below : (b : ℕ) → 0 < b → ((n : Member) → Contains B n → n.change.actor ≡ actor → max n.change < b) → last_max B actor < b
  last_max-below b z f = largest_below 0 b _ z (λ k c.
      let n = Contains-from_map (λ (m : Member). max m.change) (filter by_author B) k c in
      let d = Contains-from_filter by_author B n.0 n.1 in
      subst (λ j. j < b) n.2 (f n.0 d.0 (same_bytes-true n.0.change.actor actor d.1)))

-- ---- hashes and their places

place_found : (h d : Hash) (xs ys : List Hash) → list_any (same_hash h) xs ≡ true → get_or xs (position_or_len (same_hash h) (xs ++ ys)) d ≡ h
place_found h d [] ys e = absurd (both_ways false refl e)
place_found h d (x ∷ xs) ys e =
    let n : ℕ = position_or_len (same_hash h) (xs ++ ys) in
    let again : list_any (same_hash h) xs ≡ true → get_or xs n d ≡ h = place_found h d xs ys in
    let more : 1 + n ≡ suc n = omega arith in
    elim (cases_Bool (same_hash h x)) [
      | inl s ↦ ap (λ b. get_or (x ∷ xs) (cond (not b) (1 + n) 0) d) s ∙ sym (same_hash-true h x s)
      | inr s ↦ ap (λ b. get_or (x ∷ xs) (cond (not b) (1 + n) 0) d) s ∙ ap (λ k. get_or (x ∷ xs) k d) more ∙ again (elim (or_cases (same_hash h x) _ e) [
        | inl t ↦ absurd (both_ways (same_hash h x) s t)
        | inr t ↦ t
      ])
    ]

none_above : {X : Type 0} (R : X → X → Ordering) (x : X) (ys : List X) → AllByRecursion (λ y. R x y ≡ Less) ys → AllByRecursion (λ y. is_gt (R x y) ≡ false) ys
none_above R x [] a = tt
none_above R x (y ∷ ys) a = (ap is_gt a.0, none_above R x ys a.1)

rises_from_sorted : {X : Type 0} {R : X → X → Ordering} (total : IsTotalOrder R) (xs : List X) → IsStrictlySortedBy R xs → Rises total xs
rises_from_sorted total [] s = tt
rises_from_sorted {R = R} total (x ∷ xs) s = (none_above R x xs (sorted_head R x xs s), rises_from_sorted total xs (sorted_tail R x xs s))

sorted_hashes : (hs : List Hash) → Ascends hash_cmp hs → sorted_by hash_cmp hs ≡ hs
sorted_hashes hs a = sorted_by-rising hash_total hs (rises_from_sorted hash_total hs (sorted_from_all_adjacent hash_total hs (record { 0 = [] }) (λ k l. a k (record { 0 = [] }) l)))

maps_back : (g : Hash → ℕ) (f : ℕ → Hash) (hs : List Hash) → ((h : Hash) → Contains hs h → f (g h) ≡ h) → map f (map g hs) ≡ hs
maps_back g f [] e = refl
maps_back g f (h ∷ hs) e =
    let here = e h (Contains-here h hs) in
    let rest = maps_back g f hs (λ k c. e k (Contains-there h k hs c)) in
    λ i. here i ∷ rest i

-- ---- the operations of one change

found_ops : (find_op : OpId → Option Op) (xs : List Operation) → ((x : Operation) → Contains xs x → find_op x.id ≡ Some x.op) → filter_map find_op (map (λ (x : Operation). x.id) xs) ≡ map (λ (x : Operation). x.op) xs
found_ops find_op [] e = refl
found_ops find_op (x ∷ xs) e =
    let here = e x (Contains-here x xs) in
    let rest = found_ops find_op xs (λ y c. e y (Contains-there x y xs c)) in
    λ i. cons_option (here i) (rest i)

op_id : Operation → OpId
op_id x = x.id

module _ (L : List Member) (turn : JoinInTurn [] L) (A : List Operation)
    (has : (x : Operation) → Contains (all_operations (changes L)) x → Contains A x)
    (from : (x : Operation) → Contains A x → Contains (all_operations (changes L)) x) where
  sound : SoundOps A
  sound =
      let s = sound_ops L turn in
      record {
        distinct = λ x y c d e. s.distinct x y (from x c) (from y d) e;
        preds = λ x p c d. let q = s.preds x p (from x c) d in record { named = q.named; has = has q.named q.has; id = q.id; kept = q.kept; object = q.object; slots = q.slots };
        fine = λ x c. s.fine x (from x c);
      }

  module _ (B : List Member) (m : Member) (rest : List Member) (st : Standing B m rest) (whole : L ≡ B ++ m ∷ rest) where
    abbrev pub within : OpId → Bool
    within = is_within m.change.actor (last_max B m.change.actor) (max m.change)

    in_whole : (n : Member) → Contains (B ++ m ∷ rest) n → Contains L n
    in_whole n c = subst (λ l. Contains l n) (sym whole) c

    has_m : Contains L m
    has_m = in_whole m (Contains-append_right B (m ∷ rest) m (Contains-here m rest))

    is_own : (i : OpId) → Contains (filter within (ids (rows A))) i → Contains (map (λ (x : Operation). x.id) (operations m.change)) i
    is_own i c =
        let f = Contains-from_filter within (ids (rows A)) i c in
        let x = ids-from A sound i f.0 in
        let o = operation_of L x.0 (from x.0 x.1) in
        let n = o.0 in
        let nx = numbered-is n.change.start n.change.actor n.change.ops x.0 o.2 in
        let a = and_parts (same_bytes i.actor m.change.actor) _ f.1 in
        let b = and_parts (nat_lt (last_max B m.change.actor) i.counter) (nat_le i.counter (max m.change)) a.1 in
        let low : last_max B m.change.actor < i.counter = ltb-true _ _ b.0 in
        let high : i.counter ≤ max m.change = leb-true _ _ b.1 in
        let counter : x.0.id.counter ≡ i.counter = ap (λ (j : OpId). j.counter) x.2 in
        let actor : n.change.actor ≡ m.change.actor = sym nx.actor_is ∙ ap (λ (j : OpId). j.actor) x.2 ∙ same_bytes-true i.actor m.change.actor a.0 in
        let nl = nx.low in let nh = nx.high in
        let mine : m ≡ n → Contains (map (λ (x : Operation). x.id) (operations m.change)) i =
        λ e. subst (Contains (map (λ (x : Operation). x.id) (operations m.change))) x.2
        (Contains-map (λ (x : Operation). x.id) (operations m.change) x.0 (subst (λ (k : Member). Contains (operations k.change) x.0) (sym e) o.2)) in
        elim (Contains-append_cases B (m ∷ rest) n (subst (λ l. Contains l n) whole o.1)) [
          | inl inB ↦ let k = last_max-at_least B m.change.actor n inB actor in absurd (omega arith)
          | inr after ↦ elim (Contains-cases m n rest after) [
            | inl e ↦ mine e
            | inr d ↦ let k = st.below_later n d actor in absurd (omega arith)
          ]
        ]

    own_is : (i : OpId) → Contains (map (λ (x : Operation). x.id) (operations m.change)) i → Contains (filter within (ids (rows A))) i
    own_is i c =
        let x = Contains-from_map (λ (x : Operation). x.id) (operations m.change) i c in
        let nx = numbered-is m.change.start m.change.actor m.change.ops x.0 x.1 in
        let known = ids-has A sound x.0 (has x.0 (operations_in L m x.0 has_m x.1)) in
        let start = st.joins.fine.numbers.start in
        let below = last_max-below B m.change.actor m.change.start (omega arith) st.above_before in
        let nl = nx.low in let nh = nx.high in
        let low : last_max B m.change.actor < x.0.id.counter = omega arith in
        let high : x.0.id.counter ≤ max m.change = omega arith in
        let inside : within x.0.id ≡ true = and_from _ _ (ap (λ b. same_bytes b m.change.actor) nx.actor_is ∙ same_bytes_itself m.change.actor) (and_from _ _ (lt-ltb _ _ low) (le-leb _ _ high)) in
        subst (Contains (filter within (ids (rows A)))) x.2 (Contains-filter within (ids (rows A)) x.0.id known inside)

    pub cut : filter within (ids (rows A)) ≡ map (λ (x : Operation). x.id) (operations m.change)
    cut =
        same_sorted id_total id_exact _ _
        (IsStrictlySortedBy-filter id_cmp within (ids (rows A)) (each_once-sorted (flat_map (λ (r : Row). r.id ∷ r.succs) (rows A))))
        (numbered-sorted m.change.start m.change.actor m.change.ops) is_own own_is

    pub ops_within-is : ops_within (rows A) m.change.actor (last_max B m.change.actor) (max m.change) ≡ m.change.ops
    ops_within-is =
        ap (filter_map (op_at (rows A))) cut
        ∙ found_ops (op_at (rows A)) (operations m.change) (λ x c. op_at-is A sound x (has x (operations_in L m x has_m c)))
        ∙ numbered-ops m.change.start m.change.actor m.change.ops

    no_hash : Hash
    no_hash = record { 0 = [] }

    hashes_whole : hashes L ≡ hashes B ++ hashes (m ∷ rest)
    hashes_whole = ap hashes whole ∙ map-append (λ (n : Member). n.hash) B (m ∷ rest)

    hash_at-index : (h : Hash) → Contains m.change.deps h → hash_at B (index L h) ≡ h
    hash_at-index h c =
        ap (λ hs. get_or (hashes B) (position_or_len (same_hash h) hs) (record { 0 = [] })) hashes_whole
        ∙ place_found h (record { 0 = [] }) (hashes B) (hashes (m ∷ rest)) (deps_held B m st.joins h c)

    pub deps_at-is : (deps : List ℕ) → IsPermutation (map (index L) m.change.deps) deps → sorted_by hash_cmp (map (hash_at B) deps) ≡ m.change.deps
    deps_at-is deps p =
        sorted_by-permutation hash_total (λ _. Unit {0}) (λ x y _ _ e. hash_exact x y e) (map (hash_at B) (map (index L) m.change.deps)) (map (hash_at B) deps) (λ k d l. tt) (IsPermutation-map (hash_at B) (map (index L) m.change.deps) deps p)
        ∙ ap (sorted_by hash_cmp) (maps_back (index L) (hash_at B) m.change.deps hash_at-index)
        ∙ sorted_hashes m.change.deps st.joins.fine.deps_ascend

    pub change_at-is : (meta : Meta) → IsMetaOf L m meta → change_at (rows A) B meta ≡ m.change
    change_at-is meta h =
        let deps = deps_at-is h.0 h.1 in
        let one = st.joins.fine.numbers.start in
        let start : (max m.change + 1) - length m.change.ops ≡ m.change.start = omega arith in
        ap (change_at (rows A) B) h.2
        ∙ (λ i. change_with (deps i) (ops_within-is i) (meta_of m.change h.0))
        ∙ (λ i. record m.change { start = start i })

  module _ (hash_of : Change → Hash) (hashed : (n : Member) → Contains L n → n.hash ≡ hash_of n.change) where
    pub complete_from : (B : List Member) → Settled B → (rest : List Member) → JoinInTurn B rest → L ≡ B ++ rest → (metas : List Meta) → AllZip (IsMetaOf L) rest metas → rebuilt_after hash_of (rows A) B metas ≡ rest
    complete_from B s [] t w [] z = refl
    complete_from B s [] t w (meta ∷ metas) z = absurd z
    complete_from B s (m ∷ rest) t w [] z = absurd z
    complete_from B s (m ∷ rest) t w (meta ∷ metas) z =
        let same_change = change_at-is B m rest (standing B s m rest t) w meta z.0 in
        let m_in : Contains L m = subst (λ l. Contains l m) (sym w) (Contains-append_right B (m ∷ rest) m (Contains-here m rest)) in
        let same_hash_of = ap hash_of same_change ∙ sym (hashed m m_in) in
        let one : record { hash = hash_of (change_at (rows A) B meta); change = change_at (rows A) B meta } ≡ m = λ i. record { hash = same_hash_of i; change = same_change i } in
        let again : rebuilt_after hash_of (rows A) (B ++ m ∷ []) metas ≡ rest = complete_from (B ++ m ∷ []) (Settled-push B s m t.0) rest t.1 (w ∙ sym (append_assoc B (m ∷ []) rest)) metas z.1 in
        (λ i. one i ∷ rebuilt_after hash_of (rows A) (B ++ one i ∷ []) metas) ∙ ap (λ l. m ∷ l) again
