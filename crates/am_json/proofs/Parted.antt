-- Blocks of entries: one more entry, and the entries of one object.
use Rattle.std.proofs.Common.{◌≡◌, ◌≢◌, ℕ, zero, suc, ◌+◌, ◌-◌, ◌<◌, ◌≤◌, Bool, true, false, List, [], ◌∷◌, ◌++◌, length, get_or, take, drop, filter, Ordering, Less, Equal, Greater, refl, sym, ap, ◌∙◌, arith, true≢false, subst, inl, inr, ◌⊎◌, length-append, length-drop, ◌&&◌}
use Rattle.std.specs.Prelude.{nat_lt}
use Rattle.std.specs.List.{AllWithin}
use Rattle.std.specs.List.Sorted.{IsPartitionedBy, IsPartitionPoint}
use Rattle.std.specs.Ordering.{is_lt, is_eq}
use Rattle.std.proofs.lemmas.Bool.{cases_Bool, lt-ltb, and_parts, ltb-true}
use Rattle.std.proofs.lemmas.List.{get_or_append_left, get_or-drop}
use Rattle.std.proofs.Math.Seq.{get_or-append_seam}
use Rattle.am_types.specs.declared.ObjId.{ObjId}
use Rattle.am_types.specs.Order.{object_cmp}
use Rattle.am_types.specs.Same.{same_object}
use Rattle.am_types.specs.Views.{object_of}
use Rattle.am_types.specs.EntryOrder.{IsInOrder}
use Rattle.am_types.proofs.SameLaws.{same_object-true}
use Rattle.am_json.specs.declared.blocks.Block.{Block}
use Rattle.am_json.specs.Blocks.{start_at, object_at, AreBlocks}
use Rattle.am_json.specs.Stretches.{Stretch, spread, stands_in}
use Rattle.am_json.proofs.ObjectOrder.{object_total}
use Rattle.am_json.proofs.Searched.{filter_none, filter_front, filter_after, is_less, less_differs}
use Rattle.am_json.proofs.Spread.{by_objects}

-- ---- places

pub start_in : (bs : List Block) (n k : ℕ) (b : Block) → k < length bs → start_at bs n k ≡ (get_or bs k b).start
start_in [] n k b h = absurd (omega arith)
start_in (x ∷ bs) n zero b h = refl
start_in (x ∷ bs) n (suc k) b h = start_in bs n k b (omega arith)

pub start_end : (bs : List Block) (n k : ℕ) → length bs ≤ k → start_at bs n k ≡ n
start_end [] n k h = refl
start_end (x ∷ bs) n zero h = absurd (omega arith)
start_end (x ∷ bs) n (suc k) h = start_end bs n k (omega arith)

-- where a block begins doesn't depend on how many entries there are
start_same : (bs : List Block) (n m k : ℕ) → k < length bs → start_at bs n k ≡ start_at bs m k
start_same [] n m k h = absurd (omega arith)
start_same (x ∷ bs) n m zero h = refl
start_same (x ∷ bs) n m (suc k) h = start_same bs n m k (omega arith)

pub object_in : (bs : List Block) (k : ℕ) (b : Block) → k < length bs → object_at bs k ≡ object_of (get_or bs k b).object
object_in [] k b h = absurd (omega arith)
object_in (x ∷ bs) zero b h = refl
object_in (x ∷ bs) (suc k) b h = object_in bs k b (omega arith)

start_more : (bs : List Block) (b : Block) (n m k : ℕ) → b.start ≡ n → k ≤ length bs → start_at (bs ++ b ∷ []) m k ≡ start_at bs n k
start_more [] b n m zero e h = e
start_more [] b n m (suc k) e h = absurd (omega arith)
start_more (x ∷ bs) b n m zero e h = refl
start_more (x ∷ bs) b n m (suc k) e h = start_more bs b n m k e (omega arith)

object_more : (bs : List Block) (b : Block) (k : ℕ) → k < length bs → object_at (bs ++ b ∷ []) k ≡ object_at bs k
object_more [] b k h = absurd (omega arith)
object_more (x ∷ bs) b zero h = refl
object_more (x ∷ bs) b (suc k) h = object_more bs b k (omega arith)

object_new : (bs : List Block) (b : Block) (k : ℕ) → k ≡ length bs → object_at (bs ++ b ∷ []) k ≡ object_of b.object
object_new [] b zero e = refl
object_new [] b (suc k) e = absurd (omega arith)
object_new (x ∷ bs) b zero e = absurd (omega arith)
object_new (x ∷ bs) b (suc k) e = object_new bs b k (omega arith)

-- ---- tests of places

below_or_at : (k n : ℕ) → k < n + 1 → (k < n) ⊎ (k ≡ n)
below_or_at zero zero h = inr refl
below_or_at zero (suc n) h = inl (omega arith)
below_or_at (suc k) zero h = absurd (omega arith)
below_or_at (suc k) (suc n) h = elim (below_or_at k n (omega arith)) [ inl l ↦ inl (omega arith) | inr e ↦ inr (ap suc e) ]

below_or_not : (i s : ℕ) → (i < s) ⊎ (s ≤ i)
below_or_not zero zero = inr (omega arith)
below_or_not zero (suc s) = inl (omega arith)
below_or_not (suc i) zero = inr (omega arith)
below_or_not (suc i) (suc s) = elim (below_or_not i s) [ inl l ↦ inl (omega arith) | inr l ↦ inr (omega arith) ]

same_place : (a b : ℕ) → (a ≤ b) × (b ≤ a) → a ≡ b
same_place a b h = omega arith

second_false : (a b : Bool) → a ≡ true → (a && b) ≡ false → b ≡ false
second_false true b h k = k
second_false false b h k = absurd (true≢false (sym h))

only_less : (r : Ordering) → r ≢ Greater → is_eq r ≡ false → r ≡ Less
only_less Less h k = refl
only_less Equal h k = absurd (true≢false k)
only_less Greater h k = absurd (h refl)

-- what a test of a place says
pub place_is : (j n : ℕ) (b : Bool) → (nat_lt j n && b) ≡ true → (j < n) × (b ≡ true)
place_is j n b h = let parts = and_parts (nat_lt j n) b h in (ltb-true j n parts.0, parts.1)

-- what the blocks pass by their objects
at_object : (bs : List Block) (Q : ObjId → Type 0) (lo hi : ℕ) → AllWithin (λ (b : Block). Q (object_of b.object)) bs lo hi
    → (k : ℕ) → lo ≤ k → k < hi → k < length bs → Q (object_at bs k)
at_object [] Q lo hi h k from to lt = absurd (omega arith)
at_object (x ∷ bs) Q lo hi h k from to lt = subst Q (sym (object_in (x ∷ bs) k x lt)) (h k x from to)

-- the part of a list that passes, where the others don't
part : {X : Type 0} (p : X → Bool) (xs : List X) (s t : ℕ) → s ≤ t → t ≤ length xs
    → AllWithin (λ (x : X). p x ≡ false) xs 0 s → AllWithin (λ (x : X). p x ≡ true) xs s t → AllWithin (λ (x : X). p x ≡ false) xs t (length xs)
    → take (t - s) (drop s xs) ≡ filter p xs
part p xs s t le bound before here after =
    filter_front p (drop s xs) (t - s)
    (λ k d a b. ap p (get_or-drop s xs k d) ∙ here (s + k) d (omega arith) (omega arith))
    (λ k d a b. ap p (get_or-drop s xs k d) ∙ after (s + k) d (omega arith) (omega (arith, simp length-drop at b)))
    (simp length-drop (omega arith))
    ∙ filter_after p xs s before (omega arith)

-- ---- the entries of some blocks

module _ (bs : List Block) (es : List Stretch) (blocks : AreBlocks bs es) where
  -- what the objects of the blocks from j to m pass, their entries pass
  pub over : (Q : ObjId → Type 0) (j m : ℕ) → m ≤ length bs → ((k : ℕ) → j ≤ k → k < m → Q (object_at bs k))
      → (i : ℕ) (e : Stretch) → start_at bs (length es) j ≤ i → i < start_at bs (length es) m → j ≤ m → Q (get_or es i e).entry.obj
  over Q j zero le f i e from to up =
      let zeroth : j ≡ 0 = omega arith in
      absurd (omega (arith, subst (λ (x : ℕ). start_at bs (length es) x ≤ i) zeroth from, to))
  over Q j (suc m) le f i e from to up = elim (below_or_at j (suc m) (omega arith)) [
    | inl l ↦ elim (below_or_not i (start_at bs (length es) m)) [
      | inl before ↦ over Q j m (omega arith) (λ k a b. f k a (omega arith)) i e from before (omega arith)
      | inr after ↦ subst Q (sym (blocks.alike m i e (omega arith) after to)) (f m (omega arith) (omega arith))
    ]
    | inr same ↦ absurd (omega (arith, subst (λ (x : ℕ). start_at bs (length es) x ≤ i) same from, to))
  ]

  pub start_bound : (k : ℕ) → start_at bs (length es) k ≤ length es
  start_bound k = elim (below_or_not k (length bs)) [
    | inl l ↦ up (length bs - k) k (omega arith)
    | inr l ↦ omega (arith, start_end bs (length es) k l)
  ]
    where
      up : (d k : ℕ) → d + k ≡ length bs → start_at bs (length es) k ≤ length es
      up zero k e = omega (arith, start_end bs (length es) k (omega arith))
      up (suc d) k e =
          let more = up d (suc k) (omega arith) in
          let here = blocks.some k (omega arith) in
          omega (arith, more, here)

  -- ---- the entries of one object

  pub partitioned : (o : ObjId) → IsPartitionedBy (λ b. is_lt (object_cmp (object_of b.object) o)) bs
  partitioned o i j d le lt h = elim (below_or_at i j (omega arith)) [
    | inl l ↦
        let at_j : object_cmp (object_at bs j) o ≡ Less = ap (λ x. object_cmp x o) (object_in bs j d lt) ∙ is_less _ h in
        let at_i : object_cmp (object_at bs i) o ≡ Less = object_total.trans (object_at bs i) (object_at bs j) o (blocks.apart i j l lt) at_j in
        ap is_lt (ap (λ x. object_cmp x o) (sym (object_in bs i d (omega arith))) ∙ at_i)
    | inr e ↦ subst (λ (x : ℕ). is_lt (object_cmp (object_of (get_or bs x d).object) o) ≡ true) (sym e) h
  ]

  module _ (o : ObjId) (j : ℕ) (bound : j ≤ length bs) (point : IsPartitionPoint (λ (b : Block). is_lt (object_cmp (object_of b.object) o) ≡ true) (λ (b : Block). is_lt (object_cmp (object_of b.object) o) ≡ false) bs j) where
    differs_before : (k : ℕ) → k < j → same_object (object_at bs k) o ≡ false
    differs_before k h =
        less_differs (object_at bs k) o (at_object bs (λ x. is_lt (object_cmp x o) ≡ true) 0 j point.0 k (omega arith) h (omega arith))

    differs_after : (k : ℕ) → j < k → k < length bs → same_object (object_at bs k) o ≡ false
    differs_after k h lt = elim (cases_Bool (same_object (object_at bs k) o)) [
      | inl t ↦
          let is : object_at bs k ≡ o = same_object-true (object_at bs k) o t in
          let less : object_cmp (object_at bs j) o ≡ Less = ap (object_cmp (object_at bs j)) (sym is) ∙ blocks.apart j k h lt in
          let here : is_lt (object_cmp (object_at bs j) o) ≡ false = at_object bs (λ x. is_lt (object_cmp x o) ≡ false) j (length bs) point.1 j (omega arith) (omega arith) (omega arith) in
          absurd (true≢false (sym (ap is_lt less) ∙ here))
      | inr f ↦ f
    ]

    before : AllWithin (λ (e : Stretch). stands_in o e ≡ false) es 0 (start_at bs (length es) j)
    before i e from to =
        over (λ x. same_object x o ≡ false) 0 j bound (λ k a b. differs_before k b) i e (omega (arith, blocks.first)) to (omega arith)

    pub missing : (nat_lt j (length bs) && same_object (object_at bs j) o) ≡ false → [] ≡ filter (stands_in o) es
    missing other =
        let each : (k : ℕ) → 0 ≤ k → k < length bs → same_object (object_at bs k) o ≡ false =
        λ k a lt. elim (below_or_not k j) [
          | inl l ↦ differs_before k l
          | inr l ↦ elim (below_or_at j k (omega arith)) [
            | inl m ↦ differs_after k m lt
            | inr e ↦ subst (λ (x : ℕ). same_object (object_at bs x) o ≡ false) e (second_false _ _ (lt-ltb j (length bs) (omega arith)) other)
          ]
        ] in
        sym (filter_none (stands_in o) es (λ i e from to.
        over (λ x. same_object x o ≡ false) 0 (length bs) (omega arith) each i e (omega (arith, blocks.first)) (omega (arith, start_end bs (length es) (length bs) (omega arith))) (omega arith)))

    pub found : j < length bs → same_object (object_at bs j) o ≡ true
        → take (start_at bs (length es) (suc j) - start_at bs (length es) j) (drop (start_at bs (length es) j) es) ≡ filter (stands_in o) es
    found lt same =
        part (stands_in o) es (start_at bs (length es) j) (start_at bs (length es) (suc j)) (omega (arith, blocks.some j lt)) (start_bound (suc j)) before
        (λ i e from to. over (λ x. same_object x o ≡ true) j (suc j) (omega arith) (λ k a b. subst (λ (x : ℕ). same_object (object_at bs x) o ≡ true) (same_place j k (omega arith)) same) i e from to (omega arith))
        (λ i e from to.
        over (λ x. same_object x o ≡ false) (suc j) (length bs) (omega arith) (λ k a b. differs_after k (omega arith) b) i e from (omega (arith, start_end bs (length es) (length bs) (omega arith))) (omega arith))

-- ---- one more entry

module _ (bs : List Block) (es : List Stretch) (e : Stretch) (blocks : AreBlocks bs es) where
  longer : length (es ++ e ∷ []) ≡ length es + 1
  longer = length-append es (e ∷ [])

  pub same_block : 0 < length bs → object_at bs (length bs - 1) ≡ e.entry.obj → AreBlocks bs (es ++ e ∷ [])
  same_block some is = record {
    first = start_same bs (length (es ++ e ∷ [])) (length es) 0 some ∙ blocks.first;
    some = λ k lt.
        let now = start_same bs (length (es ++ e ∷ [])) (length es) k lt in
        let old = blocks.some k lt in
        elim (below_or_not (suc k) (length bs)) [
          | inl l ↦ omega (arith, now, old, start_same bs (length (es ++ e ∷ [])) (length es) (suc k) l)
          | inr l ↦ omega (arith, now, old, longer, start_end bs (length (es ++ e ∷ [])) (suc k) l, start_end bs (length es) (suc k) l)
        ];
    alike = λ k i d lt from to.
        let now = start_same bs (length (es ++ e ∷ [])) (length es) k lt in
        elim (below_or_not i (length es)) [
          | inl inside ↦
              let there : i < start_at bs (length es) (suc k) = elim (below_or_not (suc k) (length bs)) [
                | inl l ↦ omega (arith, to, start_same bs (length (es ++ e ∷ [])) (length es) (suc k) l)
                | inr l ↦ omega (arith, inside, start_end bs (length es) (suc k) l)
              ] in
              ap (λ (x : Stretch). x.entry.obj) (get_or_append_left es (e ∷ []) d i inside) ∙ blocks.alike k i d lt (omega (arith, now, from)) there
          | inr last ↦
              let bound : start_at bs (length (es ++ e ∷ [])) (suc k) ≤ length es + 1 = elim (below_or_not (suc k) (length bs)) [
                | inl l ↦ omega (arith, start_bound bs es blocks (suc k), start_same bs (length (es ++ e ∷ [])) (length es) (suc k) l)
                | inr l ↦ omega (arith, longer, start_end bs (length (es ++ e ∷ [])) (suc k) l)
              ] in
              let end : suc k ≡ length bs = elim (below_or_not (suc k) (length bs)) [
                | inl l ↦ absurd (omega (arith, to, last, start_bound bs es blocks (suc k), start_same bs (length (es ++ e ∷ [])) (length es) (suc k) l))
                | inr l ↦ omega arith
              ] in
              let place : i ≡ length es = omega (arith, to, last, bound) in
              ap (λ (x : Stretch). x.entry.obj) (ap (λ (x : ℕ). get_or (es ++ e ∷ []) x d) place ∙ get_or-append_seam es e [] d)
              ∙ (sym is ∙ ap (object_at bs) (same_place (length bs - 1) k (omega arith)))
        ];
    apart = blocks.apart;
  }

  module _ (b : Block) (start : b.start ≡ length es) (object : object_of b.object ≡ e.entry.obj) (ordered : IsInOrder (spread (es ++ e ∷ [])))
      (differs : (nat_lt 0 (length bs) && same_object (object_at bs (length bs - 1)) e.entry.obj) ≡ false) where
    more : (k : ℕ) → k ≤ length bs → start_at (bs ++ b ∷ []) (length (es ++ e ∷ [])) k ≡ start_at bs (length es) k
    more k h = start_more bs b (length es) (length (es ++ e ∷ [])) k start h

    at_end : start_at (bs ++ b ∷ []) (length (es ++ e ∷ [])) (suc (length bs)) ≡ length es + 1
    at_end = start_end (bs ++ b ∷ []) (length (es ++ e ∷ [])) (suc (length bs)) (simp length-append (omega arith)) ∙ longer

    count : length (bs ++ b ∷ []) ≡ length bs + 1
    count = length-append bs (b ∷ [])

    -- the last object comes before the new one
    last_below : (k : ℕ) → suc k ≡ length bs → object_cmp (object_at bs k) e.entry.obj ≡ Less
    last_below k is =
        let i = start_at bs (length es) k in
        let inside : i < length es = omega (arith, blocks.some k (omega arith), start_bound bs es blocks (suc k)) in
        let here : (get_or es i e).entry.obj ≡ object_at bs k = blocks.alike k i e (omega arith) (omega arith) (blocks.some k (omega arith)) in
        let first : (get_or (es ++ e ∷ []) i e).entry.obj ≡ object_at bs k = ap (λ (x : Stretch). x.entry.obj) (get_or_append_left es (e ∷ []) e i inside) ∙ here in
        let second : (get_or (es ++ e ∷ []) (length es) e).entry.obj ≡ e.entry.obj = ap (λ (x : Stretch). x.entry.obj) (get_or-append_seam es e [] e) in
        let up : object_cmp (get_or (es ++ e ∷ []) i e).entry.obj (get_or (es ++ e ∷ []) (length es) e).entry.obj ≢ Greater =
        by_objects (es ++ e ∷ []) ordered i (length es) e inside (omega (arith, longer)) in
        let up_too : object_cmp (object_at bs k) e.entry.obj ≢ Greater = subst (λ (x : ObjId). object_cmp (object_at bs k) x ≢ Greater) second (subst (λ (x : ObjId). object_cmp x (get_or (es ++ e ∷ []) (length es) e).entry.obj ≢ Greater) first up) in
        let apart : same_object (object_at bs (length bs - 1)) e.entry.obj ≡ false = second_false _ _ (lt-ltb 0 (length bs) (omega arith)) differs in
        only_less (object_cmp (object_at bs k) e.entry.obj) up_too (subst (λ (x : ℕ). same_object (object_at bs x) e.entry.obj ≡ false) (same_place (length bs - 1) k (omega arith)) apart)

    all_below : (j : ℕ) → j < length bs → object_cmp (object_at bs j) e.entry.obj ≡ Less
    all_below j lt = elim (below_or_not (suc j) (length bs)) [
      | inl l ↦
          let last = length bs - 1 in
          object_total.trans (object_at bs j) (object_at bs last) e.entry.obj (blocks.apart j last (omega arith) (omega arith)) (last_below last (omega arith))
      | inr l ↦ last_below j (omega arith)
    ]

    pub new_block : AreBlocks (bs ++ b ∷ []) (es ++ e ∷ [])
    new_block = record {
      first = more 0 (omega arith) ∙ blocks.first;
      some = λ k lt. elim (below_or_at k (length bs) (omega (arith, count, lt))) [
        | inl l ↦ omega (arith, more k (omega arith), more (suc k) (omega arith), blocks.some k l)
        | inr is ↦
            let here : start_at (bs ++ b ∷ []) (length (es ++ e ∷ [])) k ≡ length es = more k (omega arith) ∙ start_end bs (length es) k (omega arith) in
            let there : start_at (bs ++ b ∷ []) (length (es ++ e ∷ [])) (suc k) ≡ length es + 1 = ap (λ (x : ℕ). start_at (bs ++ b ∷ []) (length (es ++ e ∷ [])) (suc x)) is ∙ at_end in
            omega (arith, here, there)
      ];
      alike = λ k i d lt from to. elim (below_or_at k (length bs) (omega (arith, count, lt))) [
        | inl l ↦
            let inside : i < length es = omega (arith, to, more (suc k) (omega arith), start_bound bs es blocks (suc k)) in
            ap (λ (x : Stretch). x.entry.obj) (get_or_append_left es (e ∷ []) d i inside)
            ∙ (blocks.alike k i d l (omega (arith, from, more k (omega arith))) (omega (arith, to, more (suc k) (omega arith))) ∙ sym (object_more bs b k l))
        | inr is ↦
            let here : start_at (bs ++ b ∷ []) (length (es ++ e ∷ [])) k ≡ length es = more k (omega arith) ∙ start_end bs (length es) k (omega arith) in
            let there : start_at (bs ++ b ∷ []) (length (es ++ e ∷ [])) (suc k) ≡ length es + 1 = ap (λ (x : ℕ). start_at (bs ++ b ∷ []) (length (es ++ e ∷ [])) (suc x)) is ∙ at_end in
            let place : i ≡ length es = omega (arith, from, to, here, there) in
            ap (λ (x : Stretch). x.entry.obj) (ap (λ (x : ℕ). get_or (es ++ e ∷ []) x d) place ∙ get_or-append_seam es e [] d)
            ∙ (sym object ∙ sym (object_new bs b k is))
      ];
      apart = λ j k lt inside. elim (below_or_at k (length bs) (omega (arith, count, inside))) [
        | inl l ↦
            subst (λ (x : ObjId). object_cmp (object_at (bs ++ b ∷ []) j) x ≡ Less) (sym (object_more bs b k l))
            (subst (λ (x : ObjId). object_cmp x (object_at bs k) ≡ Less) (sym (object_more bs b j (omega arith))) (blocks.apart j k lt l))
        | inr is ↦
            subst (λ (x : ObjId). object_cmp (object_at (bs ++ b ∷ []) j) x ≡ Less) (sym (object_new bs b k is ∙ object))
            (subst (λ (x : ObjId). object_cmp x e.entry.obj ≡ Less) (sym (object_more bs b j (omega arith))) (all_below j (omega arith)))
      ];
    }

-- ---- any entry of an object

module _ (bs : List Block) (es : List Stretch) (o : ObjId) (blocks : AreBlocks bs es) where
  -- the last block is that of the object
  pub again : (nat_lt 0 (length bs) && same_object (object_at bs (length bs - 1)) o) ≡ true → (e : Stretch) → e.entry.obj ≡ o → IsInOrder (spread (es ++ e ∷ [])) → AreBlocks bs (es ++ e ∷ [])
  again test e is ordered =
      let parts = place_is 0 (length bs) _ test in
      same_block bs es e blocks parts.0 (same_object-true (object_at bs (length bs - 1)) o parts.1 ∙ sym is)

  -- it isn't
  pub anew : (nat_lt 0 (length bs) && same_object (object_at bs (length bs - 1)) o) ≡ false → (b : Block) → b.start ≡ length es → object_of b.object ≡ o
      → (e : Stretch) → e.entry.obj ≡ o → IsInOrder (spread (es ++ e ∷ [])) → AreBlocks (bs ++ b ∷ []) (es ++ e ∷ [])
  anew test b start object e is ordered =
      new_block bs es e blocks b start (object ∙ sym is) ordered
      (subst (λ (x : ObjId). (nat_lt 0 (length bs) && same_object (object_at bs (length bs - 1)) x) ≡ false) (sym is) test)
