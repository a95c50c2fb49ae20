-- Every listing of a valid set with dependencies first is one in which each change joins those before it.
use Rattle.std.proofs.Common.{ℕ, ◌≡◌, ◌+◌, ◌-◌, ◌≤◌, ◌^◌, List, [], ◌∷◌, ◌++◌, length, Bool, true, false, Option, Some, None, option_map, refl, sym, ap, ◌∙◌, subst, inl, inr, All, Contains, IsPermutation, IsTrue, arith}
use Rattle.std.specs.Bool.{then_some}
use Rattle.std.specs.Option.{option_or}
use Rattle.std.specs.Prelude.{nat_lt, sum_by}
use Rattle.std.specs.List.{list_any, list_all, IsDistinct, AllByRecursion}
use Rattle.std.proofs.lemmas.Bool.{cases_Bool, both_ways, and_parts, and_from, and_left, and_right, or_from, false_from_ne_true, not_from_true, ltb-true, ltb-false, le-ltb, leb-true}
use Rattle.std.proofs.lemmas.Cmp.{eq_by_cmp_equiv}
use Rattle.std.proofs.lemmas.List.{append_assoc, append-nil, map-append, length-append}
use Rattle.std.proofs.lemmas.List.Elements.{All-contains, All-from_recursion, Contains-append_left, Contains-append_right, Contains-push, Contains-push_cases, Contains-get_or}
use Rattle.std.proofs.lemmas.List.Sorted.{IsPermutation-sym, IsPermutation-trans, IsPermutation-map, IsPermutation-to_front, Contains-permutation, sum_by-IsPermutation, length_permutation}
use Rattle.std.proofs.lemmas.Map.Keys.{IsDistinct-IsPermutation, IsDistinct-head, IsDistinct-tail}
use Rattle.am_types.specs.declared.Hash.{Hash}
use Rattle.am_types.specs.declared.ObjId.{ObjId}
use Rattle.am_types.specs.declared.ObjId.TheVariants.{Root, Made}
use Rattle.am_types.specs.declared.Key.{Key}
use Rattle.am_types.specs.declared.Key.TheVariants.{Name, Head, Elem}
use Rattle.am_types.specs.declared.Change.{Change}
use Rattle.am_types.specs.declared.Verdict.TheVariants.{BadReference, SeqClash, SeqGap, StartLow, Full}
use Rattle.am_types.specs.declared.Limit.{Limit}
use Rattle.am_types.specs.declared.Limit.TheVariants.{Changes, Operations, Preds, Links}
use Rattle.std.proofs.lemmas.Option.{none-some}
use Rattle.std.proofs.lemmas.List.Sums.{sum_by-append}
use Rattle.am_types.specs.Same.{same_hash}
use Rattle.am_types.specs.Operations.{Operation, operations, all_operations}
use Rattle.am_types.specs.Fine.{pred_count}
use Rattle.am_types.specs.Members.{Member, changes, hashes, holds, holds_deps}
use Rattle.am_types.specs.Ancestors.{ancestors, ancestor_hashes, is_named}
use Rattle.am_types.specs.ValidSets.{Valid, Joins, JoinInTurn}
use Rattle.am_types.specs.Totals.{above, first_some}
use Rattle.am_types.specs.Verdicts.{has_seq, seq_clash, seq_gap, start_low, bad_reference, full, limit_passed}
use Rattle.am_types.specs.References.{first_bad, has_good_references, object_takes, element_known, pred_known}
use Rattle.am_types.specs.Members.{DepsFirst}
use Rattle.am_types.specs.Verdicts.{NoReasonApplies}
use Rattle.am_laws.proofs.VerdictLaws.{fits_by, fits_from}
use Rattle.am_types.proofs.Orders.{hash_total, same_hash-true}
use Rattle.am_laws.proofs.Ancestry.{ancestors_named, ancestors_closed, ancestors_least, Contains-from_filter}
use Rattle.am_histories.proofs.Sorted.{Contains-cases, Contains-here, Contains-there, Contains-none}
use Rattle.am_histories.proofs.Contained.{all_passes, any_from}
use Rattle.am_histories.proofs.Tests.{unmapped, none_then, find-misses, any_has}
use Rattle.am_histories.proofs.Authors.{Settled, Settled-all, Settled-push, Settled-nil, DepsHeld, holds-hash, held_member, among-from, among-true, has_seq-true, has_seq-from, one_before}
use Rattle.am_histories.proofs.Operations.{operations_in, operation_of, ancestor_in}
use Rattle.am_histories.proofs.Listed.{fresh_later}

-- ---- ancestors in two sets

-- what is an ancestor in E is one in B
module _ (E B : List Member) (hs : List Hash)
    (agree : (n p : Member) → Contains E n → Contains B p → n.hash ≡ p.hash → n ≡ p)
    (closed : (n : Member) → Contains B n → DepsHeld B n)
    (held : (h : Hash) → Contains hs h → holds B h ≡ true) where
  abbrev There : Hash → Type 0
  There h = (n : Member) → Contains E n → n.hash ≡ h → Contains (ancestors B hs) n

  in_B : (n : Member) → Contains E n → holds B n.hash ≡ true → Contains B n
  in_B n c e = let r = held_member B n.hash e in subst (Contains B) (sym (agree n r.0 c r.1 (sym r.2))) r.1

  there_named : All There hs
  there_named k d l n c e =
      let h : Contains hs n.hash = subst (Contains hs) (sym e) (Contains-get_or hs k d l) in
      ancestors_named B hs n (in_B n c (held n.hash h)) (among-from hs n.hash h)

  there_passes : (m : Member) → Contains E m → There m.hash → All There m.change.deps
  there_passes m cm t k d l n c e =
      let am = t m cm refl in
      let h : Contains m.change.deps n.hash = subst (Contains m.change.deps) (sym e) (Contains-get_or m.change.deps k d l) in
      ancestors_closed B hs m n am (among-from m.change.deps n.hash h) (in_B n c (closed m (ancestor_in B hs m am) n.hash h))

  pub ancestors_within : (n : Member) → Contains (ancestors E hs) n → Contains (ancestors B hs) n
  unfolding ancestors
  ancestors_within n c =
      let f = Contains-from_filter (is_named (ancestor_hashes E hs)) E n c in
      All-contains There (ancestor_hashes E hs) n.hash (ancestors_least E There there_passes hs there_named) (among-true _ n.hash f.1) n f.0 refl

-- ---- references stay good where more is known

any_more : {X : Type 0} (p : X → Bool) (xs ys : List X) → ((x : X) → Contains xs x → Contains ys x) → list_any p xs ≡ true → list_any p ys ≡ true
any_more p xs ys f e = let r = any_has p xs e in any_from p ys r.0 (f r.0 r.1) r.2

all_more : {X : Type 0} (p q : X → Bool) (xs : List X) → ((x : X) → p x ≡ true → q x ≡ true) → list_all p xs ≡ true → list_all q xs ≡ true
all_more p q [] f e = refl
all_more p q (x ∷ xs) f e = let a = and_parts _ _ e in and_from _ _ (f x a.0) (all_more p q xs f a.1)

module _ (K M : List Operation) (more : (x : Operation) → Contains K x → Contains M x) where
  object_takes_more : (o : ObjId) (k : Key) → object_takes K o k ≡ true → object_takes M o k ≡ true
  object_takes_more Root k e = e
  object_takes_more (Made o) k e = any_more _ K M more e

  element_known_more : (o : ObjId) (k : Key) → element_known K o k ≡ true → element_known M o k ≡ true
  element_known_more o (Name n) e = refl
  element_known_more o Head e = refl
  element_known_more o (Elem i) e = any_more _ K M more e

  good_more : (x : Operation) → has_good_references K x ≡ true → has_good_references M x ≡ true
  good_more x e =
      let a = and_parts _ _ e in
      let b = and_parts _ _ a.0 in
      and_from _ _ (and_from _ _ (object_takes_more x.op.obj x.op.key b.0) (element_known_more x.op.obj x.op.key b.1))
      (all_more (pred_known K x) (pred_known M x) x.op.preds (λ p t. any_more _ K M more t) a.1)

first_bad_more : (xs K M : List Operation) → ((x : Operation) → Contains K x → Contains M x) → first_bad K xs ≡ None → first_bad M xs ≡ None
first_bad_more [] K M more e = refl
first_bad_more (x ∷ xs) K M more e = elim (cases_Bool (has_good_references K x)) [
  | inl g ↦
      let again : first_bad (M ++ x ∷ []) xs ≡ None = first_bad_more xs (K ++ x ∷ []) (M ++ x ∷ [])
      (λ y c. elim (Contains-push_cases K x y c) [ inl d ↦ Contains-append_left M (x ∷ []) y (more y d) | inr f ↦ subst (Contains (M ++ x ∷ [])) f (Contains-push M x) ])
      (unmapped (λ (i : ℕ). i + 1) _ (simp g at e)) in
      let h = good_more K M more x g in
      simp (h, again) refl
  | inr g ↦ absurd (none-some 0 (sym (simp g at e)))
]

-- ---- limits

pub record WithinLimits (cs : List Change) : Type 0 where
  pub changes : length cs ≤ 2 ^ 20
  pub operations : sum_by (λ c. length c.ops) cs ≤ 2 ^ 22
  pub preds : sum_by (λ c. pred_count c.ops) cs ≤ 2 ^ 22
  pub links : sum_by (λ c. length c.deps) cs ≤ 2 ^ 22

none_parts : {X : Type 0} (o r : Option X) → option_or o r ≡ None → (o ≡ None) × (r ≡ None)
none_parts None r e = (refl, e)
none_parts (Some x) r e = absurd (none-some x (sym e))

not_above : (most n : ℕ) (limit : Limit) → above most n limit ≡ None → n ≤ most
not_above most n limit e = ltb-false most n (none_then _ limit e)

above_none : (most n : ℕ) (limit : Limit) → n ≤ most → above most n limit ≡ None
above_none most n limit h = ap (λ b. then_some b limit) (le-ltb most n h)

within_from : (cs : List Change) → limit_passed cs ≡ None → WithinLimits cs
within_from cs e =
    let a = none_parts _ _ e in
    let b = none_parts _ _ a.1 in
    let c = none_parts _ _ b.1 in
    let d = none_parts _ _ c.1 in
    record { changes = not_above _ _ _ a.0; operations = not_above _ _ _ b.0; preds = not_above _ _ _ c.0; links = not_above _ _ _ d.0 }

passed_none : (cs : List Change) → WithinLimits cs → limit_passed cs ≡ None
passed_none cs w = λ i. first_some (
    above_none (2 ^ 20) (length cs) Changes w.changes i
    ∷ above_none (2 ^ 22) (sum_by (λ c. length c.ops) cs) Operations w.operations i
    ∷ above_none (2 ^ 22) (sum_by (λ c. pred_count c.ops) cs) Preds w.preds i
    ∷ above_none (2 ^ 22) (sum_by (λ c. length c.deps) cs) Links w.links i ∷ [])

WithinLimits-permutation : (cs ds : List Change) → IsPermutation cs ds → WithinLimits cs → WithinLimits ds
WithinLimits-permutation cs ds p w = record {
  changes = rw (length_permutation cs ds p) w.changes;
  operations = rw (sum_by-IsPermutation (λ c. length c.ops) cs ds p) w.operations;
  preds = rw (sum_by-IsPermutation (λ c. pred_count c.ops) cs ds p) w.preds;
  links = rw (sum_by-IsPermutation (λ c. length c.deps) cs ds p) w.links;
}

first_part : (f : Change → ℕ) (bs : List Change) (c : Change) (ds : List Change) (most : ℕ) → sum_by f (bs ++ c ∷ ds) ≤ most → sum_by f (c ∷ bs) ≤ most
first_part f bs c ds most h =
    let whole = ap (sum_by f) (append_assoc bs (c ∷ []) ds) in
    let parts = sum_by-append f (bs ++ c ∷ []) ds in
    let front = sum_by-IsPermutation f (bs ++ c ∷ []) (c ∷ bs) (IsPermutation-to_front bs c) in
    omega arith

WithinLimits-part : (bs : List Change) (c : Change) (ds : List Change) → WithinLimits (bs ++ c ∷ ds) → WithinLimits (c ∷ bs)
WithinLimits-part bs c ds w = record {
  changes = let e = length-append bs (c ∷ ds) in let h = w.changes in omega arith;
  operations = first_part (λ c. length c.ops) bs c ds _ w.operations;
  preds = first_part (λ c. pred_count c.ops) bs c ds _ w.preds;
  links = first_part (λ c. length c.deps) bs c ds _ w.links;
}

limits_hold : (B rest : List Member) → JoinInTurn B rest → WithinLimits (changes B) → WithinLimits (changes (B ++ rest))
limits_hold B [] t w = subst (λ l. WithinLimits (changes l)) (sym (append-nil B)) w
limits_hold B (m ∷ rest) t w =
    let f = fits_by B m.change t.0.fits in
    let one = within_from (m.change ∷ changes B) (unmapped Full _ f.limits) in
    let pushed : changes (B ++ m ∷ []) ≡ changes B ++ m.change ∷ [] = map-append (λ (n : Member). n.change) B (m ∷ []) in
    let moved = WithinLimits-permutation _ _ (IsPermutation-sym _ _ (IsPermutation-to_front (changes B) m.change)) one in
    subst (λ l. WithinLimits (changes l)) (append_assoc B (m ∷ []) rest)
    (limits_hold (B ++ m ∷ []) rest t.1 (subst WithinLimits (sym pushed) moved))

-- ---- different hashes

same_hash-flips : (x y : Hash) → same_hash x y ≡ same_hash y x
same_hash-flips = (eq_by_cmp_equiv hash_total).symm

each_differs : (m : Member) (rest : List Member) → ((n : Member) → Contains rest n → same_hash m.hash n.hash ≡ false) → AllByRecursion (λ y. same_hash m.hash y ≡ false) (hashes rest)
each_differs m [] f = tt
each_differs m (n ∷ rest) f = (f n (Contains-here n rest), each_differs m rest (λ p c. f p (Contains-there n p rest c)))

hashes_differ : (B rest : List Member) → JoinInTurn B rest → IsDistinct same_hash (hashes rest)
unfolding IsDistinct
hashes_differ B [] t = tt
hashes_differ B (m ∷ rest) t =
    (each_differs m rest (λ n c. same_hash-flips m.hash n.hash ∙ fresh_later (B ++ m ∷ []) rest t.1 m n (Contains-push B m) c), hashes_differ (B ++ m ∷ []) rest t.1)

fresh_at : (xs : List Hash) (y : Hash) (ys : List Hash) → IsDistinct same_hash (xs ++ y ∷ ys) → list_any (same_hash y) xs ≡ false
fresh_at [] y ys d = refl
fresh_at (x ∷ xs) y ys d =
    or_from _ _
    (same_hash-flips y x ∙ All-contains (λ z. same_hash x z ≡ false) (xs ++ y ∷ ys) y (All-from_recursion (λ z. same_hash x z ≡ false) (xs ++ y ∷ ys) (IsDistinct-head same_hash x (xs ++ y ∷ ys) d)) (Contains-append_right xs (y ∷ ys) y (Contains-here y ys)))
    (fresh_at xs y ys (IsDistinct-tail same_hash x (xs ++ y ∷ ys) d))

-- ---- in turn

each_settled : (B rest : List Member) → Settled B → JoinInTurn B rest → (n : Member) → Contains rest n → (E : List Member) × ((p : Member) → Contains E p → Contains (B ++ rest) p) × Joins E n × Settled E
each_settled B [] s t n c = absurd (Contains-none n c)
each_settled B (m ∷ rest) s t n c = elim (Contains-cases m n rest c) [
  | inl e ↦ (B, λ p d. Contains-append_left B (m ∷ rest) p d, subst (Joins B) e t.0, s)
  | inr d ↦
      let r = each_settled (B ++ m ∷ []) rest (Settled-push B s m t.0) t.1 n d in
      (r.0, λ p f. subst (λ l. Contains l p) (append_assoc B (m ∷ []) rest) (r.1 p f), r.2, r.3)
]

module _ (V L : List Member) (turn : JoinInTurn [] V) (perm : IsPermutation V L) where
  whole_settled : Settled V
  whole_settled = Settled-all [] Settled-nil V turn

  in_V : (n : Member) → Contains L n → Contains V n
  in_V n c = Contains-permutation L V n (IsPermutation-sym V L perm) c

  within_L : WithinLimits (changes L)
  within_L =
      WithinLimits-permutation (changes V) (changes L) (IsPermutation-map (λ (m : Member). m.change) V L perm)
      (limits_hold [] V turn (record { changes = omega arith; operations = omega arith; preds = omega arith; links = omega arith }))

  L_differ : IsDistinct same_hash (hashes L)
  L_differ = IsDistinct-IsPermutation same_hash same_hash-flips (hashes V) (hashes L) (IsPermutation-map (λ (m : Member). m.hash) V L perm) (hashes_differ [] V turn)

  module _ (B : List Member) (m : Member) (rest : List Member) (w : L ≡ B ++ m ∷ rest)
      (closed : (n : Member) → Contains B n → DepsHeld B n) (held : DepsHeld B m) where
    in_L : (n : Member) → Contains (B ++ m ∷ rest) n → Contains V n
    in_L n c = in_V n (subst (λ l. Contains l n) (sym w) c)

    B_in : (n : Member) → Contains B n → Contains V n
    B_in n c = in_L n (Contains-append_left B (m ∷ rest) n c)

    m_in : Contains V m
    m_in = in_L m (Contains-append_right B (m ∷ rest) m (Contains-here m rest))

    fresh : holds B m.hash ≡ false
    fresh = fresh_at (hashes B) m.hash (hashes rest) (subst (IsDistinct same_hash) (ap hashes w ∙ map-append (λ (n : Member). n.hash) B (m ∷ rest)) L_differ)

    place : (E : List Member) × ((p : Member) → Contains E p → Contains V p) × Joins E m × Settled E
    place = each_settled [] V Settled-nil turn m m_in

    E : List Member
    E = place.0

    c : Change
    c = m.change

    fits_E : NoReasonApplies E m.change
    unfolding E
    fits_E = fits_by place.0 m.change place.2.fits

    to_B : (n : Member) → Contains (ancestors E m.change.deps) n → Contains (ancestors B m.change.deps) n
    unfolding E
    to_B = ancestors_within place.0 B m.change.deps (λ n p cn cp e. whole_settled.apart n p (place.1 n cn) (B_in p cp) e) closed held

    clash : seq_clash B m.change ≡ None
    clash = ap (option_map (λ (n : Member). SeqClash n.hash)) (find-misses (has_seq m.change.actor m.change.seq) B (λ n cn. false_from_ne_true _ (λ t.
        let a = has_seq-true n m.change.actor m.change.seq t in
        let same_one = whole_settled.single n m (B_in n cn) m_in a.0 a.1 in
        both_ways _ fresh (ap (λ (x : Member). holds B x.hash) (sym same_one) ∙ holds-hash B n cn))))

    gap : seq_gap (ancestors B m.change.deps) m.change ≡ None
    unfolding E
    gap = ap (λ b. then_some b SeqGap) (elim (cases_Bool (nat_lt 1 m.change.seq)) [
      | inl e ↦
          let p = one_before place.0 m place.2 (ltb-true _ _ e) in
          let t = any_from (has_seq m.change.actor (m.change.seq - 1)) (ancestors B m.change.deps) p.0 (to_B p.0 p.1) (has_seq-from p.0 m.change.actor (m.change.seq - 1) p.2 p.3) in
          and_right _ _ (not_from_true _ t)
      | inr e ↦ and_left _ _ e
    ])

    low : start_low (ancestors B m.change.deps) m.change ≡ None
    low = ap (option_map StartLow) (find-misses _ m.change.deps (λ h ch. false_from_ne_true _ (λ t.
        let n = any_has _ (ancestors B m.change.deps) t in
        let a = and_parts _ _ n.2 in
        let e : n.0.hash ≡ h = same_hash-true n.0.hash h a.0 in
        let below = whole_settled.low m n.0 m_in (B_in n.0 (ancestor_in B m.change.deps n.0 n.1)) (subst (Contains m.change.deps) (sym e) ch) in
        let above_it = leb-true _ _ a.1 in
        absurd (omega arith))))

    references : bad_reference (ancestors B m.change.deps) m.change ≡ None
    unfolding E
    references = ap (option_map BadReference) (first_bad_more (operations m.change) (all_operations (changes (ancestors E m.change.deps))) (all_operations (changes (ancestors B m.change.deps)))
        (λ x cx. let o = operation_of (ancestors E m.change.deps) x cx in operations_in (ancestors B m.change.deps) o.0 x (to_B o.0 o.1) o.2)
        (unmapped BadReference _ fits_E.references))

    limits : full B m.change ≡ None
    limits = ap (option_map Full) (passed_none (m.change ∷ changes B) (WithinLimits-part (changes B) m.change (changes rest)
        (subst WithinLimits (ap changes w ∙ map-append (λ (n : Member). n.change) B (m ∷ rest)) within_L)))

    joins : IsTrue (holds_deps B m.change) → Joins B m
    joins d = record {
      hash = place.2.hash;
      fresh = fresh;
      deps = d;
      fine = whole_settled.fine m m_in;
      fits = fits_from B m.change (record { clash = clash; gap = gap; low = low; references = references; limits = limits });
    }

  in_turn : (B rest : List Member) → L ≡ B ++ rest → ((n : Member) → Contains B n → DepsHeld B n) → DepsFirst B rest → JoinInTurn B rest
  in_turn B [] w closed d = tt
  in_turn B (m ∷ rest) w closed d =
      let held : DepsHeld B m = λ h c. all_passes (holds B) m.change.deps h d.0 c in
      let more : (h : Hash) → holds B h ≡ true → holds (B ++ m ∷ []) h ≡ true =
      λ h e. let r = held_member B h e in subst (λ g. holds (B ++ m ∷ []) g ≡ true) r.2 (holds-hash (B ++ m ∷ []) r.0 (Contains-append_left B (m ∷ []) r.0 r.1)) in (
        joins B m rest w closed held d.0,
        in_turn (B ++ m ∷ []) rest (w ∙ sym (append_assoc B (m ∷ []) rest))
            (λ n c. elim (Contains-push_cases B m n c) [
              | inl e ↦ λ h i. more h (closed n e h i)
              | inr e ↦ subst (DepsHeld (B ++ m ∷ [])) e (λ h i. more h (held h i))
            ]) d.1,
      )

pub joins_listed : (C L : List Member) → Valid C → IsPermutation C L → DepsFirst [] L → JoinInTurn [] L
joins_listed C L v p d =
    in_turn v.listing L v.in_turn (IsPermutation-trans v.listing C L (IsPermutation-sym C v.listing v.same) p) [] L refl (λ n c. absurd (Contains-none n c)) d
