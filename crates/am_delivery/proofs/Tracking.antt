-- A tracker keeps its meaning, and its queue's least hash is that of the first ready change.
use Rattle.std.proofs.Common.{ℕ, zero, suc, ◌+◌, ◌≡◌, ◌≢◌, ◌↔◌, ◌≤◌, List, [], ◌∷◌, ◌++◌, get_or, filter, Bool, true, false, cond, not, refl, sym, ap, ◌∙◌, subst, inl, inr, ◌⊎◌, Contains, IsPermutation, count_by, arith}
use Rattle.std.specs.List.{list_all}
use Rattle.std.specs.Ordering.{is_gt}
use Rattle.std.specs.declared.cmp.Ordering.TheVariants.{Less, Equal}
use Rattle.std.specs.List.Sorted.{IsStrictlySortedBy}
use Rattle.std.proofs.lemmas.Bool.{cases_Bool, both_ways, false_from_ne_true, and_parts, and_from}
use Rattle.std.proofs.lemmas.Cmp.{tied_itself}
use Rattle.std.proofs.lemmas.List.Sums.{sum_by-cons}
use Rattle.std.proofs.lemmas.List.Elements.{recursion_from_All, All-contains, All-from_recursion, Contains-get_or, Contains-append_left, Contains-push, Contains-push_cases}
use Rattle.std.proofs.lemmas.Map.Keys.{sorted_from_all_adjacent, sorted_head, sorted_tail}
use Rattle.am_types.specs.declared.Hash.{Hash}
use Rattle.am_types.specs.declared.Change.{Change}
use Rattle.am_types.specs.Order.{hash_cmp, same, among, sorted_by, Ascends}
use Rattle.am_types.specs.Fine.{Fine}
use Rattle.am_types.specs.Members.{Member, holds, holds_deps}
use Rattle.am_types.specs.Deliver.{ready, without}
use Rattle.am_types.proofs.Orders.{hash_total, same_hash-true, same_hash_itself}
use Rattle.am_laws.proofs.Ancestry.{Contains-filter, Contains-from_filter}
use Rattle.am_types.proofs.Sorting.{IsPermutation-sorted_by}
use Rattle.am_types.proofs.Rising.{put_first}
use Rattle.am_laws.proofs.SettleLaws.{by_hash}
use Rattle.am_delivery.specs.Tracking.{missing, Tracker, Tracks, Takes, Releases, Enters}
use Rattle.am_delivery.proofs.Lists.{Within, NoRepeat, Contains-none, Contains-here, Contains-later, Contains-cons_cases, same_members, all_found, all_from}
use Rattle.am_delivery.proofs.Members.{Distinct, holds_it, holder, holds_within, not_held_within, deps_within, among_from, from_among, unique, no_repeat, distinct_filter}
use Rattle.am_delivery.proofs.Settling.{waits_still, leaves_one}
use Rattle.am_delivery.proofs.Alikeness.{by_total, sorted_permutation}

-- ---- counting what is missing

abbrev lacking : List Member → List Hash → ℕ
lacking C hs = count_by (λ h. not (holds C h)) hs

lacking-cons : (C : List Member) (h : Hash) (hs : List Hash) → lacking C (h ∷ hs) ≡ cond (not (holds C h)) 1 0 + lacking C hs
lacking-cons C h hs = sum_by-cons (λ (h : Hash). cond (not (holds C h)) 1 0) h hs

lacking-held : (C : List Member) (h : Hash) (hs : List Hash) → holds C h ≡ true → lacking C (h ∷ hs) ≡ lacking C hs
lacking-held C h hs t = lacking-cons C h hs ∙ ap (λ b. cond (not b) 1 0 + lacking C hs) t ∙ (omega arith)

lacking-new : (C : List Member) (h : Hash) (hs : List Hash) → holds C h ≡ false → lacking C (h ∷ hs) ≡ 1 + lacking C hs
lacking-new C h hs f = lacking-cons C h hs ∙ ap (λ b. cond (not b) 1 0 + lacking C hs) f

pub none_lacking : (C : List Member) (hs : List Hash) → lacking C hs ≡ 0 → list_all (holds C) hs ≡ true
none_lacking C [] e = refl
none_lacking C (h ∷ hs) e =
    let again : lacking C hs ≡ 0 → list_all (holds C) hs ≡ true = none_lacking C hs in
    elim (cases_Bool (holds C h)) [
      | inl t ↦ let k = lacking-held C h hs t in and_from _ _ t (again (omega arith))
      | inr f ↦ let k = lacking-new C h hs f in absurd (omega arith)
    ]

pub all_held : (C : List Member) (hs : List Hash) → list_all (holds C) hs ≡ true → lacking C hs ≡ 0
all_held C [] e = refl
all_held C (h ∷ hs) e =
    let p = and_parts (holds C h) (list_all (holds C) hs) e in
    lacking-held C h hs p.0 ∙ all_held C hs p.1

held_push : (C : List Member) (m : Member) (h : Hash) → holds C h ≡ true → holds (C ++ m ∷ []) h ≡ true
held_push C m h t = holds_within C (C ++ m ∷ []) h (λ n c. Contains-append_left C (m ∷ []) n c) t

new_push : (C : List Member) (m : Member) (h : Hash) → holds C h ≡ false → (m.hash ≢ h) → holds (C ++ m ∷ []) h ≡ false
new_push C m h f ne = false_from_ne_true _ (λ t.
    let k = holder (C ++ m ∷ []) h t in
    elim (Contains-push_cases C m k.0 k.1) [
      | inl c ↦ both_ways (holds C h) f (subst (λ g. holds C g ≡ true) k.2 (holds_it C k.0 c))
      | inr e ↦ ne (ap (λ (x : Member). x.hash) e ∙ k.2)
    ])

-- one more member is missing no longer
lacking_other : (C : List Member) (m : Member) (hs : List Hash) → (Contains hs m.hash → ⊥) → lacking (C ++ m ∷ []) hs ≡ lacking C hs
lacking_other C m [] no' = refl
lacking_other C m (h ∷ hs) no' =
    let again : lacking (C ++ m ∷ []) hs ≡ lacking C hs = lacking_other C m hs (λ c. no' (Contains-later h hs m.hash c)) in
    elim (cases_Bool (holds C h)) [
      | inl t ↦ lacking-held (C ++ m ∷ []) h hs (held_push C m h t) ∙ again ∙ sym (lacking-held C h hs t)
      | inr f ↦
          let ne : m.hash ≢ h = λ e. no' (subst (λ g. Contains (g ∷ hs) m.hash) e (Contains-here m.hash hs)) in
          lacking-new (C ++ m ∷ []) h hs (new_push C m h f ne) ∙ ap (λ n. 1 + n) again ∙ sym (lacking-new C h hs f)
    ]

lacking_named : (C : List Member) (m : Member) (hs : List Hash) → NoRepeat hs → holds C m.hash ≡ false → Contains hs m.hash → lacking (C ++ m ∷ []) hs + 1 ≡ lacking C hs
lacking_named C m [] nr f c = absurd (Contains-none m.hash c)
lacking_named C m (h ∷ hs) nr f c =
    let again : Contains hs m.hash → lacking (C ++ m ∷ []) hs + 1 ≡ lacking C hs = lacking_named C m hs nr.1 f in
    elim (Contains-cons_cases h hs m.hash c) [
      | inl e ↦
          let other = lacking_other C m hs (λ k. nr.0 (subst (Contains hs) (sym e) k)) in
          let now = lacking-held (C ++ m ∷ []) h hs (subst (λ g. holds (C ++ m ∷ []) g ≡ true) (sym e) (holds_it (C ++ m ∷ []) m (Contains-push C m))) in
          let before = lacking-new C h hs (subst (λ g. holds C g ≡ false) (sym e) f) in
          omega arith
      | inr k ↦
          let rest = again k in
          elim (cases_Bool (holds C h)) [
            | inl t ↦ let now = lacking-held (C ++ m ∷ []) h hs (held_push C m h t) in let before = lacking-held C h hs t in omega arith
            | inr g ↦
                let ne : m.hash ≢ h = λ e. nr.0 (subst (Contains hs) e k) in
                let now = lacking-new (C ++ m ∷ []) h hs (new_push C m h g ne) in let before = lacking-new C h hs g in omega arith
          ]
    ]

pub strict_no_repeat : (hs : List Hash) → IsStrictlySortedBy hash_cmp hs → NoRepeat hs
strict_no_repeat [] s = tt
strict_no_repeat (h ∷ hs) s = (
  λ c. differ h (All-contains (λ g. hash_cmp h g ≡ Less) hs h (All-from_recursion (λ g. hash_cmp h g ≡ Less) hs (sorted_head hash_cmp h hs s)) c) (tied_itself hash_total h),
  strict_no_repeat hs (sorted_tail hash_cmp h hs s),
)
  where
    differ : (h : Hash) → hash_cmp h h ≡ Less → hash_cmp h h ≡ Equal → ⊥
    differ h a b = cc

-- dependencies that ascend don't repeat
pub deps_apart : (c : Change) → Fine c → NoRepeat c.deps
deps_apart c f = go c.deps f.deps_ascend
  where
    go : (hs : List Hash) → Ascends hash_cmp hs → NoRepeat hs
    go [] a = tt
    go (h ∷ hs) a = strict_no_repeat (h ∷ hs) (sorted_from_all_adjacent hash_total (h ∷ hs) h (λ k l. a k h l))

-- ---- the first that is ready

module _ (C W : List Member) (distinct : Distinct W) (m : Member) (waits : Contains W m) (deps : holds_deps C m.change ≡ true)
    (least : (n : Member) → Contains W n → holds_deps C n.change ≡ true → is_gt (hash_cmp m.hash n.hash) ≡ false) where
  abbrev p : Member → Bool
  p n = holds_deps C n.change

  abbrev others : List Member
  others = filter p (without m.hash W)

  apart : Contains others m → ⊥
  apart c = both_ways (same hash_cmp m.hash m.hash) (waits_still m m W (Contains-from_filter p (without m.hash W) m c).0).1 (same_hash_itself m.hash)

  split : IsPermutation (filter p W) (m ∷ others)
  split =
      same_members (filter p W) (m ∷ others) (no_repeat (filter p W) (distinct_filter p W distinct))
      (apart, no_repeat others (distinct_filter p (without m.hash W) (distinct_filter (λ (k : Member). not (same hash_cmp m.hash k.hash)) W distinct)))
      (λ n c.
      let f = Contains-from_filter p W n c in
      elim (leaves_one m n W f.0) [
        | inl e ↦ subst (Contains (m ∷ others)) (unique W distinct m n waits f.0 e) (Contains-here m others)
        | inr d ↦ Contains-later m others n (Contains-filter p (without m.hash W) n d f.1)
      ])
      (λ n c. elim (Contains-cons_cases m others n c) [
        | inl e ↦ subst (Contains (filter p W)) e (Contains-filter p W m waits deps)
        | inr d ↦ let f = Contains-from_filter p (without m.hash W) n d in Contains-filter p W n (waits_still m n W f.0).0 f.1
      ])

  pub least_is_first : ready C W ≡ m ∷ ready C (without m.hash W)
  least_is_first =
      sym (sorted_permutation (filter p W) (m ∷ others) (distinct_filter p W distinct) split)
      ∙ put_first by_total m (sorted_by by_hash others) (recursion_from_All (λ n. is_gt (by_hash m n) ≡ false) (sorted_by by_hash others)
      (λ k d l.
      let n = get_or (sorted_by by_hash others) k d in
      let c = Rattle.am_delivery.proofs.Lists.Within-permutation_back others (sorted_by by_hash others) (IsPermutation-sorted_by by_hash others) n (Contains-get_or (sorted_by by_hash others) k d l) in
      let f = Contains-from_filter p (without m.hash W) n c in
      least n (waits_still m n W f.0).0 f.1))

-- ---- the tracker's steps

module _ (C W : List Member) (t : Tracker) (tracks : Tracks C W t) (m : Member) (waits : Contains W m) (deps : holds_deps C m.change ≡ true) where
  stays : (n : Member) → Contains W n → (n.hash ≢ m.hash) → Contains (without m.hash W) n
  stays n c ne = elim (leaves_one m n W c) [ inl e ↦ absurd (ne (sym e)) | inr d ↦ d ]

  another : (n : Member) → Contains (without m.hash W) n → Contains W n × (n.hash ≢ m.hash)
  another n c = let k = waits_still m n W c in (k.0, λ e. both_ways (same hash_cmp m.hash n.hash) k.1 (subst (λ h. same hash_cmp m.hash h ≡ true) (sym e) (same_hash_itself m.hash)))

  still_held : (g : Hash) → holds W g ≡ true → (g ≢ m.hash) → holds (without m.hash W) g ≡ true
  still_held g t ne =
      let n = holder W g t in
      subst (λ h. holds (without m.hash W) h ≡ true) n.2 (holds_it (without m.hash W) n.0 (stays n.0 n.1 (λ e. ne (sym n.2 ∙ e))))

  -- a ready change waits for nothing that isn't held
  not_named : (h : Hash) → holds C h ≡ false → Contains (t.waiting_for h) m.hash → ⊥
  not_named h f c = both_ways (holds C h) f (all_found (holds C) m.change.deps deps h ((tracks.names h f m waits).0 c))

  pub takes_tracks : (u : Tracker) → Takes m.hash t u → Tracks C (without m.hash W) u
  takes_tracks u s = record {
    counts = λ n c. s.counts n.hash ∙ tracks.counts n (another n c).0;
    names = λ h f n c. subst (λ l. Contains l n.hash ↔ Contains n.change.deps h) (sym (s.names h)) (tracks.names h f n (another n c).0);
    named = λ h g f c.
        let d = subst (λ l. Contains l g) (s.names h) c in
        still_held g (tracks.named h g f d) (λ e. not_named h f (subst (Contains (t.waiting_for h)) e d));
    ready = λ n c.
        let a = another n c in
        let r = tracks.ready n a.0 in
        (λ k. r.0 ((s.ready n.hash).0 k).0, λ z. (s.ready n.hash).1 (r.1 z, a.1));
    queued = λ g c. let q = (s.ready g).0 c in still_held g (tracks.queued g q.0) q.1;
    once = λ h f g. subst (λ l. count_by (same hash_cmp g) l ≤ 1) (sym (s.names h)) (tracks.once h f g);
  }

-- how often a list names a hash
abbrev pub named_in : Hash → List Hash → ℕ
named_in g hs = count_by (same hash_cmp g) hs

pub named_none : (g : Hash) (hs : List Hash) → (Contains hs g → ⊥) → named_in g hs ≡ 0
named_none g [] no' = refl
named_none g (h ∷ hs) no' =
    let again = named_none g hs (λ c. no' (Contains-later h hs g c)) in
    let other : same hash_cmp g h ≡ false = false_from_ne_true _ (λ t. no' (subst (λ k. Contains (h ∷ hs) k) (sym (same_hash-true g h t)) (Contains-here h hs))) in
    sum_by-cons (λ (h : Hash). cond (same hash_cmp g h) 1 0) h hs ∙ ap (λ b. cond b 1 0 + named_in g hs) other ∙ (omega arith)

named_some : (g : Hash) (hs : List Hash) → Contains hs g → 1 ≤ named_in g hs
named_some g [] c = absurd (Contains-none g c)
named_some g (h ∷ hs) c =
    let again : Contains hs g → 1 ≤ named_in g hs = named_some g hs in
    let sum : named_in g (h ∷ hs) ≡ cond (same hash_cmp g h) 1 0 + named_in g hs = sum_by-cons (λ (h : Hash). cond (same hash_cmp g h) 1 0) h hs in
    elim (Contains-cons_cases h hs g c) [
      | inl e ↦ let one : named_in g (h ∷ hs) ≡ 1 + named_in g hs = sum ∙ ap (λ b. cond b 1 0 + named_in g hs) (subst (λ k. same hash_cmp g k ≡ true) (sym e) (same_hash_itself g)) in omega arith
      | inr d ↦ let some = again d in omega arith
    ]

module _ (C W : List Member) (t : Tracker) (tracks : Tracks C W t) (fine : (n : Member) → Contains W n → Fine n.change) where
  cases_named : (h : Hash) (n : Member) → Contains n.change.deps h ⊎ (Contains n.change.deps h → ⊥)
  cases_named h n = elim (cases_Bool (among hash_cmp n.change.deps h)) [
    | inl e ↦ inl (from_among n.change.deps h e)
    | inr f ↦ inr (λ d. both_ways (among hash_cmp n.change.deps h) f (among_from n.change.deps h d))
  ]

  -- those that wait for h have something missing
  pub enough_missing : (h : Hash) → holds C h ≡ false → (g : Hash) → named_in g (t.waiting_for h) ≤ t.missing g
  enough_missing h f g = elim (cases_Bool (among hash_cmp (t.waiting_for h) g)) [
    | inl e ↦
        let n = holder W g (tracks.named h g f (from_among (t.waiting_for h) g e)) in
        let dep = (tracks.names h f n.0 n.1).0 (subst (Contains (t.waiting_for h)) (sym n.2) (from_among (t.waiting_for h) g e)) in
        let had : t.missing g ≡ missing C n.0.change = subst (λ k. t.missing k ≡ missing C n.0.change) n.2 (tracks.counts n.0 n.1) in
        let some : missing C n.0.change ≡ 0 → ⊥ = λ z. both_ways (holds C h) f (all_found (holds C) n.0.change.deps (none_lacking C n.0.change.deps z) h dep) in
        let least = positive (missing C n.0.change) some in
        let most = tracks.once h f g in
        omega arith
    | inr e ↦ let none = named_none g (t.waiting_for h) (λ c. both_ways (among hash_cmp (t.waiting_for h) g) e (among_from (t.waiting_for h) g c)) in omega arith
  ]
    where
      positive : (n : ℕ) → (n ≡ 0 → ⊥) → 1 ≤ n
      positive zero ne = absurd (ne refl)
      positive (suc n) ne = omega arith

  module _ (m : Member) (fresh : holds C m.hash ≡ false) where
    pub releases_tracks : (u : Tracker) → Releases m.hash t u → Tracks (C ++ m ∷ []) W u
    releases_tracks u s = record {
      counts = counts;
      names = λ h f n c. subst (λ l. Contains l n.hash ↔ Contains n.change.deps h) (sym (s.names h (other h f))) (tracks.names h (before h f) n c);
      named = λ h g f c. tracks.named h g (before h f) (subst (λ l. Contains l g) (s.names h (other h f)) c);
      ready = λ n c.
          let r = tracks.ready n c in
          let q = s.ready n.hash in
          let k = counts n c in (
            λ i. elim (q.0 i) [ inl j ↦ held_more n (r.0 j) | inr j ↦ sym k ∙ j.1 ],
            λ z. q.1 (elim (cases_named m.hash n) [
              | inl d ↦ inr ((tracks.names m.hash fresh n c).1 d, k ∙ z)
              | inr d ↦ inl (r.1 (sym (lacking_other C m n.change.deps d) ∙ z))
            ]),
          );
      queued = λ g c. elim ((s.ready g).0 c) [ inl j ↦ tracks.queued g j | inr j ↦ tracks.named m.hash g fresh j.0 ];
      once = λ h f g. subst (λ l. named_in g l ≤ 1) (sym (s.names h (other h f))) (tracks.once h (before h f) g);
    }
      where
        before : (h : Hash) → holds (C ++ m ∷ []) h ≡ false → holds C h ≡ false
        before h f = not_held_within C (C ++ m ∷ []) h (λ n c. Contains-append_left C (m ∷ []) n c) f

        other : (h : Hash) → holds (C ++ m ∷ []) h ≡ false → h ≢ m.hash
        other h f e = both_ways (holds (C ++ m ∷ []) h) f (subst (λ g. holds (C ++ m ∷ []) g ≡ true) (sym e) (holds_it (C ++ m ∷ []) m (Contains-push C m)))

        held_more : (n : Member) → missing C n.change ≡ 0 → missing (C ++ m ∷ []) n.change ≡ 0
        held_more n z = all_held (C ++ m ∷ []) n.change.deps (deps_within C (C ++ m ∷ []) n.change (λ k c. Contains-append_left C (m ∷ []) k c) (none_lacking C n.change.deps z))

        counts : (n : Member) → Contains W n → u.missing n.hash ≡ missing (C ++ m ∷ []) n.change
        counts n c =
            let had = tracks.counts n c in
            let names = tracks.names m.hash fresh n c in
            let now = s.counts n.hash in
            let most = tracks.once m.hash fresh n.hash in
            elim (cases_named m.hash n) [
              | inl d ↦
                  let some = named_some n.hash (t.waiting_for m.hash) (names.1 d) in
                  let one = lacking_named C m n.change.deps (deps_apart n.change (fine n c)) fresh d in
                  omega arith
              | inr d ↦
                  let none = named_none n.hash (t.waiting_for m.hash) (λ k. d (names.0 k)) in
                  let same = lacking_other C m n.change.deps d in
                  omega arith
            ]

pub enters_tracks : (C W : List Member) (t : Tracker) → Tracks C W t → (m : Member) → holds W m.hash ≡ false → (u : Tracker) → Enters C m t u → Tracks C (W ++ m ∷ []) u
enters_tracks C W t tracks m fresh u s = record {
  counts = λ n c. elim (Contains-push_cases W m n c) [
    | inl d ↦ s.others n.hash (apart n d) ∙ tracks.counts n d
    | inr e ↦ subst (λ (k : Member). u.missing k.hash ≡ missing C k.change) e s.count
  ];
  names = λ h f n c. elim (Contains-push_cases W m n c) [
    | inl d ↦ (
      λ i. elim ((s.names h f n.hash).0 i) [ inl j ↦ (tracks.names h f n d).0 j | inr j ↦ absurd (apart n d j.0) ],
      λ i. (s.names h f n.hash).1 (inl ((tracks.names h f n d).1 i)),
    )
    | inr e ↦ subst (λ (k : Member). Contains (u.waiting_for h) k.hash ↔ Contains k.change.deps h) e (
      λ i. elim ((s.names h f m.hash).0 i) [ inl j ↦ absurd (both_ways (holds W m.hash) fresh (tracks.named h m.hash f j)) | inr j ↦ j.1 ],
      λ i. (s.names h f m.hash).1 (inr (refl, i)),
    )
  ];
  named = λ h g f c. elim ((s.names h f g).0 c) [
    | inl j ↦ held_push W m g (tracks.named h g f j)
    | inr j ↦ subst (λ k. holds (W ++ m ∷ []) k ≡ true) (sym j.0) (holds_it (W ++ m ∷ []) m (Contains-push W m))
  ];
  ready = λ n c. elim (Contains-push_cases W m n c) [
    | inl d ↦ (
      λ i. elim ((s.ready n.hash).0 i) [ inl j ↦ (tracks.ready n d).0 j | inr j ↦ absurd (apart n d j.0) ],
      λ z. (s.ready n.hash).1 (inl ((tracks.ready n d).1 z)),
    )
    | inr e ↦ subst (λ (k : Member). Contains u.ready k.hash ↔ (missing C k.change ≡ 0)) e (
      λ i. elim ((s.ready m.hash).0 i) [ inl j ↦ absurd (both_ways (holds W m.hash) fresh (tracks.queued m.hash j)) | inr j ↦ j.1 ],
      λ z. (s.ready m.hash).1 (inr (refl, z)),
    )
  ];
  queued = λ g c. elim ((s.ready g).0 c) [
    | inl j ↦ held_push W m g (tracks.queued g j)
    | inr j ↦ subst (λ k. holds (W ++ m ∷ []) k ≡ true) (sym j.0) (holds_it (W ++ m ∷ []) m (Contains-push W m))
  ];
  once = s.once;
}
  where
    apart : (n : Member) → Contains W n → n.hash ≢ m.hash
    apart n d e = both_ways (holds W m.hash) fresh (subst (λ h. holds W h ≡ true) e (holds_it W n d))

-- ---- what the queue says of the next step

none_pass : (p : Member → Bool) (W : List Member) → ((n : Member) → Contains W n → p n ≡ false) → filter p W ≡ []
none_pass p [] h = refl
none_pass p (n ∷ W) h =
    let here = h n (Contains-here n W) in
    let again : filter p W ≡ [] = none_pass p W (λ k c. h k (Contains-later n W k c)) in
    simp here again

-- with an empty queue nothing is ready
pub empty_is_settled : (C W : List Member) (t : Tracker) → Tracks C W t → t.ready ≡ [] → ready C W ≡ []
empty_is_settled C W t tracks e =
    ap (sorted_by by_hash) (none_pass (λ (n : Member). holds_deps C n.change) W (λ n c. false_from_ne_true _ (λ d.
    Contains-none n.hash (subst (λ l. Contains l n.hash) e ((tracks.ready n c).1 (all_held C n.change.deps d))))))

-- the least hash of the queue is that of the first ready change
pub record IsNext (C W : List Member) (h : Hash) : Type 0 where
  pub next : Member
  pub waits : Contains W next
  pub hash : next.hash ≡ h
  pub deps : holds_deps C next.change ≡ true
  pub first : ready C W ≡ next ∷ ready C (without next.hash W)

pub least_is_next : (C W : List Member) (t : Tracker) → Tracks C W t → Distinct W → (h : Hash) → Contains t.ready h → ((g : Hash) → Contains t.ready g → is_gt (hash_cmp h g) ≡ false) → IsNext C W h
least_is_next C W t tracks distinct h c least =
    let m = holder W h (tracks.queued h c) in
    let zero' : missing C m.0.change ≡ 0 = (tracks.ready m.0 m.1).0 (subst (Contains t.ready) (sym m.2) c) in
    let deps = none_lacking C m.0.change.deps zero' in
    record {
      next = m.0;
      waits = m.1;
      hash = m.2;
      deps = deps;
      first = least_is_first C W distinct m.0 m.1 deps (λ n cn d. subst (λ k. is_gt (hash_cmp k n.hash) ≡ false) (sym m.2) (least n.hash ((tracks.ready n cn).1 (all_held C n.change.deps d))));
    }

-- with nothing waiting
pub nothing_tracks : (C : List Member) (t : Tracker) → ((h : Hash) → t.waiting_for h ≡ []) → t.ready ≡ [] → Tracks C [] t
nothing_tracks C t names ready' = record {
  counts = λ m c. absurd (Contains-none m c);
  names = λ h f m c. absurd (Contains-none m c);
  named = λ h g f c. absurd (Contains-none g (subst (λ l. Contains l g) (names h) c));
  ready = λ m c. absurd (Contains-none m c);
  queued = λ g c. absurd (Contains-none g (subst (λ l. Contains l g) ready' c));
  once = λ h f g. subst (λ l. count_by (same hash_cmp g) l ≤ 1) (sym (names h)) (omega arith);
}
