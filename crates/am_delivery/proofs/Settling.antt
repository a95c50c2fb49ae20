-- What settling leaves where all of a valid set is there, and nothing else ever gets ready.
use Rattle.std.proofs.Common.{◌≡◌, List, [], ◌∷◌, ◌++◌, filter, true, false, not, sym, ap, ◌∙◌, subst, inl, inr, ◌⊎◌, All, Contains}
use Rattle.std.proofs.lemmas.Bool.{cases_Bool, both_ways, false_from_ne_true, not-true}
use Rattle.std.proofs.lemmas.List.Elements.{All-head, All-contains_itself, All-filter, filter_passes, Contains-append_left, Contains-push, Contains-push_cases}
use Rattle.std.proofs.lemmas.List.Sorted.{All-permutation, Contains-permutation}
use Rattle.am_types.specs.Order.{hash_cmp, same}
use Rattle.am_types.specs.Members.{Member, holds, holds_deps}
use Rattle.am_types.specs.ValidSets.{JoinInTurn}
use Rattle.am_types.specs.Deliver.{Sets, ready, without, admit_by, admit, settle}
use Rattle.am_types.proofs.Orders.{same_hash-true, same_hash_itself}
use Rattle.am_laws.proofs.Ancestry.{Contains-filter, Contains-from_filter}
use Rattle.am_types.proofs.Sorting.{IsPermutation-sorted_by}
use Rattle.am_laws.proofs.SettleLaws.{by_hash, settle_settles}
use Rattle.am_laws.proofs.Listings.{settle-keeps}
use Rattle.am_delivery.specs.Laws.{Leaves}
use Rattle.am_delivery.proofs.Lists.{Within, Within-add, Contains-none, same_members}
use Rattle.am_delivery.proofs.Members.{Distinct, holds_it, holder, deps_within, unique, no_repeat, distinct_from_once, distinct_filter}
use Rattle.am_delivery.proofs.Turns.{Good, good, good_push, joins_anywhere, takes_all}

-- the first that is ready waits, and its dependencies are held
pub first_ready : (C W : List Member) (m : Member) (ms : List Member) → ready C W ≡ m ∷ ms → Contains W m × (holds_deps C m.change ≡ true)
first_ready C W m ms e =
    let p = λ (m : Member). holds_deps C m.change in
    All-head (λ m. Contains W m × (holds_deps C m.change ≡ true)) m ms (subst (All (λ m. Contains W m × (holds_deps C m.change ≡ true))) e
    (All-permutation (λ m. Contains W m × (holds_deps C m.change ≡ true)) (filter p W) (ready C W) (IsPermutation-sorted_by by_hash _)
    (λ k d l. (All-filter p (Contains W) W (All-contains_itself W) k d l, filter_passes p W k d l))))

-- where nothing is ready, each waiting change lacks a dependency
pub none_ready : (C W : List Member) → ready C W ≡ [] → (m : Member) → Contains W m → holds_deps C m.change ≡ false
none_ready C W e m c =
    let p = λ (m : Member). holds_deps C m.change in
    false_from_ne_true _ (λ t. Contains-none m (subst (λ l. Contains l m) e (Contains-permutation (filter p W) (ready C W) m (IsPermutation-sorted_by by_hash _) (Contains-filter p W m c t))))

pub waits_still : (m n : Member) (W : List Member) → Contains (without m.hash W) n → Contains W n × (same hash_cmp m.hash n.hash ≡ false)
waits_still m n W c =
    let f = Contains-from_filter (λ (k : Member). not (same hash_cmp m.hash k.hash)) W n c in
    (f.0, not-true _ f.1)

-- the other members go on waiting
pub leaves_one : (m n : Member) (W : List Member) → Contains W n → (m.hash ≡ n.hash) ⊎ Contains (without m.hash W) n
leaves_one m n W c = elim (cases_Bool (same hash_cmp m.hash n.hash)) [
  | inl t ↦ inl (same_hash-true m.hash n.hash t)
  | inr f ↦ inr (Contains-filter (λ (k : Member). not (same hash_cmp m.hash k.hash)) W n c (ap not f))
]

pub fresh_push : (C : List Member) (m n : Member) → holds C n.hash ≡ false → same hash_cmp m.hash n.hash ≡ false → holds (C ++ m ∷ []) n.hash ≡ false
fresh_push C m n h e =
    false_from_ne_true _ (λ t.
    let k = holder (C ++ m ∷ []) n.hash t in
    elim (Contains-push_cases C m k.0 k.1) [
      | inl c ↦ both_ways (holds C n.hash) h (subst (λ g. holds C g ≡ true) k.2 (holds_it C k.0 c))
      | inr f ↦ both_ways (same hash_cmp m.hash n.hash) e (subst (λ g. same hash_cmp m.hash g ≡ true) (ap (λ (x : Member). x.hash) f ∙ k.2) (same_hash_itself m.hash))
    ])

-- some of S are closed, the others wait, and W waits too
pub record Going (S W : List Member) (s : Sets) : Type 0 where
  pub good : Good s.closed
  pub within : Within s.closed S
  pub waits : (n : Member) → Contains s.waiting n → Contains S n ⊎ Contains W n
  pub all : (n : Member) → Contains S n → Contains s.closed n ⊎ Contains s.waiting n
  pub others : Within W s.waiting
  pub fresh : (n : Member) → Contains s.waiting n → holds s.closed n.hash ≡ false
  pub distinct : Distinct s.waiting
  pub rejected : s.rejected ≡ []

module _ (S W : List Member) (turn : JoinInTurn [] S) (lack : (m : Member) → Contains W m → holds_deps S m.change ≡ false) where
  going_admit : (s : Sets) (m : Member) (ms : List Member) → ready s.closed s.waiting ≡ m ∷ ms → Going S W s → Going S W (admit m s)
  going_admit s m ms e g =
      let here = first_ready s.closed s.waiting m ms e in
      let never : Contains W m → ⊥ = λ c. both_ways (holds_deps S m.change) (lack m c) (deps_within s.closed S m.change g.within here.1) in
      let in_set : Contains S m = elim (g.waits m here.0) [ inl c ↦ c | inr c ↦ absurd (never c) ] in
      let j = joins_anywhere S turn s.closed g.within g.good m in_set (g.fresh m here.0) here.1 in
      let one = unique s.waiting g.distinct in
      subst (λ v. Going S W (admit_by v m s)) (sym j.fits) (record {
        good = good_push s.closed m g.good j;
        within = Within-add s.closed S m g.within in_set;
        waits = λ n c. g.waits n (waits_still m n s.waiting c).0;
        all = λ n c. elim (g.all n c) [
          | inl a ↦ inl (Contains-append_left s.closed (m ∷ []) n a)
          | inr a ↦ elim (leaves_one m n s.waiting a) [
            | inl h ↦ inl (subst (Contains (s.closed ++ m ∷ [])) (one m n here.0 a h) (Contains-push s.closed m))
            | inr k ↦ inr k
          ]
        ];
        others = λ n c. elim (leaves_one m n s.waiting (g.others n c)) [
          | inl h ↦ absurd (never (subst (Contains W) (sym (one m n here.0 (g.others n c) h)) c))
          | inr k ↦ k
        ];
        fresh = λ n c. let w = waits_still m n s.waiting c in fresh_push s.closed m n (g.fresh n w.0) w.1;
        distinct = distinct_filter (λ (k : Member). not (same hash_cmp m.hash k.hash)) s.waiting g.distinct;
        rejected = g.rejected;
      })

  pub settles_to : Distinct W → (s : Sets) → Going S W s → Leaves (settle s) S W
  settles_to dw s start =
      let t = settle s in
      let g = settle-keeps (Going S W) going_admit s start in
      let none = none_ready t.closed t.waiting (settle_settles s) in
      let all_in : Within S t.closed = takes_all t.closed S turn (λ b m cm w gb j. elim (g.all m cm) [
        | inl c ↦ c
        | inr c ↦ absurd (both_ways (holds_deps t.closed m.change) (none m c) (deps_within b t.closed m.change w j.deps))
      ]) in
      record {
        closed = same_members S t.closed (no_repeat S (distinct_from_once S (good S turn).once)) (no_repeat t.closed (distinct_from_once t.closed g.good.once)) all_in g.within;
        waiting = same_members W t.waiting (no_repeat W dw) (no_repeat t.waiting g.distinct) g.others (λ n c. elim (g.waits n c) [
          | inl i ↦ absurd (both_ways (holds t.closed n.hash) (g.fresh n c) (holds_it t.closed n (all_in n i)))
          | inr w ↦ w
        ]);
        rejected = g.rejected;
      }
