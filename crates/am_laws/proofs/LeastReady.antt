-- The change that settling takes next is ready, and no ready one has a lesser hash.
use Rattle.std.proofs.Common.{◌≡◌, ◌≢◌, List, [], ◌∷◌, true, false, filter, refl, ap, subst, inl, inr, Contains, arith}
use Rattle.std.specs.Ordering.{is_eq, is_gt}
use Rattle.std.specs.declared.cmp.Ordering.{Ordering}
use Rattle.std.specs.declared.cmp.Ordering.TheVariants.{Less, Equal, Greater}
use Rattle.std.proofs.lemmas.Bool.{both_ways}
use Rattle.std.proofs.lemmas.Cmp.{on_total}
use Rattle.std.proofs.lemmas.List.Elements.{All-head}
use Rattle.std.proofs.lemmas.List.Sorted.{Contains-permutation}
use Rattle.std.specs.Cmp.{IsTotalOrder}
use Rattle.std.proofs.Common.{All}
use Rattle.am_types.specs.Order.{hash_cmp}
use Rattle.am_types.specs.Members.{Member, holds_deps}
use Rattle.am_types.specs.Deliver.{Sets, ready, TakesOne}
use Rattle.am_laws.specs.Laws.{IsLeastReady}
use Rattle.am_laws.proofs.Ancestry.{Contains-filter}
use Rattle.am_laws.proofs.Listings.{ready_is}
use Rattle.am_types.proofs.Orders.{hash_total, same_hash_itself}
use Rattle.am_types.proofs.Rising.{AboveNone, Rises, Rises-sorted_by}
use Rattle.am_laws.proofs.SameMembers.{Contains-cons_cases}
use Rattle.am_laws.proofs.SettleLaws.{by_hash}
use Rattle.am_types.proofs.Sorting.{IsPermutation-sorted_by}

hashes_total : IsTotalOrder by_hash
hashes_total = on_total (λ (m : Member). m.hash) hash_total

not_above : (x : Member) (ys : List Member) → AboveNone hashes_total x ys → (m : Member) → Contains ys m → is_gt (by_hash x m) ≡ false
not_above x [] all m c = absurd (omega (arith, c.1))
not_above x (y ∷ ys) all m c =
    let again : Contains ys m → is_gt (by_hash x m) ≡ false = not_above x ys all.1 m in
    elim (Contains-cons_cases y ys m c) [
      | inl e ↦ subst (λ n. is_gt (by_hash x n) ≡ false) e all.0
      | inr d ↦ again d
    ]

not_itself : (r : Ordering) → is_eq r ≡ true → is_gt r ≡ false
not_itself Less e = refl
not_itself Equal e = refl
not_itself Greater e = absurd (both_ways false refl e)

not_greater : (r : Ordering) → is_gt r ≡ false → r ≢ Greater
not_greater r e g = both_ways (is_gt r) e (ap is_gt g)

pub takes_least : (s t : Sets) (taken : TakesOne s t) → IsLeastReady s taken.first
takes_least s t taken =
    let first = taken.first in
    let test = λ (m : Member). holds_deps s.closed m.change in
    let able = filter test s.waiting in
    let is = All-head (λ m. Contains s.waiting m × (holds_deps s.closed m.change ≡ true)) first taken.others (subst (All (λ m. Contains s.waiting m × (holds_deps s.closed m.change ≡ true))) taken.are_ready (ready_is s.closed s.waiting)) in
    let rises = subst (Rises hashes_total) taken.are_ready (Rises-sorted_by hashes_total able) in
    record {
      waits = is.0;
      deps = is.1;
      least = λ m cm dm.
          let c : Contains (first ∷ taken.others) m = subst (λ ms. Contains ms m) taken.are_ready (Contains-permutation able (ready s.closed s.waiting) m (IsPermutation-sorted_by by_hash able) (Contains-filter test s.waiting m cm dm)) in
          not_greater (hash_cmp first.hash m.hash) (elim (Contains-cons_cases first taken.others m c) [
            | inl e ↦ subst (λ n. is_gt (by_hash first n) ≡ false) e (not_itself (by_hash first first) (same_hash_itself first.hash))
            | inr d ↦ not_above first taken.others rises.0 m d
          ]);
    }
