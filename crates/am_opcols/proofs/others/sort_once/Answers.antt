use Rattle.std.proofs.Common.{rules, Bor, ℕ, List, map, subst, sym}
use Rattle.std.specs.Ordering.{is_lt}
use Rattle.std.proofs.lemmas.Cmp.{nat_list_cmp_total}
use Rattle.std.proofs.lemmas.Fn.{dedup_same}
use Rattle.std.proofs.lemmas.List.Sorted.{ranks_by, answers_always}
use Rattle.am_types.specs.Order.{bytes_cmp}
use Rattle.am_types.specs.Same.{same_bytes}
use Rattle.am_fields.specs.Actors.{IsListed}
use Rattle.am_opcols.specs.Chains.{Chain}
use Rattle.am_opcols.proofs.NotedLaws.{sorted_up, sorted_members}
use Rattle.am_opcols.proofs.others.sort_once.Goals as goal

pub returns-clause-up : goal.returns-clause-up
returns-clause-up c =
    let sorted = c.in_ok-sort_by.ensures.sorted (λ x y. is_lt (bytes_cmp x.now y.now)) (ranks_by nat_list_cmp_total (λ (r : Bor (List ℕ)). r.now)) (answers_always _ _ _ (λ f a r q k. search rules)) in
    let deduped = dedup_same _ (λ (x y : Bor (List ℕ)). same_bytes x.now y.now) _ (λ x y b f' x' y' k. search rules) _ _ c.dedup_by.ensures.filtered in
    subst (λ l. Chain bytes_cmp (map (λ (a : Bor (List ℕ)). a.now) l)) (sym deduped) (sorted_up c.sort_by.new.self.items sorted)

pub returns-clause-members : goal.returns-clause-members
returns-clause-members c =
    let deduped = dedup_same _ (λ (x y : Bor (List ℕ)). same_bytes x.now y.now) _ (λ x y b f' x' y' k. search rules) _ _ c.dedup_by.ensures.filtered in
    λ a. subst (λ l. (IsListed (map (λ (x : Bor (List ℕ)). x.now) l) a → IsListed (map (λ (x : Bor (List ℕ)). x.now) c.args.actors.now.items) a) × (IsListed (map (λ (x : Bor (List ℕ)). x.now) c.args.actors.now.items) a → IsListed (map (λ (x : Bor (List ℕ)). x.now) l) a))
    (sym deduped) (sorted_members c.args.actors.now.items c.sort_by.new.self.items c.in_ok-sort_by.ensures.permutation a)
