-- The mentions of an id tell its operation.
use Rattle.std.proofs.Common.{◌≡◌, List, [], ◌∷◌, ◌++◌, map, filter, Bool, true, false, cond, not, Option, Some, None, option_map, refl, ap, ◌∙◌, subst, inl, inr, Contains}
use Rattle.std.specs.List.{find}
use Rattle.std.specs.Option.{option_or}
use Rattle.std.proofs.lemmas.Bool.{cases_Bool, both_ways}
use Rattle.std.proofs.lemmas.Cmp.{eq_by_cmp_equiv}
use Rattle.std.proofs.lemmas.List.Elements.{filter-append}
use Rattle.std.proofs.lemmas.List.Folds.{find-append}
use Rattle.am_types.specs.declared.OpId.{OpId}
use Rattle.am_types.specs.declared.Row.{Row}
use Rattle.am_types.specs.Order.{id_cmp, among}
use Rattle.am_types.specs.Same.{same_id}
use Rattle.am_types.proofs.Orders.{id_total}
use Rattle.am_laws.proofs.Ancestry.{Contains-filter, Contains-from_filter}
use Rattle.am_histories.specs.Rebuilt.{each_once, is_replaced_by, preds_at, op_of, deletion, op_at}
use Rattle.am_histories.proofs.Sorted.{Contains-cases, Contains-there}
use Rattle.am_histories.proofs.Contained.{Contains-map, Contains-from_map, Contains-flat_map, Contains-from_flat_map, any_from}
use Rattle.am_histories.proofs.Tests.{any_has}
use Rattle.am_histories.proofs.Restored.{each_once-is, each_once-sorted, Contains-each_once, Contains-from_each_once}
use Rattle.am_rebuild.specs.Mentions.{Mention, named_in, row_mentions, mentions, group_preds, group_op, of_id}

pub each_once-same : (is js : List OpId) → ((i : OpId) → Contains is i → Contains js i) → ((i : OpId) → Contains js i → Contains is i) → each_once is ≡ each_once js
each_once-same is js f g = each_once-is is (each_once js) (each_once-sorted js) (λ i c. Contains-each_once js i (f i c)) (λ i c. g i (Contains-from_each_once js i c))

flips : (i j : OpId) → same_id i j ≡ same_id j i
flips = (eq_by_cmp_equiv id_total).symm

abbrev is_own : Mention → Bool
is_own n = n.own

abbrev is_named : Mention → Bool
is_named n = not n.own

module _ (i : OpId) where
  -- a row's succs are never its own id
  none_own : (r : Row) (ss : List OpId) → find is_own (filter (of_id i) (map (named_in r) ss)) ≡ None
  none_own r [] = refl
  none_own r (s ∷ ss) =
      let again = none_own r ss in
      elim (cases_Bool (same_id i s)) [ inl e ↦ simp e again | inr e ↦ simp e again ]

  first_named : {Y : Type 0} (f : Row → Y) (r : Row) (ss : List OpId) → option_map (λ n. f n.row) (find is_named (filter (of_id i) (map (named_in r) ss))) ≡ cond (among id_cmp ss i) (Some (f r)) None
  first_named f r [] = refl
  first_named f r (s ∷ ss) =
      let again = first_named f r ss in
      elim (cases_Bool (same_id i s)) [ inl e ↦ simp e refl | inr e ↦ simp e again ]

  map-or : {X Y : Type 0} (f : X → Y) (o p : Option X) → option_map f (option_or o p) ≡ option_or (option_map f o) (option_map f p)
  map-or f None p = refl
  map-or f (Some x) p = refl

  own_found : {Y : Type 0} (f : Row → Y) (rows : List Row) → option_map (λ n. f n.row) (find is_own (filter (of_id i) (mentions rows))) ≡ option_map f (find (λ r. same_id r.id i) rows)
  own_found f [] = refl
  own_found f (r ∷ rows) =
      let again : option_map (λ n. f n.row) (find is_own (filter (of_id i) (mentions rows))) ≡ option_map f (find (λ r. same_id r.id i) rows) = own_found f rows in
      let none = none_own r r.succs in
      let split = filter-append (of_id i) (map (named_in r) r.succs) (mentions rows) in
      let rest : option_map (λ n. f n.row) (find is_own (filter (of_id i) (map (named_in r) r.succs ++ mentions rows))) ≡ option_map f (find (λ r. same_id r.id i) rows) =
      ap (λ l. option_map (λ n. f n.row) (find is_own l)) split ∙ ap (option_map (λ n. f n.row)) (find-append is_own (filter (of_id i) (map (named_in r) r.succs)) (filter (of_id i) (mentions rows)))
      ∙ ap (λ o. option_map (λ n. f n.row) (option_or o (find is_own (filter (of_id i) (mentions rows))))) none ∙ again in
      elim (cases_Bool (same_id i r.id)) [
        | inl e ↦ let g = flips r.id i ∙ e in simp (e, g) refl
        | inr e ↦ let g = flips r.id i ∙ e in simp (e, g) rest
      ]

  named_found : {Y : Type 0} (f : Row → Y) (rows : List Row) → option_map (λ n. f n.row) (find is_named (filter (of_id i) (mentions rows))) ≡ option_map f (find (is_replaced_by i) rows)
  named_found f [] = refl
  named_found f (r ∷ rows) =
      let again : option_map (λ n. f n.row) (find is_named (filter (of_id i) (mentions rows))) ≡ option_map f (find (is_replaced_by i) rows) = named_found f rows in
      let first = first_named f r r.succs in
      let split = filter-append (of_id i) (map (named_in r) r.succs) (mentions rows) in
      let both : option_map (λ n. f n.row) (find is_named (filter (of_id i) (map (named_in r) r.succs ++ mentions rows))) ≡ option_or (cond (among id_cmp r.succs i) (Some (f r)) None) (option_map f (find (is_replaced_by i) rows)) =
      ap (λ l. option_map (λ n. f n.row) (find is_named l)) split ∙ ap (option_map (λ n. f n.row)) (find-append is_named (filter (of_id i) (map (named_in r) r.succs)) (filter (of_id i) (mentions rows)))
      ∙ map-or (λ n. f n.row) (find is_named (filter (of_id i) (map (named_in r) r.succs))) (find is_named (filter (of_id i) (mentions rows)))
      ∙ (λ k. option_or (first k) (again k)) in
      let all : option_map (λ n. f n.row) (find is_named (filter (of_id i) (mentions (r ∷ rows)))) ≡ option_map (λ n. f n.row) (find is_named (filter (of_id i) (map (named_in r) r.succs ++ mentions rows))) =
      elim (cases_Bool (same_id i r.id)) [ inl e ↦ simp e refl | inr e ↦ simp e refl ] in
      all ∙ both ∙ elim (cases_Bool (among id_cmp r.succs i)) [ inl e ↦ simp e refl | inr e ↦ simp e refl ]

  preds_found : (rows : List Row) → group_preds (filter (of_id i) (mentions rows)) ≡ preds_at rows i
  preds_found rows = each_once-same _ _
      (λ j c.
      let n = Contains-from_map (λ (n : Mention). n.row.id) _ j c in
      let a = Contains-from_filter is_named (filter (of_id i) (mentions rows)) n.0 n.1 in
      let b = Contains-from_filter (of_id i) (mentions rows) n.0 a.0 in
      let r = Contains-from_flat_map row_mentions rows n.0 b.0 in
      let s : (s : OpId) × Contains r.0.succs s × (named_in r.0 s ≡ n.0) = elim (Contains-cases _ n.0 (map (named_in r.0) r.0.succs) r.2) [
        | inl e ↦ absurd (both_ways false refl (ap not (ap (λ (m : Mention). m.own) e) ∙ a.1))
        | inr d ↦ Contains-from_map (named_in r.0) r.0.succs n.0 d
      ] in
      let row_is : r.0 ≡ n.0.row = ap (λ (m : Mention). m.row) s.2 in
      let id_is : s.0 ≡ n.0.id = ap (λ (m : Mention). m.id) s.2 in
      let t : same_id i s.0 ≡ true = ap (same_id i) id_is ∙ b.1 in
      subst (Contains (map (λ (r : Row). r.id) (filter (is_replaced_by i) rows))) (ap (λ (r : Row). r.id) row_is ∙ n.2)
      (Contains-map (λ (r : Row). r.id) _ r.0 (Contains-filter (is_replaced_by i) rows r.0 r.1 (any_from (same_id i) r.0.succs s.0 s.1 t))))
      (λ j c.
      let r = Contains-from_map (λ (r : Row). r.id) _ j c in
      let a = Contains-from_filter (is_replaced_by i) rows r.0 r.1 in
      let s = any_has (same_id i) r.0.succs a.1 in
      let n : Mention = named_in r.0 s.0 in
      let there = Contains-flat_map row_mentions rows r.0 n a.0 (Contains-there _ n (map (named_in r.0) r.0.succs) (Contains-map (named_in r.0) r.0.succs s.0 s.1)) in
      subst (Contains (map (λ (n : Mention). n.row.id) (filter is_named (filter (of_id i) (mentions rows))))) r.2
      (Contains-map (λ (n : Mention). n.row.id) _ n (Contains-filter is_named (filter (of_id i) (mentions rows)) n (Contains-filter (of_id i) (mentions rows) n there s.2) refl)))

  pub group_op-is : (rows : List Row) → group_op (filter (of_id i) (mentions rows)) ≡ op_at rows i
  group_op-is rows =
      let preds = preds_found rows in
      (λ k. option_or (option_map (λ n. op_of (preds k) n.row) (find is_own (filter (of_id i) (mentions rows)))) (option_map (λ n. deletion (preds k) n.row) (find is_named (filter (of_id i) (mentions rows)))))
      ∙ (λ k. option_or (own_found (op_of (preds_at rows i)) rows k) (named_found (deletion (preds_at rows i)) rows k))
