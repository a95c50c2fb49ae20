use Rattle.std.proofs.Common.{sym, ◌∙◌}
use Rattle.std.proofs.lemmas.Bool.{both_ways}
use Rattle.am_rebuild.proofs.Agreeing.{tells_rest, rest_counted, rest_differs, rest_kept, rest_passes}
use Rattle.am_rebuild.proofs.telling.ids_told.Goals as goal
use Rattle.am_rebuild.proofs.telling.ids_told.Goals.{then-not-own_ids_differ-via-then-not-own_ids_differ, then-not-own_ids_differ-via-else-not-own_ids_differ+then-not-are_kept}

pub returns-then-not-own_ids_differ : goal.returns-then-not-own_ids_differ
returns-then-not-own_ids_differ c = λ n h. elim c.then-not-own_ids_differ.branch [
  | then-not-own_ids_differ-via-then-not-own_ids_differ w ↦ both_ways _ w.if-not-own_ids_differ.true (c.own_ids_differ.ensures ∙ rest_differs c.args.rows.now c.args.all.now c.requires n h)
  | then-not-own_ids_differ-via-else-not-own_ids_differ+then-not-are_kept w ↦ both_ways _ w.if-not-are_kept.true (w.are_kept.ensures.1 (rest_kept c.args.rows.now c.args.all.now c.requires n h))
]

pub returns-then-told : goal.returns-then-told
returns-then-told c = λ n. (
  λ e.
      tells_rest c.args.rows.now c.args.all.now c.requires n (sym c.count_ids.ensures ∙ e) (sym c.own_ids_differ.ensures ∙ c.if-not-own_ids_differ.false) (c.are_kept.ensures.0 c.if-not-are_kept.false)
      (sym c.in_ok-told.ensures ∙ c.if-told.true),
  λ h. c.count_ids.ensures ∙ rest_counted c.args.rows.now c.args.all.now c.requires n h,
)

pub returns-else-told : goal.returns-else-told
returns-else-told c = λ n h. both_ways c.in_ok-told.told c.if-told.false (c.in_ok-told.ensures ∙ rest_passes c.args.rows.now c.args.all.now c.requires n h)
