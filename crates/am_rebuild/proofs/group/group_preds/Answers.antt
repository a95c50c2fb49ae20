use Rattle.std.proofs.Common.{◌≤◌, ◌∷◌, [], length, map, filter, not, ap, arith, ◌∙◌}
use Rattle.am_types.specs.declared.Row.{Row}
use Rattle.am_rebuild.specs.Mentions.{mention_of}
use Rattle.am_rebuild.proofs.Preds.{no_preds, one_pred}
use Rattle.am_rebuild.proofs.group.group_preds.Goals as goal

pub returns-in-None : goal.returns-in-None
returns-in-None c = c.none.ensures ∙ no_preds (map mention_of c.args.group.now) c.in-None.ensures

pub returns-in-Some : goal.returns-in-Some
returns-in-Some c =
    let few : length (filter (λ n. not n.own) (map mention_of c.args.group.now)) ≤ 1 = omega arith in
    c.one.ensures ∙ ap (λ (r : Row). r.id ∷ []) c.row.view_is ∙ one_pred (map mention_of c.args.group.now) c.in-Some.row.now c.in-Some.ensures few
