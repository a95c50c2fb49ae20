use Rattle.std.proofs.Common.{◌≡◌, map, sym, ap, ◌∙◌, subst}
use Rattle.am_types.specs.declared.Row.{Row}
use Rattle.am_types.specs.Order.{id_cmp, Ascends}
use Rattle.am_types.specs.Views.{id_of}
use Rattle.am_rebuild.proofs.Ascending.{ascends_map, ascends_back}
use Rattle.am_rebuild.proofs.telling.succs_ascend.Goals as goal

pub returns : goal.returns
returns c =
    let are : map id_of c.as_slice.result.now ≡ c.args.row.now.succs = ap (map id_of) c.as_slice.ensures.value ∙ ap (λ (r : Row). r.succs) c.row.view_is in (
      λ t. subst (Ascends id_cmp) are (ascends_map id_of id_cmp c.as_slice.result.now (c.ids_ascend.ensures.0 t)),
      λ a. c.ids_ascend.ensures.1 (ascends_back id_of id_cmp c.as_slice.result.now (subst (Ascends id_cmp) (sym are) a)),
    )
