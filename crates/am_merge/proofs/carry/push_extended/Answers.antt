use Rattle.std.proofs.Common.{◌∙◌, ◌∷◌, [], ap, map, sym, subst}
use Rattle.std.specs.Option.{IfSome}
use Rattle.am_types.specs.Order.{id_cmp}
use Rattle.am_types.specs.Views.{id_of}
use Rattle.am_doccols.specs.Conditions.{HasRoom, IsRowFor}
use Rattle.am_doccols.specs.Rows.{row_of}
use Rattle.am_merge.specs.Carrying.{extended_by, ids_of}
use Rattle.am_merge.specs.Merge.{merge}
use Rattle.am_merge.proofs.Carried.{as_written, extend_is}
use Rattle.am_merge.proofs.carry.push_extended.Goals as goal

pub push_apart-requires-clause-row : goal.push_apart-requires-clause-row
push_apart-requires-clause-row c =
    subst (IsRowFor c.args.writer.now.0) (sym (extend_is c.fields-fields.result c.args.row c.as_slice.result.now (merge id_cmp c.args.row.succs (ids_of c.args.added.now)) c.fields-fields.ensures (ap (map id_of) c.as_slice.ensures.value ∙ c.in_ok-succs.ensures))) c.requires.row

pub push_apart-requires-clause-room : goal.push_apart-requires-clause-room
push_apart-requires-clause-room c =
    subst (λ s. IfSome c.args.writer.now.1 (λ rows. HasRoom rows s)) (sym (ap (map id_of) c.as_slice.ensures.value ∙ c.in_ok-succs.ensures)) c.requires.room

pub returns-clause-ok : goal.returns-clause-ok
returns-clause-ok c =
    as_written c.args.writer.now.1 _ _ (extended_by (row_of c.args.row) (ids_of c.args.added.now) ∷ [])
    (ap (λ r. r ∷ []) (extend_is c.fields-fields.result c.args.row c.as_slice.result.now (merge id_cmp c.args.row.succs (ids_of c.args.added.now)) c.fields-fields.ensures (ap (map id_of) c.as_slice.ensures.value ∙ c.in_ok-succs.ensures)))
    c.in_ok-push_apart.ensures.ok
