use Rattle.std.proofs.Common.{◌≡◌, ◌∙◌, ◌∷◌, [], ap, map, sym, subst}
use Rattle.am_types.specs.Rows as document
use Rattle.am_types.specs.Views.{id_of}
use Rattle.am_places.specs.Numbered.{operation_of}
use Rattle.am_doccols.specs.Conditions.{HasRoom, IsRowFor}
use Rattle.am_doccols.specs.Gathered.{operation}
use Rattle.std.specs.Option.{IfSome}
use Rattle.am_merge.specs.Carrying.{ids_of}
use Rattle.am_merge.proofs.Carried.{as_written}
use Rattle.am_merge.proofs.carry.put_row.Goals as goal

pub push_op-requires-clause-row : goal.push_op-requires-clause-row
push_op-requires-clause-row c =
    let ids : map id_of c.as_slice.result.now ≡ ids_of c.args.added.now = ap (map id_of) c.as_slice.ensures.value ∙ c.in_ok-set_ids.ensures in
    let same : operation c.id.result c.args.x.now.op.now ≡ operation_of c.args.x.now = ap (λ i. record { id = i; op = c.args.x.now.op.now }) c.id.ensures in
    subst (IsRowFor c.args.writer.now.0) (sym (λ i. document.row_of (ids i) (same i))) c.requires.row

pub push_op-requires-clause-room : goal.push_op-requires-clause-room
push_op-requires-clause-room c =
    subst (λ s. IfSome c.args.writer.now.1 (λ rows. HasRoom rows s)) (sym (ap (map id_of) c.as_slice.ensures.value ∙ c.in_ok-set_ids.ensures)) c.requires.room

pub returns-clause-ok : goal.returns-clause-ok
returns-clause-ok c =
    let ids : map id_of c.as_slice.result.now ≡ ids_of c.args.added.now = ap (map id_of) c.as_slice.ensures.value ∙ c.in_ok-set_ids.ensures in
    let same : operation c.id.result c.args.x.now.op.now ≡ operation_of c.args.x.now = ap (λ i. record { id = i; op = c.args.x.now.op.now }) c.id.ensures in
    as_written c.args.writer.now.1 _ _ (document.row_of (ids_of c.args.added.now) (operation_of c.args.x.now) ∷ []) (λ i. document.row_of (ids i) (same i) ∷ []) c.in_ok-push_op.ensures.ok
