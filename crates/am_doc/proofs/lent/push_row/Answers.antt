use Rattle.std.proofs.Common.{◌≡◌, ◌∙◌, ◌++◌, ◌∷◌, [], List, Some, OnOk, map, sym, ap, subst}
use Rattle.std.specs.Prelude.{IfSome}
use Rattle.am_types.specs.declared.OpId.{OpId}
use Rattle.am_types.specs.declared.Row.{Row}
use Rattle.am_types.specs.Views.{id_of}
use Rattle.am_doccols.specs.Conditions.{IsRowFor, HasRoom}
use Rattle.am_doccols.specs.Lent.{row_with}
use Rattle.am_places.specs.Numbered.{ids_of}
use Rattle.am_rows.specs.Lent.{lent_row}
use Rattle.am_doc.proofs.lent.push_row.Goals as goal

pub push_lent-requires-clause-row : goal.push_lent-requires-clause-row
push_lent-requires-clause-row c =
    let ids : map id_of c.as_slice.result.now ≡ ids_of c.args.row.succs.now = ap (map id_of) c.as_slice.ensures.value ∙ c.in_ok-lend_ids.ensures in
    let same : row_with c.fields_in.result (map id_of c.as_slice.result.now) ≡ lent_row c.args.row = ap (row_with c.fields_in.result) ids ∙ c.fields_in.ensures (ids_of c.args.row.succs.now) in
    subst (λ (r : Row). IsRowFor c.args.writer.now.0 r) (sym same) c.requires.row

pub push_lent-requires-clause-room : goal.push_lent-requires-clause-room
push_lent-requires-clause-room c =
    let ids : map id_of c.as_slice.result.now ≡ ids_of c.args.row.succs.now = ap (map id_of) c.as_slice.ensures.value ∙ c.in_ok-lend_ids.ensures in
    subst (λ (s : List OpId). IfSome c.args.writer.now.1 (λ rows. HasRoom rows s)) (sym ids) c.requires.room

pub returns-clause-ok : goal.returns-clause-ok
returns-clause-ok c =
    let ids : map id_of c.as_slice.result.now ≡ ids_of c.args.row.succs.now = ap (map id_of) c.as_slice.ensures.value ∙ c.in_ok-lend_ids.ensures in
    let same : row_with c.fields_in.result (map id_of c.as_slice.result.now) ≡ lent_row c.args.row = ap (row_with c.fields_in.result) ids ∙ c.fields_in.ensures (ids_of c.args.row.succs.now) in
    subst (λ (r : Row). OnOk c.push_lent.result (IfSome c.args.writer.now.1 (λ rows. c.push_lent.new.self.1 ≡ Some (rows ++ r ∷ [])))) same c.push_lent.ensures.ok
