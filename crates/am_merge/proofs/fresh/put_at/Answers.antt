use Rattle.std.proofs.Common.{◌≡◌, ◌<◌, ◌∙◌, ◌∷◌, ◌++◌, [], All, ap, arith, map, subst, sym}
use Rattle.std.proofs.lemmas.List.{length-map}
use Rattle.std.specs.Option.{IfSome}
use Rattle.am_types.specs.Operations.{Operation}
use Rattle.am_types.specs.Rows as document
use Rattle.am_types.specs.Rows.{succs}
use Rattle.am_types.specs.Views.{id_of}
use Rattle.am_places.specs.Numbered.{operation_of}
use Rattle.am_doccols.specs.Conditions.{HasRoom, IsRowFor}
use Rattle.am_doccols.specs.Gathered.{operation}
use Rattle.am_merge.specs.Aims.{namers}
use Rattle.am_merge.specs.Walk.{new_row}
use Rattle.am_merge.specs.declared.aims.Aim.{Aim}
use Rattle.am_merge.proofs.Aimed.{namers_are}
use Rattle.am_merge.proofs.Carried.{as_written}
use Rattle.am_merge.proofs.fresh.put_at.Goals as goal

pub push_ids-requires-clause-linked : goal.push_ids-requires-clause-linked
push_ids-requires-clause-linked c = c.requires.named.linked

pub push_ids-requires-clause-at : goal.push_ids-requires-clause-at
push_ids-requires-clause-at c = let long = length-map c.args.operations.now operation_of in let at = c.requires.at in let heads = c.requires.named.heads in omega arith

pub push_ids-requires-clause-places : goal.push_ids-requires-clause-places
push_ids-requires-clause-places c = subst (λ n. All (λ (a : Aim). a.place < n) c.args.named.now.aims.items) (length-map c.args.operations.now operation_of) c.requires.named.are.places

pub push_op-requires-clause-row : goal.push_op-requires-clause-row
push_op-requires-clause-row c =
    let A = map operation_of c.args.operations.now in
    let y = operation_of c.args.y.now in
    let ids : map id_of c.as_slice.result.now ≡ succs A y.id =
    ap (map id_of) c.as_slice.ensures.value ∙ c.in_ok-push_ids.ensures ∙ ap (λ l. map id_of l ++ map (λ (x : Operation). x.id) (namers A c.args.named.now.aims.items c.args.at)) c.clear.ensures.items
    ∙ namers_are A c.args.named.now c.args.at y c.requires.named c.requires.there c.requires.ascends c.requires.distinct in
    let same : operation c.id.result c.args.y.now.op.now ≡ y = ap (λ i. record { id = i; op = c.args.y.now.op.now }) c.id.ensures in
    subst (IsRowFor c.args.writer.now.0) (sym (λ i. document.row_of (ids i) (same i))) c.requires.row

pub push_op-requires-clause-room : goal.push_op-requires-clause-room
push_op-requires-clause-room c =
    let A = map operation_of c.args.operations.now in
    let y = operation_of c.args.y.now in
    let ids : map id_of c.as_slice.result.now ≡ succs A y.id =
    ap (map id_of) c.as_slice.ensures.value ∙ c.in_ok-push_ids.ensures ∙ ap (λ l. map id_of l ++ map (λ (x : Operation). x.id) (namers A c.args.named.now.aims.items c.args.at)) c.clear.ensures.items
    ∙ namers_are A c.args.named.now c.args.at y c.requires.named c.requires.there c.requires.ascends c.requires.distinct in
    subst (λ s. IfSome c.args.writer.now.1 (λ rows. HasRoom rows s)) (sym ids) c.requires.room

pub returns-clause-ok : goal.returns-clause-ok
returns-clause-ok c =
    let A = map operation_of c.args.operations.now in
    let y = operation_of c.args.y.now in
    let ids : map id_of c.as_slice.result.now ≡ succs A y.id =
    ap (map id_of) c.as_slice.ensures.value ∙ c.in_ok-push_ids.ensures ∙ ap (λ l. map id_of l ++ map (λ (x : Operation). x.id) (namers A c.args.named.now.aims.items c.args.at)) c.clear.ensures.items
    ∙ namers_are A c.args.named.now c.args.at y c.requires.named c.requires.there c.requires.ascends c.requires.distinct in
    let same : operation c.id.result c.args.y.now.op.now ≡ y = ap (λ i. record { id = i; op = c.args.y.now.op.now }) c.id.ensures in
    as_written c.args.writer.now.1 _ _ (new_row A y ∷ []) (λ i. document.row_of (ids i) (same i) ∷ []) c.in_ok-push_op.ensures.ok
