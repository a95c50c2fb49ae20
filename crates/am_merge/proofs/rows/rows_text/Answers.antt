use Rattle.std.proofs.Common.{◌∙◌, ap, arith, map}
use Rattle.std.proofs.lemmas.List.{length-map}
use Rattle.std.proofs.lemmas.Result.{IfOk-weaker}
use Rattle.am_places.specs.Numbered.{operation_of}
use Rattle.am_colmeta.specs.Metadata.{body, listing, metadata}
use Rattle.am_doccols.specs.Columns.{written_rows}
use Rattle.am_merge.proofs.RowsText.{are_distinct, are_few, are_rising, ascend, can_walk, few_old, made, room_for}
use Rattle.am_merge.proofs.rows.rows_text.Goals as goal

pub added_operations-requires : goal.added_operations-requires
added_operations-requires c = record { room = room_for _ _ _ _ _ c.requires.2 }

pub text_with-requires : goal.text_with-requires
text_with-requires c =
    let D = map operation_of c.as_slice.result.now in
    let all = ap (map operation_of) c.as_slice.ensures.value ∙ c.in_ok-operations.ensures in
    record {
      ascends = ascend _ _ _ _ _ c.requires.2 D all;
      rise = are_rising _ _ _ _ _ c.requires.2 D all;
      few_added = let long = length-map c.as_slice.result.now operation_of in let few = are_few _ _ _ _ _ c.requires.2 D all in omega arith;
      distinct = are_distinct _ _ _ _ _ c.requires.2 D all;
      few = few_old _ _ _ _ _ c.requires.2;
      can = can_walk _ _ _ _ _ c.requires.2 D all;
    }

pub returns-clause-metadata : goal.returns-clause-metadata
returns-clause-metadata c =
    IfOk-weaker c.text_with.result _ _
    (λ text h C E g. h ∙ ap (λ rows. metadata (listing (written_rows c.args.actors.now rows)))
    (made C E _ _ _ g (map operation_of c.as_slice.result.now) (ap (map operation_of) c.as_slice.ensures.value ∙ c.in_ok-operations.ensures)))
    c.text_with.ensures.metadata

pub returns-clause-body : goal.returns-clause-body
returns-clause-body c =
    IfOk-weaker c.text_with.result _ _
    (λ text h C E g. h ∙ ap (λ rows. body (written_rows c.args.actors.now rows))
    (made C E _ _ _ g (map operation_of c.as_slice.result.now) (ap (map operation_of) c.as_slice.ensures.value ∙ c.in_ok-operations.ensures)))
    c.text_with.ensures.body
