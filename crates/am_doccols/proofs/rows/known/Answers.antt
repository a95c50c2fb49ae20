use Rattle.std.proofs.Common.{◌≡◌, map, length, refl, ◌∙◌, sym}
use Rattle.std.proofs.lemmas.List.{length-map}
use Rattle.am_doccols.specs.Rows.{rows_from}
use Rattle.am_doccols.proofs.RowLaws.{Even, fields_from, SpellsRows-made, objects_of, keys_of, ids_of, inserts_of, actions_of, values_of, succs_of, expands_of, marks_of, count_of}
use Rattle.am_doccols.proofs.rows.known.Goals as goal

pub spelled-actions-requires : goal.spelled-actions-requires
spelled-actions-requires c = rw c.find-action.ensures (map (λ r. r.action) c.requires.0, actions_of c.args.actors.now c.args.columns.now c.requires.0 c.requires.1)

pub spelled-objects-requires : goal.spelled-objects-requires
spelled-objects-requires c = λ k.
    let told = rw c.find-action.ensures at c.spelled-actions.ensures in
    let n : length c.requires.0 ≡ c.left-count.result = count_of c.args.actors.now c.args.columns.now c.requires.0 c.requires.1 c.spelled-actions.result told c.left-count.result c.left-count.ensures in
    rw (c.find-object_actor.ensures, c.find-object_counter.ensures) ((refl, tt), (map (λ r. r.obj) c.requires.0, objects_of c.args.actors.now c.args.columns.now c.requires.0 c.requires.1, length-map c.requires.0 (λ r. r.obj) ∙ n))

pub spelled-keys-requires : goal.spelled-keys-requires
spelled-keys-requires c =
    let told = rw c.find-action.ensures at c.spelled-actions.ensures in
    let n : length c.requires.0 ≡ c.left-count.result = count_of c.args.actors.now c.args.columns.now c.requires.0 c.requires.1 c.spelled-actions.result told c.left-count.result c.left-count.ensures in
    rw (c.find-key_actor.ensures, c.find-key_counter.ensures, c.find-key_name.ensures) (map (λ r. r.key) c.requires.0, keys_of c.args.actors.now c.args.columns.now c.requires.0 c.requires.1, length-map c.requires.0 (λ r. r.key) ∙ n)

pub spelled-ids-requires : goal.spelled-ids-requires
spelled-ids-requires c = λ k.
    let told = rw c.find-action.ensures at c.spelled-actions.ensures in
    let n : length c.requires.0 ≡ c.left-count.result = count_of c.args.actors.now c.args.columns.now c.requires.0 c.requires.1 c.spelled-actions.result told c.left-count.result c.left-count.ensures in
    rw (c.find-id_actor.ensures, c.find-id_counter.ensures) ((refl, tt), (map (λ r. r.id) c.requires.0, ids_of c.args.actors.now c.args.columns.now c.requires.0 c.requires.1, length-map c.requires.0 (λ r. r.id) ∙ n))

pub spelled-inserts-requires : goal.spelled-inserts-requires
spelled-inserts-requires c =
    let told = rw c.find-action.ensures at c.spelled-actions.ensures in
    let n : length c.requires.0 ≡ c.left-count.result = count_of c.args.actors.now c.args.columns.now c.requires.0 c.requires.1 c.spelled-actions.result told c.left-count.result c.left-count.ensures in
    rw c.find-insert.ensures (map (λ r. r.insert) c.requires.0, inserts_of c.args.actors.now c.args.columns.now c.requires.0 c.requires.1, length-map c.requires.0 (λ r. r.insert) ∙ n)

pub spelled-values-requires : goal.spelled-values-requires
spelled-values-requires c =
    let told = rw c.find-action.ensures at c.spelled-actions.ensures in
    let n : length c.requires.0 ≡ c.left-count.result = count_of c.args.actors.now c.args.columns.now c.requires.0 c.requires.1 c.spelled-actions.result told c.left-count.result c.left-count.ensures in
    rw (c.find-numbers.ensures, c.find-raw.ensures) (map (λ r. r.value) c.requires.0, values_of c.args.actors.now c.args.columns.now c.requires.0 c.requires.1, length-map c.requires.0 (λ r. r.value) ∙ n)

pub spelled-succs-requires : goal.spelled-succs-requires
spelled-succs-requires c =
    let told = rw c.find-action.ensures at c.spelled-actions.ensures in
    let n : length c.requires.0 ≡ c.left-count.result = count_of c.args.actors.now c.args.columns.now c.requires.0 c.requires.1 c.spelled-actions.result told c.left-count.result c.left-count.ensures in
    rw (c.find-lengths.ensures, c.find-succ_actor.ensures, c.find-succ_counter.ensures) (map (λ r. r.succs) c.requires.0, succs_of c.args.actors.now c.args.columns.now c.requires.0 c.requires.1, length-map c.requires.0 (λ r. r.succs) ∙ n)

pub spelled-expands-requires : goal.spelled-expands-requires
spelled-expands-requires c =
    let told = rw c.find-action.ensures at c.spelled-actions.ensures in
    let n : length c.requires.0 ≡ c.left-count.result = count_of c.args.actors.now c.args.columns.now c.requires.0 c.requires.1 c.spelled-actions.result told c.left-count.result c.left-count.ensures in
    rw c.find-expand.ensures (map (λ r. r.expand) c.requires.0, expands_of c.args.actors.now c.args.columns.now c.requires.0 c.requires.1, length-map c.requires.0 (λ r. r.expand) ∙ n)

pub spelled-marks-requires : goal.spelled-marks-requires
spelled-marks-requires c =
    let told = rw c.find-action.ensures at c.spelled-actions.ensures in
    let n : length c.requires.0 ≡ c.left-count.result = count_of c.args.actors.now c.args.columns.now c.requires.0 c.requires.1 c.spelled-actions.result told c.left-count.result c.left-count.ensures in
    rw c.find-mark.ensures (map (λ r. r.mark) c.requires.0, marks_of c.args.actors.now c.args.columns.now c.requires.0 c.requires.1, length-map c.requires.0 (λ r. r.mark) ∙ n)

pub returns : goal.returns
returns c =
    let even : Even c.left-count.result c.spelled-objects.result c.spelled-keys.result c.spelled-ids.result c.spelled-inserts.result c.spelled-actions.result c.spelled-values.result c.spelled-succs.result c.spelled-expands.result c.spelled-marks.result =
    record { objects = c.spelled-objects.ensures.count; keys = c.spelled-keys.ensures.count; ids = c.spelled-ids.ensures.count; inserts = c.spelled-inserts.ensures.count; actions = sym c.left-count.ensures; values = c.spelled-values.ensures.count; succs = c.spelled-succs.ensures.count; expands = c.spelled-expands.ensures.count; marks = c.spelled-marks.ensures.count } in
    let objects = rw (c.find-object_actor.ensures, c.find-object_counter.ensures) at c.spelled-objects.ensures.spelled in
    let keys = rw (c.find-key_actor.ensures, c.find-key_counter.ensures, c.find-key_name.ensures) at c.spelled-keys.ensures.spelled in
    let ids = rw (c.find-id_actor.ensures, c.find-id_counter.ensures) at c.spelled-ids.ensures.spelled in
    let inserts = rw c.find-insert.ensures at c.spelled-inserts.ensures.spelled in
    let actions = rw c.find-action.ensures at c.spelled-actions.ensures in
    let values = rw (c.find-numbers.ensures, c.find-raw.ensures) at c.spelled-values.ensures.spelled in
    let succs = rw (c.find-lengths.ensures, c.find-succ_actor.ensures, c.find-succ_counter.ensures) at c.spelled-succs.ensures.spelled in
    let expands = rw c.find-expand.ensures at c.spelled-expands.ensures.spelled in
    let marks = rw c.find-mark.ensures at c.spelled-marks.ensures.spelled in
    SpellsRows-made c.args.actors.now c.args.columns.now (rows_from c.spelled-objects.result c.spelled-keys.result c.spelled-ids.result c.spelled-inserts.result c.spelled-actions.result c.spelled-values.result c.spelled-succs.result c.spelled-expands.result c.spelled-marks.result) c.spelled-objects.result c.spelled-keys.result c.spelled-ids.result c.spelled-inserts.result c.spelled-actions.result c.spelled-values.result c.spelled-succs.result c.spelled-expands.result c.spelled-marks.result
    (fields_from c.left-count.result c.spelled-objects.result c.spelled-keys.result c.spelled-ids.result c.spelled-inserts.result c.spelled-actions.result c.spelled-values.result c.spelled-succs.result c.spelled-expands.result c.spelled-marks.result even)
    objects keys ids inserts actions values succs expands marks
