use Rattle.std.proofs.Common.{map, length, [], refl, ◌∙◌}
use Rattle.am_fields.specs.Columns.{Numbers, Deltas, Texts, Actors, Flags, RareFlags, Raw, Counts}
use Rattle.am_fields.specs.Layout.{object_actor, object_counter, key_actor, key_counter, key_string, id_actor, id_counter, flat, given}
use Rattle.am_values.specs.Columns.{metadata, joined}
use Rattle.am_fields.proofs.CanonicalLaws.{numbers_canonical, none_spelled, put}
use Rattle.am_doccols.specs.Writing.{row_lists}
use Rattle.am_doccols.proofs.RowsWritten.{fields_fit, ids_fit, succs_fit}
use Rattle.am_doccols.proofs.finished.columns_in.Goals as goal

pub returns : goal.returns
returns c actors rows h =
    let f = c.in_ok-fields.ensures.ok actors (row_lists rows) h.fields_are (fields_fit actors rows h.all h.few) in
    let ids = map (λ r. r.id) rows in
    let succs = flat (map (λ r. r.succs) rows) in
    let i = c.in_ok-fill.ensures.ids actors ids h.ids_are (ids_fit actors rows h.all h.few) in
    let s = c.in_ok-fill.ensures.succs actors succs h.succs_are (succs_fit actors rows h.all h.few_succs) in
    let p = none_spelled actors [] refl in
    let p = put 1 (Actors (map object_actor (map (λ r. r.obj) rows))) p refl f.object_actor in
    let p = put 2 (Numbers (map object_counter (map (λ r. r.obj) rows))) p refl f.object_counter in
    let p = put 17 (Actors (map key_actor (map (λ r. r.key) rows))) p refl f.key_actor in
    let p = put 19 (Deltas (map key_counter (map (λ r. r.key) rows))) p refl f.key_counter in
    let p = put 21 (Texts (map key_string (map (λ r. r.key) rows))) p refl f.key_name in
    let p = put 33 (Actors (map id_actor ids)) p refl i.places in
    let p = put 35 (Deltas (map id_counter ids)) p refl i.counters in
    let p = put 52 (Flags (map (λ r. r.insert) rows)) p refl f.insert in
    let p = put 66 (given (map (λ r. r.action) rows)) p refl f.action in
    let p = put 86 (Counts (map metadata (map (λ r. r.value) rows))) p refl f.numbers in
    let p = put 87 (Raw (joined (map (λ r. r.value) rows))) p refl f.raw in
    let p = put 128 (Counts (map length (map (λ r. r.succs) rows))) p refl (numbers_canonical _ _ _ h.lengths_are c.in_ok-fill.ensures.lengths) in
    let p = put 129 (Actors (map id_actor succs)) p refl s.places in
    let p = put 131 (Deltas (map id_counter succs)) p refl s.counters in
    let p = put 148 (RareFlags (map (λ r. r.expand) rows)) p refl f.expand in
    let p = put 165 (Texts (map (λ r. r.mark) rows)) p refl f.mark in
    c.in_ok-columns.ensures ∙ p.is
