use Rattle.std.proofs.Common.{Some, [], refl, ◌∙◌, map, length, arith}
use Rattle.std.proofs.lemmas.List.{length-map}
use Rattle.am_fields.specs.Columns.{Deltas, Actors, Raw, Counts, Times, Messages, Extras}
use Rattle.am_fields.specs.Extras.{extra_value}
use Rattle.am_fields.specs.Layout.{whole, flat}
use Rattle.am_fields.proofs.CanonicalLaws.{numbers_canonical, texts_canonical, deltas_canonical, values_canonical, none_spelled, put}
use Rattle.am_doccols.proofs.MetasWritten.{seqs_middling, maxes_middling, times_middling, deps_middling, extras_good, joined-extras}
use Rattle.am_doccols.proofs.meta_finished.meta_columns_in.Goals as goal

pub returns : goal.returns
returns c actors metas h =
    let done = c.in_ok-fill.ensures in
    let deps = flat (map (λ m. m.deps) metas) in
    let extras = map (λ m. m.extra) metas in
    let few = h.few in
    let few_deps = h.few_deps in
    let values = values_canonical _ _ _ _ h.extra_are (extras_good actors metas h.all) (omega (arith, length-map extras extra_value, length-map metas (λ m. m.extra))) done.values in
    let p = none_spelled actors [] refl in
    let p = put 1 (Actors (map Some (map (λ m. m.actor) metas))) p refl (numbers_canonical _ _ _ h.actor_are done.actor) in
    let p = put 3 (Deltas (map whole (map (λ m. m.seq) metas))) p refl (deltas_canonical _ _ _ h.seq_are (seqs_middling actors metas h.all) (omega (arith, length-map (map (λ m. m.seq) metas) whole, length-map metas (λ m. m.seq))) done.seq) in
    let p = put 19 (Deltas (map whole (map (λ m. m.max) metas))) p refl (deltas_canonical _ _ _ h.max_are (maxes_middling actors metas h.all) (omega (arith, length-map (map (λ m. m.max) metas) whole, length-map metas (λ m. m.max))) done.max) in
    let p = put 35 (Times (map (λ m. m.time) metas)) p refl (deltas_canonical _ _ _ h.time_are (times_middling actors metas h.all) (omega (arith, length-map (map (λ m. m.time) metas) Some, length-map metas (λ m. m.time))) done.time) in
    let p = put 53 (Messages (map (λ m. m.message) metas)) p refl (texts_canonical _ _ _ h.message_are done.message) in
    let p = put 64 (Counts (map length (map (λ m. m.deps) metas))) p refl (numbers_canonical _ _ _ h.lengths_are done.lengths) in
    let p = put 67 (Deltas (map whole deps)) p refl (deltas_canonical _ _ _ h.deps_are (deps_middling actors metas h.all) (omega (arith, length-map deps whole)) done.deps) in
    let p = put 86 (Extras extras) p refl values.0 in
    let p = put 87 (Raw (flat extras)) p refl (values.1 ∙ joined-extras extras) in
    c.in_ok-columns.ensures ∙ p.is
