use Rattle.std.proofs.Common.{Some, map, option_map, length, arith, refl, sym, ap, ◌∙◌}
use Rattle.am_delta.specs.Deltas.{canonical_delta_bytes}
use Rattle.am_values.specs.Columns.{metadata, joined}
use Rattle.am_fields.specs.Columns.{place_of, numbers_bytes, texts_bytes, Numbers, Deltas, Texts, Actors, Flags, RareFlags, Raw}
use Rattle.am_fields.specs.Layout.{object_actor, object_counter, key_actor, key_counter, key_string, id_actor, id_counter, flat, given}
use Rattle.am_opcols.proofs.InPlace.{none_placed, place}
use Rattle.am_opcols.proofs.WriteLaws.{fused2, fused3}
use Rattle.am_opcols.proofs.write.push_columns.Goals as goal

pub returns : goal.returns
returns g c =
    let actors = c.args.actors.now in
    let ops = map g.O.ReadOp.op c.args.ops.now in
    let preds = flat (map (λ o. o.preds) ops) in
    let p = none_placed actors _ _ c.requires.empty c.requires.none in
    let p = place 1 (Actors (map object_actor (map (λ o. o.obj) ops))) p (omega (arith, c.len-at.ensures, c.args.out.now.ok.0)) c.in_ok-push_numbers.ensures (ap numbers_bytes (fused3 (option_map (place_of actors)) object_actor (λ o. o.obj) ops)) (λ n e. c.in_ok-push_listed.ensures n (e ∙ ap length (sym c.deref.ensures.value))) in
    let p = place 2 (Numbers (map object_counter (map (λ o. o.obj) ops))) p (omega (arith, c.len-at-2.ensures, c.push_numbers.new.out.ok.0)) c.in_ok-push_numbers-2.ensures (ap numbers_bytes (fused2 object_counter (λ o. o.obj) ops)) (λ n e. c.in_ok-push_listed-2.ensures n (e ∙ ap length (sym c.deref-2.ensures.value))) in
    let p = place 17 (Actors (map key_actor (map (λ o. o.key) ops))) p (omega (arith, c.len-at-3.ensures, c.push_numbers-2.new.out.ok.0)) c.in_ok-push_numbers-3.ensures (ap numbers_bytes (fused3 (option_map (place_of actors)) key_actor (λ o. o.key) ops)) (λ n e. c.in_ok-push_listed-3.ensures n (e ∙ ap length (sym c.deref-3.ensures.value))) in
    let p = place 19 (Deltas (map key_counter (map (λ o. o.key) ops))) p (omega (arith, c.len-at-4.ensures, c.push_numbers-3.new.out.ok.0)) c.in_ok-push_key_counters.ensures (ap canonical_delta_bytes (fused2 key_counter (λ o. o.key) ops)) (λ n e. c.in_ok-push_listed-4.ensures n (e ∙ ap length (sym c.deref-4.ensures.value))) in
    let p = place 21 (Texts (map key_string (map (λ o. o.key) ops))) p (omega (arith, c.len-at-5.ensures, c.push_key_counters.new.out.ok.0)) c.in_ok-push_column.ensures (c.in_ok-key_names_in.ensures ∙ ap texts_bytes (fused2 key_string (λ o. o.key) ops)) (λ n e. c.in_ok-push_listed-5.ensures n (e ∙ ap length (sym c.deref-5.ensures.value))) in
    let p = place 52 (Flags (map (λ o. o.insert) ops)) p (omega (arith, c.len-at-6.ensures, c.push_column.new.out.ok.0)) c.in_ok-push_column-2.ensures (c.in_ok-inserts_in.ensures) (λ n e. c.in_ok-push_listed-6.ensures n (e ∙ ap length (sym c.deref-6.ensures.value))) in
    let p = place 66 (given (map (λ o. o.action) ops)) p (omega (arith, c.len-at-7.ensures, c.push_column-2.new.out.ok.0)) c.in_ok-push_numbers-4.ensures (ap numbers_bytes (fused2 Some (λ o. o.action) ops)) (λ n e. c.in_ok-push_listed-7.ensures n (e ∙ ap length (sym c.deref-7.ensures.value))) in
    let p = place 86 (given (map metadata (map (λ o. o.value) ops))) p (omega (arith, c.len-at-8.ensures, c.push_numbers-4.new.out.ok.0)) c.in_ok-push_numbers-5.ensures (ap numbers_bytes (fused3 Some metadata (λ o. o.value) ops)) (λ n e. c.in_ok-push_listed-8.ensures n (e ∙ ap length (sym c.deref-8.ensures.value))) in
    let p = place 87 (Raw (joined (map (λ o. o.value) ops))) p (omega (arith, c.len-at-9.ensures, c.push_numbers-5.new.out.ok.0)) c.in_ok-push_raw.ensures (refl) (λ n e. c.in_ok-push_listed-9.ensures n (e ∙ ap length (sym c.deref-9.ensures.value))) in
    let p = place 112 (given (map length (map (λ o. o.preds) ops))) p (omega (arith, c.len-at-10.ensures, c.push_raw.new.out.ok.0)) c.in_ok-push_numbers-6.ensures (ap numbers_bytes (fused3 Some length (λ o. o.preds) ops)) (λ n e. c.in_ok-push_listed-10.ensures n (e ∙ ap length (sym c.deref-10.ensures.value))) in
    let p = place 113 (Actors (map id_actor preds)) p (omega (arith, c.len-at-11.ensures, c.push_numbers-6.new.out.ok.0)) c.in_ok-push_pred_actors.ensures (refl) (λ n e. c.in_ok-push_listed-11.ensures n (e ∙ ap length (sym c.deref-11.ensures.value))) in
    let p = place 115 (Deltas (map id_counter preds)) p (omega (arith, c.len-at-12.ensures, c.push_pred_actors.new.out.ok.0)) c.in_ok-push_pred_counters.ensures (refl) (λ n e. c.in_ok-push_listed-12.ensures n (e ∙ ap length (sym c.deref-12.ensures.value))) in
    let p = place 148 (RareFlags (map (λ o. o.expand) ops)) p (omega (arith, c.len-at-13.ensures, c.push_pred_counters.new.out.ok.0)) c.in_ok-push_column-3.ensures (c.in_ok-expands_in.ensures) (λ n e. c.in_ok-push_listed-13.ensures n (e ∙ ap length (sym c.deref-13.ensures.value))) in
    let p = place 165 (Texts (map (λ o. o.mark) ops)) p (omega (arith, c.len-at-14.ensures, c.push_column-3.new.out.ok.0)) c.in_ok-push_column-4.ensures (c.in_ok-marks_in.ensures) (λ n e. c.in_ok-push_listed-14.ensures n (e ∙ ap length (sym c.deref-14.ensures.value))) in
    (p.body_is, p.listing_is)
