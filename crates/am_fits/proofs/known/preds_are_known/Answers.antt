use Rattle.std.proofs.Common.{◌≡◌, ◌∙◌, ◌<◌, ◌+◌, ◌&&◌, Bool, [], true, length, get_or, sym, arith}
use Rattle.std.proofs.lemmas.List.Folds.{list_all_at, list_all_more}
use Rattle.am_types.specs.declared.OpId.{OpId}
use Rattle.am_types.specs.Operations.{slot}
use Rattle.am_fits.specs.Shown.{slot_shown}
use Rattle.am_fits.specs.Told.{told, own, gives_to}
use Rattle.am_fits.proofs.ReadLists.{told_same}
use Rattle.am_fits.proofs.known.preds_are_known.Goals as goal

pub returns-then-not-pred_is_known-clause-known : goal.returns-then-not-pred_is_known-clause-known
returns-then-not-pred_is_known-clause-known g c =
    let change = g.C.ReadChange.change c.args.change.now in
    let op = g.C.Op.ReadOp.op c.args.op.now in
    let past = c.args.ancestors.now in
    let d : OpId = record { counter = 0; actor = [] } in
    let known : OpId → Bool = λ x. told past.clock past.facts change c.args.place x (gives_to op.obj (slot (own change c.args.place op))) in
    let l : c.loop-i.i < length op.preds = omega (arith, c.pred_count-i-end.ensures, c.loop-i-test.true) in
    let slot_is : slot_shown c.show_slot-slot.result ≡ slot (own change c.args.place op) =
    c.show_slot-slot.ensures
    ∙ (λ j. slot (record { id = record { counter = c.start.ensures j + c.args.place; actor = (c.as_slice.ensures.value ∙ c.actor.ensures) j }; op = op })) in
    let here : c.pred_is_known.result ≡ known (get_or op.preds c.loop-i.i d) =
    c.pred_is_known.ensures.known ∙ told_same change c.args.place c.loop-i.invariant.same (c.pred.ensures d) c.obj.ensures slot_is in
    sym (list_all_at known op.preds c.loop-i.i d l (sym here ∙ c.if-not-pred_is_known.true))

pub loop-i-preserved : goal.loop-i-preserved
loop-i-preserved g c =
    let change = g.C.ReadChange.change c.args.change.now in
    let op = g.C.Op.ReadOp.op c.args.op.now in
    let past = c.args.ancestors.now in
    let d : OpId = record { counter = 0; actor = [] } in
    let known : OpId → Bool = λ x. told past.clock past.facts change c.args.place x (gives_to op.obj (slot (own change c.args.place op))) in
    let l : c.loop-i.i < length op.preds = omega (arith, c.pred_count-i-end.ensures, c.loop-i-test.true) in
    let slot_is : slot_shown c.show_slot-slot.result ≡ slot (own change c.args.place op) =
    c.show_slot-slot.ensures
    ∙ (λ j. slot (record { id = record { counter = c.start.ensures j + c.args.place; actor = (c.as_slice.ensures.value ∙ c.actor.ensures) j }; op = op })) in
    let here : c.pred_is_known.result ≡ known (get_or op.preds c.loop-i.i d) =
    c.pred_is_known.ensures.known ∙ told_same change c.args.place c.loop-i.invariant.same (c.pred.ensures d) c.obj.ensures slot_is in
    let one : known (get_or op.preds c.loop-i.i d) ≡ true = sym here ∙ c.if-not-pred_is_known.false in
    record {
      same = c.pred_is_known.ensures.same ∙ c.loop-i.invariant.same;
      known = list_all_more known op.preds c.loop-i.i d l ∙ (λ j. c.loop-i.invariant.known j && one j);
    }
