use Rattle.std.proofs.Common.{◌≡◌, ◌∙◌, ◌+◌, ◌++◌, ◌∷◌, ◌<◌, ◌≤◌, [], List, ap, get_or, length, map, subst, take}
use Rattle.std.proofs.lemmas.List.{take_all}
use Rattle.am_types.specs.Operations.{Operation}
use Rattle.am_types.specs.Views.{id_of}
use Rattle.am_types.specs.declared.OpId.{OpId}
use Rattle.am_places.specs.Numbered.{operation_of}
use Rattle.am_merge.specs.Aims.{means_id}
use Rattle.am_merge.specs.Naming.{naming_each}
use Rattle.am_merge.proofs.AimLaws.{by_id, more_names, one_more, one_named, read_one}
use Rattle.am_merge.proofs.aiming.push_predecessors.Goals as goal

pub loop-i-preserved : goal.loop-i-preserved
loop-i-preserved c = λ ns x here h.
    let A = map operation_of c.args.operations.now in
    let n = get_or c.args.operations.now c.args.place c.index-operations-place.result in
    let i = c.loop-i.i in
    let p = c.index-preds-i.result in
    let before = map (λ p. by_id p x) (take i x.op.preds) in
    let x_is : operation_of n ≡ x = read_one c.args.operations.now c.args.place c.index-operations-place.result x here in
    let preds : c.as_slice-preds.result.now ≡ x.op.preds = c.as_slice-preds.ensures ∙ ap (λ (z : Operation). z.op.preds) x_is in
    let within : i < length x.op.preds = subst (λ (l : List OpId). i < length l) preds c.loop-i-test.true in
    one_more means_id A ns before (by_id (id_of c.lend.result) x ∷ []) (map (λ p. by_id p x) (take (i + 1) x.op.preds)) c.push_predecessor.new.aims.items
    (ap (λ (j : OpId). before ++ by_id j x ∷ []) c.lend.ensures ∙ one_named x x.op.preds i p within (c.index-preds-i.is ∙ ap (λ (l : List OpId). get_or l i p) preds))
    (c.in_ok-push_predecessor.ensures (ns ++ before) x here (c.loop-i.invariant ns x here h))

pub returns : goal.returns
returns c = λ ns x here h.
    let A = map operation_of c.args.operations.now in
    let n = get_or c.args.operations.now c.args.place c.index-operations-place.result in
    let i = c.loop-i.i in
    let x_is : operation_of n ≡ x = read_one c.args.operations.now c.args.place c.index-operations-place.result x here in
    let preds : c.as_slice-preds.result.now ≡ x.op.preds = c.as_slice-preds.ensures ∙ ap (λ (z : Operation). z.op.preds) x_is in
    let most : length x.op.preds ≤ i = subst (λ (l : List OpId). length l ≤ i) preds c.loop-i-test.false in
    more_names means_id A ns (map (λ p. by_id p x) (take i x.op.preds)) (naming_each x) c.loop-i.aims.items
    (ap (map (λ p. by_id p x)) (take_all i x.op.preds most)) (c.loop-i.invariant ns x here h)
