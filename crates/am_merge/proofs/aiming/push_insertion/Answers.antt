use Rattle.std.proofs.Common.{◌≡◌, ◌∙◌, ◌∷◌, [], ap, filter, get_or, map, sym}
use Rattle.std.proofs.lemmas.Result.{on_ok_weaker}
use Rattle.am_types.specs.Operations.{Operation}
use Rattle.am_places.specs.Numbered.{operation_of}
use Rattle.am_merge.specs.Aims.{means_element}
use Rattle.am_merge.specs.Naming.{reference, references}
use Rattle.am_merge.specs.Walk.{inserts}
use Rattle.am_merge.proofs.AimLaws.{more_names, no_names, none_reference, one_reference, read_one}
use Rattle.am_merge.proofs.aiming.push_insertion.Goals as goal

pub returns-then-operations-place : goal.returns-then-operations-place
returns-then-operations-place c =
    on_ok_weaker c.push_reference.result
    (λ told ns x here h.
    let A = map operation_of c.args.operations.now in
    let x_is : operation_of (get_or c.args.operations.now c.args.place c.index-operations-place.result) ≡ x = read_one c.args.operations.now c.args.place c.index-operations-place.result x here in
    more_names means_element A ns (reference x) (references (filter inserts (x ∷ []))) c.push_reference.new.aims.items
    (sym (one_reference inserts x (ap (λ (z : Operation). z.op.insert) (sym x_is) ∙ c.if-operations-place.true)))
    (told ns x here h))
    c.push_reference.ensures

pub returns : goal.returns
returns c = λ ns x here h.
    let A = map operation_of c.args.operations.now in
    let x_is : operation_of (get_or c.args.operations.now c.args.place c.index-operations-place.result) ≡ x = read_one c.args.operations.now c.args.place c.index-operations-place.result x here in
    no_names means_element A ns (references (filter inserts (x ∷ []))) c.args.aims.now.items
    (none_reference inserts x (ap (λ (z : Operation). z.op.insert) (sym x_is) ∙ c.if-operations-place.false)) h
