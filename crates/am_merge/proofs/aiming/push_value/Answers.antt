use Rattle.std.proofs.Common.{◌≡◌, ◌∙◌, ◌∷◌, [], ap, filter, get_or, map, sym}
use Rattle.std.proofs.lemmas.Result.{on_ok_weaker}
use Rattle.am_types.specs.Operations.{Operation}
use Rattle.am_places.specs.Numbered.{operation_of}
use Rattle.am_merge.specs.Aims.{means_element}
use Rattle.am_merge.specs.Naming.{reference, references}
use Rattle.am_merge.specs.Walk.{gives_value}
use Rattle.am_merge.proofs.AimLaws.{is_value, more_names, no_names, no_value_deletes, no_value_inserts, none_reference, one_reference, read_one}
use Rattle.am_merge.proofs.aiming.push_value.Goals as goal

pub returns-then-operations-place : goal.returns-then-operations-place
returns-then-operations-place c = λ ns x here h.
    let A = map operation_of c.args.operations.now in
    let x_is : operation_of (get_or c.args.operations.now c.args.place c.index-operations-place.result) ≡ x = read_one c.args.operations.now c.args.place c.index-operations-place.result x here in
    no_names means_element A ns (references (filter gives_value (x ∷ []))) c.args.aims.now.items
    (none_reference gives_value x (no_value_inserts x (ap (λ (z : Operation). z.op.insert) (sym x_is) ∙ c.if-operations-place.true))) h

pub returns-then-operations-place-eq-DELETE : goal.returns-then-operations-place-eq-DELETE
returns-then-operations-place-eq-DELETE c = λ ns x here h.
    let A = map operation_of c.args.operations.now in
    let first : operation_of (get_or c.args.operations.now c.args.place c.index-operations-place.result) ≡ x = read_one c.args.operations.now c.args.place c.index-operations-place.result x here in
    let then : operation_of (get_or c.args.operations.now c.args.place c.index-operations-place-2.result) ≡ x = read_one c.args.operations.now c.args.place c.index-operations-place-2.result x here in
    no_names means_element A ns (references (filter gives_value (x ∷ []))) c.args.aims.now.items
    (none_reference gives_value x (no_value_deletes x (ap (λ (z : Operation). z.op.insert) (sym first) ∙ c.if-operations-place.false) (ap (λ (z : Operation). z.op.action) (sym then) ∙ c.if-operations-place-eq-DELETE.true))) h

pub returns : goal.returns
returns c =
    on_ok_weaker c.push_reference.result
    (λ told ns x here h.
    let A = map operation_of c.args.operations.now in
    let first : operation_of (get_or c.args.operations.now c.args.place c.index-operations-place.result) ≡ x = read_one c.args.operations.now c.args.place c.index-operations-place.result x here in
    let then : operation_of (get_or c.args.operations.now c.args.place c.index-operations-place-2.result) ≡ x = read_one c.args.operations.now c.args.place c.index-operations-place-2.result x here in
    more_names means_element A ns (reference x) (references (filter gives_value (x ∷ []))) c.push_reference.new.aims.items
    (sym (one_reference gives_value x (is_value x (ap (λ (z : Operation). z.op.insert) (sym first) ∙ c.if-operations-place.false) (λ e. c.if-operations-place-eq-DELETE.false (ap (λ (z : Operation). z.op.action) then ∙ e)))))
    (told ns x here h))
    c.push_reference.ensures
