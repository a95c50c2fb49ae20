use Rattle.std.proofs.Common.{◌≡◌, ◌∙◌, ◌∷◌, [], ap, get_or, map, sym}
use Rattle.std.proofs.lemmas.Result.{on_ok_weaker}
use Rattle.am_types.specs.Operations.{Operation}
use Rattle.am_types.specs.Views.{id_of}
use Rattle.am_types.specs.declared.OpId.{OpId}
use Rattle.am_types.specs.declared.Key.TheVariants.{Elem, Head, Name}
use Rattle.am_places.specs.Numbered.{operation_of}
use Rattle.am_merge.specs.Aims.{means_element}
use Rattle.am_merge.specs.Naming.{reference}
use Rattle.am_merge.proofs.AimLaws.{by_element, more_names, no_names, read_one, reference_by}
use Rattle.am_merge.proofs.aiming.push_reference.Goals as goal

pub returns-in-Elem : goal.returns-in-Elem
returns-in-Elem c =
    on_ok_weaker c.push_element.result
    (λ told ns x here h.
    let A = map operation_of c.args.operations.now in
    let x_is : operation_of (get_or c.args.operations.now c.args.place c.index-operations-place.result) ≡ x = read_one c.args.operations.now c.args.place c.index-operations-place.result x here in
    more_names means_element A ns (by_element (id_of c.lend.result) x ∷ []) (reference x) c.push_element.new.aims.items
    (ap (λ (j : OpId). by_element j x ∷ []) c.lend.ensures ∙ sym (reference_by x (Elem c.in-Elem.id) (ap (λ (z : Operation). z.op.key) (sym x_is) ∙ c.in-Elem.is)))
    (told ns x here h))
    c.push_element.ensures

pub returns-in-Head : goal.returns-in-Head
returns-in-Head c = λ ns x here h.
    let A = map operation_of c.args.operations.now in
    let x_is : operation_of (get_or c.args.operations.now c.args.place c.index-operations-place.result) ≡ x = read_one c.args.operations.now c.args.place c.index-operations-place.result x here in
    no_names means_element A ns (reference x) c.args.aims.now.items (reference_by x Head (ap (λ (z : Operation). z.op.key) (sym x_is) ∙ c.in-Head.is)) h

pub returns-in-Name : goal.returns-in-Name
returns-in-Name c = λ ns x here h.
    let A = map operation_of c.args.operations.now in
    let x_is : operation_of (get_or c.args.operations.now c.args.place c.index-operations-place.result) ≡ x = read_one c.args.operations.now c.args.place c.index-operations-place.result x here in
    no_names means_element A ns (reference x) c.args.aims.now.items (reference_by x (Name c.in-Name.field-0) (ap (λ (z : Operation). z.op.key) (sym x_is) ∙ c.in-Name.is)) h
