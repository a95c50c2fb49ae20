use Rattle.std.proofs.Common.{◌≡◌, ◌∙◌, ◌++◌, ◌∷◌, ◌&&◌, [], ap, get_or, map, subst, sym, true, false}
use Rattle.am_types.specs.Operations.{Operation}
use Rattle.am_types.specs.Views.{id_of}
use Rattle.am_types.specs.Same.{same_object}
use Rattle.am_places.specs.Numbered.{operation_of}
use Rattle.am_merge.specs.Aims.{AreAims, means_element}
use Rattle.am_merge.proofs.AimLaws.{by_element, element_elsewhere, element_found, element_missing, read_one, read_there}
use Rattle.am_merge.proofs.aiming.push_element.Goals as goal

pub returns-in_default : goal.returns-in_default
returns-in_default c = λ ns x here h. element_missing (map operation_of c.args.operations.now) c.requires.rise (id_of c.args.id) x ns c.args.aims.now.items c.in_default.ensures h

pub returns-in_ok-push : goal.returns-in_ok-push
returns-in_ok-push c = λ ns x here h.
    let A = map operation_of c.args.operations.now in
    let i = id_of c.args.id in
    let n = get_or c.args.operations.now c.args.place c.index-operations-place.result in
    let m = get_or c.args.operations.now c.in-Some.target c.index-operations-target.result in
    let x_is : operation_of n ≡ x = read_one c.args.operations.now c.args.place c.index-operations-place.result x here in
    let at = read_there c.args.operations.now c.in-Some.target c.index-operations-target.result c.in-Some.ensures.0 in
    let same : (m.op.now.insert && same_object n.op.now.obj m.op.now.obj) ≡ true = ap (λ o. m.op.now.insert && same_object o m.op.now.obj) (sym c.lend.ensures) ∙ sym c.is_element_of.ensures ∙ c.if-is_element_of.true in
    subst (AreAims means_element A (ns ++ by_element i x ∷ [])) (sym c.in_ok-push.ensures.items)
    (element_found A c.requires.rise i c.in-Some.target c.args.place x (operation_of m) ns c.args.aims.now.items c.in-Some.ensures here at
    (ap (λ (z : Operation). m.op.now.insert && same_object z.op.obj m.op.now.obj) (sym x_is) ∙ same) h)

pub returns-else-is_element_of : goal.returns-else-is_element_of
returns-else-is_element_of c = λ ns x here h.
    let A = map operation_of c.args.operations.now in
    let i = id_of c.args.id in
    let n = get_or c.args.operations.now c.args.place c.index-operations-place.result in
    let m = get_or c.args.operations.now c.in-Some.target c.index-operations-target.result in
    let x_is : operation_of n ≡ x = read_one c.args.operations.now c.args.place c.index-operations-place.result x here in
    let at = read_there c.args.operations.now c.in-Some.target c.index-operations-target.result c.in-Some.ensures.0 in
    let other : (m.op.now.insert && same_object n.op.now.obj m.op.now.obj) ≡ false = ap (λ o. m.op.now.insert && same_object o m.op.now.obj) (sym c.lend.ensures) ∙ sym c.is_element_of.ensures ∙ c.if-is_element_of.false in
    element_elsewhere A c.requires.rise i c.in-Some.target x (operation_of m) ns c.args.aims.now.items c.in-Some.ensures at
    (ap (λ (z : Operation). m.op.now.insert && same_object z.op.obj m.op.now.obj) (sym x_is) ∙ other) h
