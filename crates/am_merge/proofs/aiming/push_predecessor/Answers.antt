use Rattle.std.proofs.Common.{◌++◌, ◌∷◌, [], map, subst, sym}
use Rattle.am_types.specs.Views.{id_of}
use Rattle.am_places.specs.Numbered.{operation_of}
use Rattle.am_merge.specs.Aims.{AreAims, means_id}
use Rattle.am_merge.proofs.AimLaws.{by_id, id_found, id_missing}
use Rattle.am_merge.proofs.aiming.push_predecessor.Goals as goal

pub returns-in_ok-push : goal.returns-in_ok-push
returns-in_ok-push c = λ ns x here h.
    let A = map operation_of c.args.operations.now in
    let i = id_of c.args.id in
    subst (AreAims means_id A (ns ++ by_id i x ∷ [])) (sym c.in_ok-push.ensures.items)
    (id_found A c.requires.rise i c.in-Some.target c.args.place x ns c.args.aims.now.items c.in-Some.ensures here h)

pub returns-in_default : goal.returns-in_default
returns-in_default c = λ ns x here h.
    let A = map operation_of c.args.operations.now in
    let i = id_of c.args.id in
    id_missing A c.requires.rise i x ns c.args.aims.now.items c.in_default.ensures h
