use Rattle.std.proofs.Common.{◌≡◌, [], ◌∷◌, ◌++◌, Some, sym, subst, ◌∙◌}
use Rattle.std.specs.Prelude.{IfSome, OnOk}
use Rattle.am_doccols.specs.Conditions.{IsMetaFor, HasMetaRoom}
use Rattle.am_doccols.specs.Metas.{meta_of}
use Rattle.am_merge.proofs.Weaving.{moved_is}
use Rattle.am_merge.proofs.metas.push_old.Goals as goal

pub push_lent-requires-clause-meta : goal.push_lent-requires-clause-meta
push_lent-requires-clause-meta c =
    let deps = c.as_slice.ensures.value ∙ c.in_ok-move_places.ensures in
    subst (IsMetaFor c.args.writer.now.0) (sym (moved_is c.fields-fields.result (meta_of c.args.row) c.args.places.now c.as_slice.result.now c.fields-fields.ensures deps)) c.requires.row

pub push_lent-requires-clause-room : goal.push_lent-requires-clause-room
push_lent-requires-clause-room c =
    let deps = c.as_slice.ensures.value ∙ c.in_ok-move_places.ensures in
    subst (λ d. IfSome c.args.writer.now.1 (λ metas. HasMetaRoom metas d)) (sym deps) c.requires.room

pub returns-clause-ok : goal.returns-clause-ok
returns-clause-ok c =
    let deps = c.as_slice.ensures.value ∙ c.in_ok-move_places.ensures in
    subst (λ m. OnOk c.push_lent.result (IfSome c.args.writer.now.1 (λ metas. c.push_lent.new.self.1 ≡ Some (metas ++ m ∷ []))))
    (moved_is c.fields-fields.result (meta_of c.args.row) c.args.places.now c.as_slice.result.now c.fields-fields.ensures deps) c.push_lent.ensures.ok
