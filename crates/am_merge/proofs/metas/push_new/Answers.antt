use Rattle.std.proofs.Common.{◌≡◌, [], ◌∷◌, ◌++◌, Some, map, sym, ap, subst, ◌∙◌}
use Rattle.std.specs.Prelude.{IfSome, OnOk}
use Rattle.am_types.specs.Documents.{meta_of}
use Rattle.am_doccols.specs.Conditions.{IsMetaFor, HasMetaRoom}
use Rattle.am_merge.specs.Places.{place_in}
use Rattle.am_merge.proofs.metas.push_new.Goals as goal

pub push_lent-requires-clause-meta : goal.push_lent-requires-clause-meta
push_lent-requires-clause-meta c =
    let deps = c.as_slice-2.ensures ∙ c.in_ok-deps.ensures ∙ ap (map (place_in c.args.places.now)) c.as_slice.ensures in
    subst (IsMetaFor c.args.writer.now.0) (sym (c.fields_in.ensures c.as_slice-2.result.now ∙ ap (meta_of c.args.change.now) deps)) c.requires.row

pub push_lent-requires-clause-room : goal.push_lent-requires-clause-room
push_lent-requires-clause-room c =
    let deps = c.as_slice-2.ensures ∙ c.in_ok-deps.ensures ∙ ap (map (place_in c.args.places.now)) c.as_slice.ensures in
    subst (λ d. IfSome c.args.writer.now.1 (λ metas. HasMetaRoom metas d)) (sym deps) c.requires.room

pub returns-clause-ok : goal.returns-clause-ok
returns-clause-ok c =
    let deps = c.as_slice-2.ensures ∙ c.in_ok-deps.ensures ∙ ap (map (place_in c.args.places.now)) c.as_slice.ensures in
    subst (λ m. OnOk c.push_lent.result (IfSome c.args.writer.now.1 (λ metas. c.push_lent.new.self.1 ≡ Some (metas ++ m ∷ []))))
    (c.fields_in.ensures c.as_slice-2.result.now ∙ ap (meta_of c.args.change.now) deps) c.push_lent.ensures.ok
