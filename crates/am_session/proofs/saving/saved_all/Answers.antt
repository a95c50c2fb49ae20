use Rattle.std.proofs.Common.{rules, refl, sym, subst}
use Rattle.am_session.specs.declared.request.Request.TheVariants.{Do}
use Rattle.am_script.specs.declared.Command.TheVariants.{SaveAll}
use Rattle.am_session.specs.Answered.{Answered, seen}
use Rattle.am_session.specs.Session.{Held}
use Rattle.am_session.proofs.Owed.{keeps}
use Rattle.am_session.proofs.saving.saved_all.Goals as goal

pub returns : goal.returns
returns g c =
    let owed = c.keep.ensures in
    let F = g.F.Folder in
    let before = seen (F.files c.args.files.now) (F.misses c.args.files.now) (F.faults c.args.files.now) (F.calls c.args.files.now) in
    let after = seen (F.files c.keep.new.files) (F.misses c.keep.new.files) (F.faults c.keep.new.files) (F.calls c.keep.new.files) in
    subst (λ (h : Held). Answered (Do (SaveAll c.args.name.now)) c.args.session.now before c.keep.result h after) (sym c.whole_file.ensures.same)
    (keeps (Do (SaveAll c.args.name.now)) c.args.name.now _ _ _ c.args.session.now before after c.keep.result (search rules) (search rules) refl refl (λ reply k. k) owed.kept owed.told owed.others owed.no_memory owed.misses owed.faults owed.failed owed.ended)
