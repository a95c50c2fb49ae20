use Rattle.am_session.proofs.Texts.{texts_after}
use Rattle.am_session.proofs.session.Session.read_file.Goals as goal

pub invariant_of-self : goal.invariant_of-self
invariant_of-self c = (
  texts_after c.views_stay.ensures c.read_file-read.result c.args.only_changes c.args.bytes.now c.self.inside.store.kept c.read_file-read.new.self.kept c.self.inside.views
      c.graph-before.ensures.kept c.graph-after.ensures.kept c.read_file-read.ensures.ok c.read_file-read.ensures.err c.self.invariant.0,
  tt,
)
