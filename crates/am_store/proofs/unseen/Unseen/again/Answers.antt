use Rattle.std.proofs.Common.{◌++◌, ap, ◌∙◌, append-nil}
use Rattle.am_store.proofs.unseen.Unseen.again.Goals as goal

pub returns : goal.returns
returns c = c.both.ensures ∙ ap (λ l. c.args.self.now.entries ++ l) c.none.ensures ∙ append-nil c.args.self.now.entries
