use Rattle.std.proofs.Common.{ap, ◌∙◌}
use Rattle.std.proofs.lemmas.Result.{IfOk-weaker}
use Rattle.am_frame.specs.Frames.{framed}
use Rattle.am_store.specs.Kept.{Kept}
use Rattle.am_store.specs.Saved.{document}
use Rattle.am_store.proofs.store.Store.save.Goals as goal

pub returns : goal.returns
returns c = IfOk-weaker c.framed.result _ _ (λ file e. e ∙ ap (framed 0) (c.as_slice.ensures ∙ c.self.invariant.contents) ∙ ap (λ (k : Kept). document k.closed) c.self.view_is) c.framed.ensures
