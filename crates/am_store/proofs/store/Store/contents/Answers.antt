use Rattle.std.proofs.Common.{ap, ◌∙◌}
use Rattle.am_types.specs.Documents.{table}
use Rattle.am_doc.specs.Contents.{body}
use Rattle.am_store.specs.Kept.{Kept}
use Rattle.am_store.proofs.store.Store.contents.Goals as goal

pub returns : goal.returns
returns c = c.as_slice.ensures ∙ c.self.invariant.contents ∙ ap (λ (k : Kept). body (table k.closed)) c.self.view_is
