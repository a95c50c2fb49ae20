use Rattle.std.proofs.Common.{◌++◌, ap, ◌∙◌}
use Rattle.std.specs.Ordering.{on}
use Rattle.am_types.specs.Order.{hash_cmp, sorted_by}
use Rattle.am_frame.specs.Frames.{framed}
use Rattle.am_delivery.specs.Waiting.{waiting_of}
use Rattle.am_store.specs.Saved.{chunks, saved_all}
use Rattle.am_store.proofs.store.Store.save_all.Goals as goal

pub returns : goal.returns
returns c =
    c.in_ok-push_chunks.ensures
    ∙ ap (λ f. f ++ chunks (sorted_by (on (λ m. m.hash) hash_cmp) (waiting_of c.self.inside.waiting.changes))) (c.in_ok-file.ensures ∙ ap (framed 0) (c.as_slice.ensures ∙ c.self.invariant.contents))
    ∙ ap saved_all c.self.view_is
