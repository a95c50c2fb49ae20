use Rattle.std.proofs.Common.{◌∙◌, refl}
use Rattle.am_doc.proofs.InOrder.{seven}
use Rattle.am_doc.proofs.join.joined.Goals as goal

pub returns : goal.returns
returns c =
    c.from.ensures ∙ seven c.new-out.result.items _ _ _ _ _ _ _ _ _ _ _ _ _ _ _ _ _ _ _ _ _ c.new-out.ensures.items
    c.in_ok-push_actors.ensures c.in_ok-push_hashes.ensures c.in_ok-extend_from_slice.ensures.items c.in_ok-extend_from_slice-2.ensures.items c.in_ok-extend_from_slice-3.ensures.items c.in_ok-extend_from_slice-4.ensures.items c.in_ok-push_suffix.ensures
    refl refl c.as_slice.ensures c.as_slice-2.ensures c.as_slice-3.ensures c.as_slice-4.ensures refl
