use Rattle.std.proofs.Common.{◌∙◌}
use Rattle.am_types.specs.Canonical.{order}
use Rattle.am_json.specs.declared.Form.TheVariants.{Winners}
use Rattle.am_session.proofs.PrintedText.{at_listed, in_order, valid_ancestors}
use Rattle.am_session.proofs.audit.audit_at.Goals as goal

pub returns-in-Ok : goal.returns-in-Ok
returns-in-Ok c =
    let C = c.args.store.now.closed in
    at_listed c.listing_is_free.ensures c.replayed.result Winners c.args.hashes.now C (order C) c.graph-graph.ensures.kept.stored.valid (in_order C) c.as_slice.result.now (c.as_slice.ensures ∙ c.in-Ok.ensures.ok) c.in-Ok.ensures.held c.replayed.ensures

pub replayed-requires : goal.replayed-requires
replayed-requires c =
    let C = c.args.store.now.closed in
    valid_ancestors c.part_is_valid.ensures C (order C) c.args.hashes.now c.as_slice.result.now c.graph-graph.ensures.kept.stored.valid (in_order C) (c.as_slice.ensures ∙ c.in-Ok.ensures.ok)
