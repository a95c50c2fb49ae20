use Rattle.std.proofs.Common.{◌∙◌, sym}
use Rattle.am_types.specs.Views.{id_of}
use Rattle.am_types.proofs.Orders.{same_id-true}
use Rattle.am_places.proofs.Found.{seen_at}
use Rattle.am_merge.proofs.aiming.sought.Goals as goal

pub returns-then-same_id : goal.returns-then-same_id
returns-then-same_id c =
    seen_at c.args.operations.now (id_of c.args.id) c.loop-steps.at c.index-operations-at.result c.if-at-operations.true c.index-operations-at.is
    (sym c.id.ensures ∙ same_id-true _ _ (sym c.same_id.ensures.same ∙ c.if-same_id.true))
