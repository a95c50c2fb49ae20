use Rattle.std.proofs.Common.{◌∙◌, sym}
use Rattle.am_types.specs.Views.{id_of}
use Rattle.am_types.proofs.Orders.{same_id-true}
use Rattle.am_places.proofs.Found.{seen_at}
use Rattle.am_places.proofs.numbered.is_at.Goals as goal

pub returns-then-at-operations : goal.returns-then-at-operations
returns-then-at-operations c t =
    seen_at c.args.operations.now (id_of c.args.id) c.args.at c.index-operations-at.result c.if-at-operations.true c.index-operations-at.is
    (sym c.id.ensures ∙ same_id-true _ _ (sym c.same_id.ensures.same ∙ t))
