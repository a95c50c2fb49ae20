use Rattle.std.proofs.Common.{◌∷◌, ◌++◌, [], ap, ◌∙◌}
use Rattle.am_doccols.specs.Rows.{row_of}
use Rattle.am_rebuild.proofs.Turns.{one_less}
use Rattle.am_rebuild.proofs.lent.rows_in.Goals as goal

pub loop-alloc-preserved : goal.loop-alloc-preserved
loop-alloc-preserved c =
    one_less c.loop-alloc.lent.items c.loop-alloc.rest c.next_into.new.self c.args.rows c.push.new.self.items (row_of c.next_into.new.row) (c.next_into.ensures.next c.loop-alloc-test.true)
    (c.in_ok-push.ensures.items ∙ ap (λ r. c.loop-alloc.lent.items ++ r ∷ []) c.in_ok-row_in.ensures) c.loop-alloc.invariant
