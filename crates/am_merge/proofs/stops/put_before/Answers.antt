use Rattle.std.proofs.Common.{◌∙◌, ◌++◌, ap, arith}
use Rattle.am_merge.specs.Stops.{done_in, waiting_of}
use Rattle.am_merge.proofs.Stopping.{comes_before_row, none_before}
use Rattle.am_merge.proofs.stops.put_before.Goals as goal

pub ahead-preserved : goal.ahead-preserved
ahead-preserved c = record {
  few = omega (arith, c.in_ok-put_next.ensures.few, c.ahead.invariant.few);
  same = λ A t r e rest.
      c.ahead.invariant.same A t r e rest
      ∙ comes_before_row A c.args.tables.now.named.items c.ahead.walk c.put_next.new.walk c.in_ok-put_next.ensures.left (c.in_ok-put_next.ensures.put A t) r rest (c.is_due.ensures.due c.ahead-test.true r e);
}

pub returns-clause-before : goal.returns-clause-before
returns-clause-before c A t r e rest =
    c.ahead.invariant.same A t r e rest
    ∙ ap (λ l. done_in c.args.tables.now.named.items c.ahead.walk ++ l) (none_before A r rest c.ahead.walk.left (waiting_of c.ahead.walk) (c.is_due.ensures.none c.ahead-test.false r e))
