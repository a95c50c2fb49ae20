use Rattle.std.proofs.Common.{◌∙◌, ◌++◌, ap, sym, arith}
use Rattle.std.proofs.lemmas.List.{append-nil}
use Rattle.am_merge.specs.Stops.{done_in, waiting_of}
use Rattle.am_merge.proofs.Stopping.{comes_last_of_all, none_left_over}
use Rattle.am_merge.proofs.stops.put_rest.Goals as goal

pub rest-preserved : goal.rest-preserved
rest-preserved c = record {
  few = omega (arith, c.in_ok-put_next.ensures.few, c.rest.invariant.few);
  same = λ A t.
      c.rest.invariant.same A t
      ∙ comes_last_of_all A c.args.tables.now.named.items c.rest.walk c.put_next.new.walk c.in_ok-put_next.ensures.left (c.in_ok-put_next.ensures.put A t) (c.is_any.ensures.due c.rest-test.true);
}

pub returns-clause-rest : goal.returns-clause-rest
returns-clause-rest c A t =
    let done = done_in c.args.tables.now.named.items c.rest.walk in
    sym (c.rest.invariant.same A t ∙ ap (λ l. done ++ l) (none_left_over A c.rest.walk.left (waiting_of c.rest.walk) (c.is_any.ensures.none c.rest-test.false)) ∙ append-nil done)
