use Rattle.std.proofs.Common.{◌∙◌, ◌++◌, ap, arith, length, sym}
use Rattle.am_merge.specs.Stops.{done_in, waiting_of}
use Rattle.am_merge.specs.Walk.{walked}
use Rattle.am_merge.proofs.Stopping.{row_passes}
use Rattle.am_merge.proofs.walk.walk_rest.Goals as goal

pub rows-init : goal.rows-init
rows-init c = record {
  few = omega (arith, c.requires.few, c.copy_unnamed.ensures.few);
  same = λ A t n. c.copy_unnamed.ensures.same A c.args.tables.now t n;
}

pub copy_unnamed-requires-in-Some-clause-few : goal.copy_unnamed-requires-in-Some-clause-few
copy_unnamed-requires-in-Some-clause-few c = omega (arith, ap length c.in-Some.ensures.next.1, c.rows.invariant.few, c.in_ok-put_before.ensures.few, c.in_ok-pass_row.ensures.few)

pub rows-preserved : goal.rows-preserved
rows-preserved c =
    let r = c.in-Some.ensures.next.0 in
    let next = c.in-Some.ensures.next.1 in
    record {
      few = omega (arith, ap length next, c.rows.invariant.few, c.in_ok-put_before.ensures.few, c.in_ok-pass_row.ensures.few, c.copy_unnamed-in-Some.ensures.few);
      same = λ A t n.
          let named = c.args.tables.now.named.items in
          let h = c.in_ok-pass_row.ensures.passed A t n r c.in-Some.ensures.next.2 in
          c.rows.invariant.same A t n
          ∙ ap (λ rs. done_in named c.rows.walk ++ walked A rs c.rows.walk.left (waiting_of c.rows.walk)) next
          ∙ row_passes A named r c.next_spot.new.rest c.rows.walk c.put_before.new.walk c.pass_row.new.walk
          (c.in_ok-put_before.ensures.before A t r c.in-Some.ensures.next.2 (walked A c.next_spot.new.rest))
          h.events h.waiting c.in_ok-pass_row.ensures.left
          ∙ c.copy_unnamed-in-Some.ensures.same A c.args.tables.now t n;
    }

pub rows-smaller : goal.rows-smaller
rows-smaller c = omega (arith, ap length c.in-Some.ensures.next.1, c.copy_unnamed-in-Some.ensures.left)

pub returns : goal.returns
returns c A t n =
    let named = c.args.tables.now.named.items in
    sym
    (c.rows.invariant.same A t n
    ∙ ap (λ rs. done_in named c.rows.walk ++ walked A rs c.rows.walk.left (waiting_of c.rows.walk)) c.in_default.ensures.end
    ∙ sym (c.in_ok-put_rest.ensures.rest A t))

pub pass_row-requires-clause-few : goal.pass_row-requires-clause-few
pass_row-requires-clause-few c = omega (arith, ap length c.in-Some.ensures.next.1, c.rows.invariant.few, c.in_ok-put_before.ensures.few)
