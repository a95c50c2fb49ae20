use Rattle.std.proofs.Common.{◌++◌, ◌<◌, length, arith, eqb-true}
use Rattle.am_merge.specs.Aims.{places_to}
use Rattle.am_merge.proofs.Aimed.{one_place, onward}
use Rattle.am_merge.proofs.aims.Aims.push_places.Goals as goal

pub loop-next-smaller : goal.loop-next-smaller
loop-next-smaller c =
    let t = c.args.self.now in
    let a = c.index-aim.result.now in
    let within : c.loop-next.next < length t.aims.items = omega (arith, c.loop-next-test.true, c.len.ensures) in
    let next = onward t c.requires.linked c.args.at c.loop-next.next c.index-next-in-loop-next.result.now a within c.index-aim.ensures (c.loop-next.invariant.is a within) c.index-next-in-loop-next.ensures in
    omega (arith, next.order, next.bound, c.loop-next-test.true)

pub loop-next-preserved : goal.loop-next-preserved
loop-next-preserved c =
    let t = c.args.self.now in
    let a = c.index-aim.result.now in
    let within : c.loop-next.next < length t.aims.items = omega (arith, c.loop-next-test.true, c.len.ensures) in
    let h = c.index-next-in-loop-next.result.now in
    let inv = c.loop-next.invariant in
    let next = onward t c.requires.linked c.args.at c.loop-next.next h a within c.index-aim.ensures (inv.is a within) c.index-next-in-loop-next.ensures in
    record {
      bound = next.bound;
      is = λ d l. eqb-true _ c.args.at (next.is d l);
      rest = one_place t c.requires.linked c.args.at c.loop-next.next h a within c.index-aim.ensures (inv.is a within) c.index-next-in-loop-next.ensures
          c.loop-next.places.items c.push.new.self.items (c.args.places.now.items ++ places_to t.aims.items c.args.at) c.in_ok-push.ensures.items inv.rest;
    }
