use Rattle.std.proofs.Common.{arith, [], sym, ◌∙◌}
use Rattle.std.proofs.lemmas.List.{append-nil}
use Rattle.am_delivery.specs.Waiting.{members_of, unboxed, waiting_of}
use Rattle.am_delivery.proofs.Leaving.{remaining_nil, removed_next}
use Rattle.am_delivery.proofs.TakenOut.{moved, none_moved}
use Rattle.am_delivery.proofs.removing.move_all.Goals.{in-Some, in_default}
use Rattle.am_delivery.proofs.removing.move_all.Goals as goal

pub loop-hash-init : goal.loop-hash-init
loop-hash-init c = record {
  left = sym (remaining_nil (waiting_of c.args.waiting.now));
  taken = sym (append-nil (members_of (unboxed c.args.taken.now.items)));
  room = let room = c.requires in omega arith;
}

pub push_reserved-requires : goal.push_reserved-requires
push_reserved-requires c =
    let room = c.loop-hash.invariant.room in
    let more = c.loop-hash-test.true in
    omega arith

pub loop-hash-preserved : goal.loop-hash-preserved
loop-hash-preserved c =
    let at = c.loop-hash in
    let W = waiting_of c.args.waiting.now in
    let T = members_of (unboxed c.args.taken.now.items) in
    let left = removed_next W at.waiting c.remove.new.self c.args.gone.now at.hash-index (record { 0 = [] }) c.loop-hash-test.true at.invariant.left c.len-count.ensures.ordered c.remove.ensures.entries in
    let room = at.invariant.room in
    elim c.match-remove.branch [
      | in-Some w ↦ rw w.taken-is (record {
        left = left;
        taken = moved W T at.waiting c.len-count.ensures.ordered c.args.gone.now at.hash-index (record { 0 = [] }) c.loop-hash-test.true at.invariant.left w.in-Some.change (sym c.remove.ensures.value ∙ w.in-Some.is) at.taken.items w.push_reserved.new.self.items w.push_reserved.ensures.items at.invariant.taken;
        room =
            let longer = w.push_reserved.ensures.len in
            let same = w.push_reserved.ensures.capacity in
            omega arith;
      })
      | in_default w ↦ rw w.taken-is (record {
        left = left;
        taken = none_moved W T at.waiting c.len-count.ensures.ordered c.args.gone.now at.hash-index (record { 0 = [] }) c.loop-hash-test.true at.invariant.left (sym c.remove.ensures.value ∙ w.in_default.is) at.taken.items at.invariant.taken;
        room = omega arith;
      })
    ]
