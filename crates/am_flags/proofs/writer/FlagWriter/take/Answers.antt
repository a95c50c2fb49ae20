use Rattle.std.proofs.Common.{arith}
use Rattle.std.specs.Prelude.{replicate}
use Rattle.std.proofs.lemmas.List.{length-replicate}
use Rattle.am_flags.proofs.Taking.{behind_block, taken_block, none_on, none_both, enough_behind, room_within}
use Rattle.am_flags.proofs.writer.FlagWriter.take.Goals as goal

pub push_alike-requires : goal.push_alike-requires
push_alike-requires c =
    let inv = c.loop-left.invariant in
    record { room = room_within c.args.self.now c.loop-left.self c.args.from.now c.args.n c.loop-left.left c.in-Some.count c.in-Some.ensures.next.1 inv.few c.requires.enough c.requires.room inv.none inv.written }

pub loop-left-preserved : goal.loop-left-preserved
loop-left-preserved c =
    let arm = c.in-Some in
    let next = arm.ensures.next in
    let inv = c.loop-left.invariant in
    let block = replicate arm.count arm.flag in
    let size = length-replicate arm.count arm.flag in
    record {
      few = omega (arith, inv.few);
      enough = enough_behind _ _ block _ arm.count size inv.enough next.2;
      behind = behind_block _ _ _ block _ _ arm.count size next.1 inv.few c.requires.enough inv.behind next.2;
      written = taken_block c.args.self.now c.loop-left.self _ _ _ _ block _ _ arm.count size next.1 inv.few c.requires.enough inv.behind next.2 inv.written c.in_ok-push_alike-in-Some.ensures.ok;
      none = none_on _ c.loop-left.self _ inv.none (none_both _ _ _ c.in_ok-push_alike-in-Some.ensures.failed);
    }
