use Rattle.std.proofs.Common.{arith}
use Rattle.std.specs.Prelude.{replicate}
use Rattle.std.proofs.lemmas.List.{length-replicate}
use Rattle.am_runs.proofs.Parts.{behind_part, taken_part, none_on, none_both, enough_behind, room_part}
use Rattle.am_fields.proofs.item_writer.ItemWriter.take.Goals as goal

pub push_alike-requires : goal.push_alike-requires
push_alike-requires g c =
    let inv = c.loop-left.invariant in
    room_part c.args.self.now c.loop-left.self (g.C.ItemColumn.items c.args.from.now) c.args.n c.loop-left.left c.give-value.result.1 c.give-value.ensures.few inv.few c.requires.enough c.requires.room inv.none inv.written

pub loop-left-preserved : goal.loop-left-preserved
loop-left-preserved g c =
    let count = c.give-value.result.1 in
    let next = c.give-value.ensures in
    let inv = c.loop-left.invariant in
    let part = replicate count (g.K.Lent.shown c.give-value.result.0) in
    let size = length-replicate count (g.K.Lent.shown c.give-value.result.0) in
    record {
      few = omega (arith, inv.few);
      enough = enough_behind _ _ part _ count size inv.enough next.next;
      behind = behind_part _ _ _ part _ _ count size next.few inv.few c.requires.enough inv.behind next.next;
      written = taken_part c.args.self.now c.loop-left.self _ _ _ _ part _ _ count size next.few inv.few c.requires.enough inv.behind next.next inv.written c.in_ok-push_alike.ensures.ok;
      none = none_on _ c.loop-left.self _ inv.none (none_both _ _ _ c.in_ok-push_alike.ensures.failed);
    }
