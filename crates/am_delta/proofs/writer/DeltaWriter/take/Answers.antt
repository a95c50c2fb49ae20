use Rattle.std.proofs.Common.{subst, arith}
use Rattle.am_runs.proofs.Parts.{behind_part, taken_part, none_on, enough_behind, all_behind}
use Rattle.am_delta.specs.Deltas.{AreMiddling}
use Rattle.am_delta.proofs.writer.DeltaWriter.take.Goals as goal

pub loop-left-preserved : goal.loop-left-preserved
loop-left-preserved c =
    let inv = c.loop-left.invariant in
    let k = c.in_ok-left.field-0 in
    let some = c.in_ok-left.ensures.some in
    let took = c.in_ok-left.ensures.ok in
    record {
      few = omega (arith, inv.few);
      enough = enough_behind _ _ took.0 _ k took.1 inv.enough took.2;
      values = (all_behind _ took.0 _ (subst AreMiddling took.2 inv.values)).1;
      behind = behind_part _ _ _ took.0 _ _ k took.1 some.1 inv.few c.requires.enough inv.behind took.2;
      written = taken_part c.args.self.now c.loop-left.self _ _ _ _ took.0 _ _ k took.1 some.1 inv.few c.requires.enough inv.behind took.2 inv.written took.3;
      none = none_on _ _ _ inv.none c.in_ok-left.ensures.failed;
    }
