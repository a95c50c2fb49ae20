use Rattle.std.proofs.Common.{◌+◌, ◌-◌, arith, length, map, take}
use Rattle.am_doccols.proofs.ColumnRuns.{done_length, part_room, part_written, run_at}
use Rattle.am_runs.proofs.Parts.{none_on}
use Rattle.am_doccols.proofs.row_column.push_column.Goals as goal

pub put-requires : goal.put-requires
put-requires g c =
    part_room (g.C.RowColumn.held c.args.to.now) (g.C.RowColumn.held c.loop-at.to) (map (g.C.RowColumn.cell c.args.actors.now) (take c.loop-at.at c.args.rows.now)) (length c.args.rows.now) (1 + c.alike_with-count.result) c.loop-at.invariant.none c.loop-at.invariant.written c.requires
    (omega (arith, c.loop-at.invariant.few, c.alike_with-count.ensures.few, c.loop-at-test.true, done_length (g.C.RowColumn.cell c.args.actors.now) c.args.rows.now c.loop-at.at c.loop-at.invariant.few))

pub loop-at-preserved : goal.loop-at-preserved
loop-at-preserved g c =
    let cell = g.C.RowColumn.cell c.args.actors.now in
    let at = c.loop-at.at in
    let n = c.alike_with-count.result in
    record {
      few = omega (arith, c.alike_with-count.ensures.few, c.loop-at-test.true);
      written = part_written (g.C.RowColumn.held c.args.to.now) (g.C.RowColumn.held c.loop-at.to) _ (map cell (take at c.args.rows.now)) _ _ c.loop-at.invariant.written c.in_ok-put.ensures.ok
          (run_at cell c.args.rows.now at n (length c.args.rows.now - (at + 1)) _ c.loop-at-test.true c.index-rows-at.is (omega (arith, c.alike_with-count.ensures.few, c.loop-at-test.true)) (c.alike_with-count.ensures.alike c.args.actors.now));
      none = none_on _ (g.C.RowColumn.held c.loop-at.to) _ c.loop-at.invariant.none c.in_ok-put.ensures.failed;
    }
