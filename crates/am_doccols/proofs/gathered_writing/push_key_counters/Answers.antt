use Rattle.std.proofs.Common.{◌^◌, map, take, length, arith}
use Rattle.am_fields.specs.Layout.{key_counter}
use Rattle.am_doccols.specs.declared.gathered.GatheredRow.{GatheredRow}
use Rattle.am_fields.proofs.WriteLaws.{room_for}
use Rattle.am_doccols.proofs.ColumnRuns.{done_length}
use Rattle.am_doccols.proofs.gathered_writing.push_key_counters.Goals as goal

pub push-requires-clause-room : goal.push-requires-clause-room
push-requires-clause-room c =
    room_for c.args.to.now c.loop-row.to (map (λ (g : GatheredRow). key_counter g.op.now.key) (take c.loop-row.row-index c.args.rows.now)) (length c.args.rows.now) (2 ^ 32) c.loop-row.invariant.1 c.loop-row.invariant.0 c.requires.room
    (omega (arith, c.loop-row-test.true, done_length (λ (g : GatheredRow). key_counter g.op.now.key) c.args.rows.now c.loop-row.row-index (omega arith)))
