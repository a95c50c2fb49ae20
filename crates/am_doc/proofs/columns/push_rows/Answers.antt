use Rattle.std.proofs.Common.{refl, sym, ap, ◌∙◌, subst, take, arith}
use Rattle.am_doccols.specs.Conditions.{HasRoom}
use Rattle.am_doccols.specs.Lent.{row_with}
use Rattle.am_fields.proofs.WriteLaws.{held}
use Rattle.am_doc.proofs.Rooms.{row_room, at_end}
use Rattle.am_doc.proofs.Writers.{row_ready}
use Rattle.am_doc.proofs.Turns.{taken_more}
use Rattle.am_doc.proofs.columns.push_rows.Goals as goal

pub loop-row-init : goal.loop-row-init
loop-row-init c = (refl, c.requires.empty)

pub push-requires-clause-row : goal.push-requires-clause-row
push-requires-clause-row c = row_ready c.loop-row.writer.0 c.args.writer.now.0 c.args.rows.now c.loop-row.row-index c.row-item.result c.fields_of.result c.as_slice.result.now c.loop-row-test.true c.row-item.is c.requires.all c.loop-row.invariant.0 c.as_slice.ensures c.fields_of.ensures

pub push-requires-clause-room : goal.push-requires-clause-room
push-requires-clause-room c = held c.loop-row.writer.1 (take c.loop-row.row-index c.args.rows.now) (λ rows. HasRoom rows c.as_slice.result.now) c.loop-row.invariant.1
    (subst (λ s. HasRoom (take c.loop-row.row-index c.args.rows.now) s) (sym c.as_slice.ensures) (row_room c.args.rows.now c.loop-row.row-index c.row-item.result c.loop-row-test.true c.row-item.is c.requires.few c.requires.few_succs))

pub loop-row-preserved : goal.loop-row-preserved
loop-row-preserved c = (
  c.in_ok-push.ensures.actors ∙ c.loop-row.invariant.0,
  taken_more c.args.rows.now c.loop-row.row-index c.row-item.result (row_with c.fields_of.result c.as_slice.result.now) c.loop-row.writer.1 c.push.new.self.1 c.loop-row-test.true c.row-item.is
      (ap (row_with c.fields_of.result) c.as_slice.ensures ∙ c.fields_of.ensures) c.loop-row.invariant.1 c.in_ok-push.ensures.ok,
)

pub returns-clause-actors : goal.returns-clause-actors
returns-clause-actors c = c.loop-row.invariant.0

pub returns-clause-rows : goal.returns-clause-rows
returns-clause-rows c = at_end c.loop-row.row-index c.args.rows.now c.loop-row.writer.1 (omega (arith, c.loop-row-test.false)) c.loop-row.invariant.1
