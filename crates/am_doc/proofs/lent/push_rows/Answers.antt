use Rattle.std.proofs.Common.{◌<◌, ◌≤◌, ◌∙◌, List, ℕ, length, sym, subst, take, refl, arith}
use Rattle.am_doccols.specs.Conditions.{HasRoom, IsRowFor}
use Rattle.am_fields.proofs.WriteLaws.{held}
use Rattle.am_places.specs.Numbered.{ids_of}
use Rattle.am_rows.specs.Lent.{lent_row}
use Rattle.am_doc.proofs.Rooms.{all_at, row_room, pushed_next, at_end}
use Rattle.am_doc.proofs.lent.push_rows.Goals as goal

pub loop-i-init : goal.loop-i-init
loop-i-init c = (refl, c.requires.empty)

pub push_row-requires-clause-row : goal.push_row-requires-clause-row
push_row-requires-clause-row c =
    let low : c.loop-i.i < length c.args.rows.now = omega (arith, c.len-i-end.ensures, c.loop-i-test.true) in
    subst (λ (a : List (List ℕ)). IsRowFor a (lent_row c.get.result)) (sym c.loop-i.invariant.0)
    (all_at (IsRowFor c.args.writer.now.0) c.args.rows.now c.loop-i.i (lent_row c.get.result) c.requires.all low c.get.ensures)

pub push_row-requires-clause-room : goal.push_row-requires-clause-room
push_row-requires-clause-room c =
    let low : c.loop-i.i < length c.args.rows.now = omega (arith, c.len-i-end.ensures, c.loop-i-test.true) in
    held c.loop-i.writer.1 (take c.loop-i.i c.args.rows.now) (λ rows. HasRoom rows (ids_of c.get.result.succs.now)) c.loop-i.invariant.1
    (row_room c.args.rows.now c.loop-i.i (lent_row c.get.result) low c.get.ensures c.requires.few c.requires.few_succs)

pub loop-i-preserved : goal.loop-i-preserved
loop-i-preserved c =
    let low : c.loop-i.i < length c.args.rows.now = omega (arith, c.len-i-end.ensures, c.loop-i-test.true) in (
      c.push_row.ensures.actors ∙ c.loop-i.invariant.0,
      pushed_next c.args.rows.now c.loop-i.i (lent_row c.get.result) (lent_row c.get.result) c.loop-i.writer.1 c.push_row.new.writer.1 low c.get.ensures refl c.loop-i.invariant.1 c.in_ok-push_row.ensures.ok,
    )

pub returns-clause-actors : goal.returns-clause-actors
returns-clause-actors c = c.loop-i.invariant.0

pub returns-clause-rows : goal.returns-clause-rows
returns-clause-rows c =
    let all : length c.args.rows.now ≤ c.loop-i.i = omega (arith, c.len-i-end.ensures, c.loop-i-test.false) in
    at_end c.loop-i.i c.args.rows.now c.loop-i.writer.1 all c.loop-i.invariant.1
