use Rattle.std.proofs.Common.{Option, option_map, Bor, ap}
use Rattle.am_types.specs.declared.Change.{Change}
use Rattle.am_doccols.specs.Conditions.{IsMetaFor}
use Rattle.am_doccols.specs.Metas.{meta_of}
use Rattle.am_merge.specs.ChangeRows.{row_in, moved_by}
use Rattle.am_merge.proofs.Weaving.{of_change, of_next, first_for, first_room}
use Rattle.am_merge.proofs.metas.push_turn.Goals as goal

abbrev lent : Option (Bor Change) → Option Change
lent t = option_map (λ (c : Bor Change). c.now) t

pub push_new-requires-clause-row : goal.push_new-requires-clause-row
push_new-requires-clause-row c =
    let one = (of_change (row_in c.args.places.now) (moved_by c.args.old_places.now) (lent c.args.turn) c.args.rest.now c.in-Some.change.now (ap lent c.in-Some.is)).0 in
    first_for _ (row_in c.args.places.now c.in-Some.change.now) one (IsMetaFor c.args.writer.now.0) c.requires.rows

pub push_new-requires-clause-room : goal.push_new-requires-clause-room
push_new-requires-clause-room c =
    let one = (of_change (row_in c.args.places.now) (moved_by c.args.old_places.now) (lent c.args.turn) c.args.rest.now c.in-Some.change.now (ap lent c.in-Some.is)).0 in
    first_room _ (row_in c.args.places.now c.in-Some.change.now) one c.args.writer.now.1 c.requires.room

pub push_old-requires-clause-row : goal.push_old-requires-clause-row
push_old-requires-clause-row c =
    let one = (of_next (row_in c.args.places.now) (moved_by c.args.old_places.now) (lent c.args.turn) c.args.rest.now (meta_of c.in-Some-next.row) c.next.new.self (ap lent c.in_default.is) c.in-Some-next.ensures.next).0 in
    first_for _ (moved_by c.args.old_places.now (meta_of c.in-Some-next.row)) one (IsMetaFor c.args.writer.now.0) c.requires.rows

pub push_old-requires-clause-room : goal.push_old-requires-clause-room
push_old-requires-clause-room c =
    let one = (of_next (row_in c.args.places.now) (moved_by c.args.old_places.now) (lent c.args.turn) c.args.rest.now (meta_of c.in-Some-next.row) c.next.new.self (ap lent c.in_default.is) c.in-Some-next.ensures.next).0 in
    first_room _ (moved_by c.args.old_places.now (meta_of c.in-Some-next.row)) one c.args.writer.now.1 c.requires.room
