use Rattle.am_doccols.specs.Rows.{row_of}
use Rattle.am_merge.specs.Carrying.{ids_of}
use Rattle.am_merge.proofs.Carried.{as_written, none_to_take, one_behind, one_taken, taken_is}
use Rattle.am_merge.proofs.carry.extend_row.Goals as goal

pub push_extended-requires-clause-row : goal.push_extended-requires-clause-row
push_extended-requires-clause-row c = (one_taken c.args.writer.now.0 c.args.writer.now.1 (ids_of c.args.added.now) c.args.from.now (row_of c.in-Some.row) c.next.new.self c.in-Some.ensures.next c.requires).0

pub push_extended-requires-clause-room : goal.push_extended-requires-clause-room
push_extended-requires-clause-room c = (one_taken c.args.writer.now.0 c.args.writer.now.1 (ids_of c.args.added.now) c.args.from.now (row_of c.in-Some.row) c.next.new.self c.in-Some.ensures.next c.requires).1

pub returns-in_ok-push_extended-in-Some-clause-ok : goal.returns-in_ok-push_extended-in-Some-clause-ok
returns-in_ok-push_extended-in-Some-clause-ok c =
    as_written c.args.writer.now.1 _ _ _ (taken_is (ids_of c.args.added.now) c.args.from.now (row_of c.in-Some.row) c.next.new.self c.in-Some.ensures.next) c.in_ok-push_extended-in-Some.ensures.ok

pub returns-in_ok-push_extended-in-Some-clause-behind : goal.returns-in_ok-push_extended-in-Some-clause-behind
returns-in_ok-push_extended-in-Some-clause-behind c = one_behind c.args.from.now (row_of c.in-Some.row) c.next.new.self c.in-Some.ensures.next

pub returns-in-None-clause-ok : goal.returns-in-None-clause-ok
returns-in-None-clause-ok c = absurd (none_to_take c.args.writer.now.0 c.args.writer.now.1 (ids_of c.args.added.now) c.args.from.now c.in-None.ensures.end.0 c.requires)

pub returns-in-None-clause-behind : goal.returns-in-None-clause-behind
returns-in-None-clause-behind c = absurd (none_to_take c.args.writer.now.0 c.args.writer.now.1 (ids_of c.args.added.now) c.args.from.now c.in-None.ensures.end.0 c.requires)
