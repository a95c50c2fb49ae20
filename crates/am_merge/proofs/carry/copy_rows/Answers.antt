use Rattle.std.proofs.Common.{◌∙◌, ap, drop, sym}
use Rattle.am_merge.proofs.Carried.{as_written, carried_copies, copies_enough, copies_fit, copies_room, taking_copies}
use Rattle.am_merge.proofs.carry.copy_rows.Goals as goal

pub take-requires-clause-enough : goal.take-requires-clause-enough
take-requires-clause-enough c = copies_enough c.args.writer.now.0 c.args.writer.now.1 c.args.n c.args.from.now c.requires

pub take-requires-clause-rows : goal.take-requires-clause-rows
take-requires-clause-rows c = copies_fit c.args.writer.now.0 c.args.writer.now.1 c.args.n c.args.from.now c.requires

pub take-requires-clause-room : goal.take-requires-clause-room
take-requires-clause-room c = copies_room c.args.writer.now.0 c.args.writer.now.1 c.args.n c.args.from.now c.requires

pub returns-clause-ok : goal.returns-clause-ok
returns-clause-ok c =
    as_written c.args.writer.now.1 _ _ _
    (sym (carried_copies c.args.n c.args.from.now (copies_enough c.args.writer.now.0 c.args.writer.now.1 c.args.n c.args.from.now c.requires)))
    c.in_ok-take.ensures.ok

pub returns-clause-behind : goal.returns-clause-behind
returns-clause-behind c = c.in_ok-take.ensures.behind ∙ ap (λ n. drop n c.args.from.now) (sym (taking_copies c.args.n))
