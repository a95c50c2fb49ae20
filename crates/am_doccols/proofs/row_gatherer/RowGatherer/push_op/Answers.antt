use Rattle.std.proofs.Common.{◌∙◌, ap, length, refl}
use Rattle.am_doccols.proofs.Gathering.{going, not_none, pushed_lent}
use Rattle.am_doccols.proofs.row_gatherer.RowGatherer.push_op.Goals as goal

pub make_room-requires : goal.make_room-requires
make_room-requires c = going c.self.inside.failed c.self.inside.writer.0 c.self.inside.writer.1 c.self.inside.rows.items c.self.inside.succs.items c.if-self.false c.self.invariant

pub returns-clause-failed : goal.returns-clause-failed
returns-clause-failed c = not_none c.self.inside.failed c.self.inside.writer.0 c.self.inside.writer.1 c.args.self.now.1 c.self.inside.rows.items c.self.inside.succs.items _ c.if-self.false c.self.invariant (ap (λ p. p.1) c.self.view_is)

pub returns-clause-actors : goal.returns-clause-actors
returns-clause-actors c = c.in_ok-make_room.ensures.actors ∙ ap (λ p. p.0) c.self.view_is

pub invariant_of-self-2 : goal.invariant_of-self-2
invariant_of-self-2 c =
    (pushed_lent c.self.inside.failed c.args.self.now.0 _ c.self.inside.writer.1 _ c.args.self.now.1 c.self.inside.rows.items _ _ c.self.inside.succs.items _ _ c.args.succs.now (record { id = c.args.id; op = c.args.op; succs = length c.args.succs.now })
    c.if-self.false (ap (λ p. p.1) c.self.view_is) c.in_ok-make_room.ensures.still (c.in_ok-make_room.ensures.actors ∙ ap (λ p. p.0) c.self.view_is) c.in_ok-make_room.ensures.same c.in_ok-push.ensures.items c.in_ok-extend_from_slice.ensures.items refl c.requires.row c.requires.room).0

pub returns-clause-ok : goal.returns-clause-ok
returns-clause-ok c =
    (pushed_lent c.self.inside.failed c.args.self.now.0 _ c.self.inside.writer.1 _ c.args.self.now.1 c.self.inside.rows.items _ _ c.self.inside.succs.items _ _ c.args.succs.now (record { id = c.args.id; op = c.args.op; succs = length c.args.succs.now })
    c.if-self.false (ap (λ p. p.1) c.self.view_is) c.in_ok-make_room.ensures.still (c.in_ok-make_room.ensures.actors ∙ ap (λ p. p.0) c.self.view_is) c.in_ok-make_room.ensures.same c.in_ok-push.ensures.items c.in_ok-extend_from_slice.ensures.items refl c.requires.row c.requires.room).1
