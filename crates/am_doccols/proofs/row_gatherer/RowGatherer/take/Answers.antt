use Rattle.std.proofs.Common.{◌∙◌, ap, subst, sym, take}
use Rattle.std.specs.List.{AllByRecursion}
use Rattle.am_doccols.specs.Conditions.{IsRowFor}
use Rattle.am_doccols.proofs.Gathering.{going, not_none, room_behind, took_rows}
use Rattle.am_doccols.proofs.row_gatherer.RowGatherer.take.Goals as goal

pub write_out-requires : goal.write_out-requires
write_out-requires c = going c.self.inside.failed c.self.inside.writer.0 c.self.inside.writer.1 c.self.inside.rows.items c.self.inside.succs.items c.if-self.false c.self.invariant

pub take-requires-clause-rows : goal.take-requires-clause-rows
take-requires-clause-rows c = subst (λ a. AllByRecursion (IsRowFor a) (take c.args.n c.args.from.now)) (sym (c.in_ok-write_out.ensures.actors ∙ ap (λ p. p.0) c.self.view_is)) c.requires.rows

pub take-requires-clause-room : goal.take-requires-clause-room
take-requires-clause-room c = room_behind c.self.inside.failed c.self.inside.writer.1 _ c.args.self.now.1 c.self.inside.rows.items c.self.inside.succs.items (take c.args.n c.args.from.now) c.if-self.false (ap (λ p. p.1) c.self.view_is) c.in_ok-write_out.ensures.same c.requires.room

pub returns-clause-failed : goal.returns-clause-failed
returns-clause-failed c = not_none c.self.inside.failed c.self.inside.writer.0 c.self.inside.writer.1 c.args.self.now.1 c.self.inside.rows.items c.self.inside.succs.items _ c.if-self.false c.self.invariant (ap (λ p. p.1) c.self.view_is)

pub returns-clause-actors : goal.returns-clause-actors
returns-clause-actors c = c.in_ok-take.ensures.actors ∙ c.in_ok-write_out.ensures.actors ∙ ap (λ p. p.0) c.self.view_is

pub invariant_of-self-2 : goal.invariant_of-self-2
invariant_of-self-2 c =
    (took_rows c.self.inside.failed _ _ c.self.inside.writer.1 _ _ c.args.self.now.1 c.self.inside.rows.items _ c.self.inside.succs.items _ (take c.args.n c.args.from.now) c.if-self.false (ap (λ p. p.1) c.self.view_is) c.in_ok-write_out.ensures.same c.in_ok-write_out.ensures.still c.in_ok-write_out.ensures.none.0 c.in_ok-write_out.ensures.none.1
    (room_behind c.self.inside.failed c.self.inside.writer.1 _ c.args.self.now.1 c.self.inside.rows.items c.self.inside.succs.items (take c.args.n c.args.from.now) c.if-self.false (ap (λ p. p.1) c.self.view_is) c.in_ok-write_out.ensures.same c.requires.room) c.in_ok-take.ensures.ok).0

pub returns-clause-ok : goal.returns-clause-ok
returns-clause-ok c =
    (took_rows c.self.inside.failed _ c.args.self.now.0 c.self.inside.writer.1 _ _ c.args.self.now.1 c.self.inside.rows.items _ c.self.inside.succs.items _ (take c.args.n c.args.from.now) c.if-self.false (ap (λ p. p.1) c.self.view_is) c.in_ok-write_out.ensures.same c.in_ok-write_out.ensures.still c.in_ok-write_out.ensures.none.0 c.in_ok-write_out.ensures.none.1
    (room_behind c.self.inside.failed c.self.inside.writer.1 _ c.args.self.now.1 c.self.inside.rows.items c.self.inside.succs.items (take c.args.n c.args.from.now) c.if-self.false (ap (λ p. p.1) c.self.view_is) c.in_ok-write_out.ensures.same c.requires.room) c.in_ok-take.ensures.ok).1
