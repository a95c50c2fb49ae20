use Rattle.std.proofs.Common.{◌∙◌, ap, subst, sym, map, [], ◌∷◌}
use Rattle.am_types.specs.Views.{id_of}
use Rattle.am_doccols.specs.Conditions.{IsRowFor}
use Rattle.am_doccols.specs.Lent.{row_with}
use Rattle.am_doccols.proofs.Gathering.{going, not_none, room_behind_one, took_rows}
use Rattle.am_doccols.proofs.GivenRows.{room_for_one}
use Rattle.am_doccols.proofs.row_gatherer.RowGatherer.push_apart.Goals as goal

pub write_out-requires : goal.write_out-requires
write_out-requires c = going c.self.inside.failed c.self.inside.writer.0 c.self.inside.writer.1 c.self.inside.rows.items c.self.inside.succs.items c.if-self.false c.self.invariant

pub push_lent-requires-clause-row : goal.push_lent-requires-clause-row
push_lent-requires-clause-row c = subst (λ a. IsRowFor a (row_with c.args.row (map id_of c.args.succs.now))) (sym (c.in_ok-write_out.ensures.actors ∙ ap (λ p. p.0) c.self.view_is)) c.requires.row

pub push_lent-requires-clause-room : goal.push_lent-requires-clause-room
push_lent-requires-clause-room c = room_behind_one c.self.inside.failed c.self.inside.writer.1 _ c.args.self.now.1 c.self.inside.rows.items c.self.inside.succs.items (map id_of c.args.succs.now) c.if-self.false (ap (λ p. p.1) c.self.view_is) c.in_ok-write_out.ensures.same c.requires.room

pub returns-clause-failed : goal.returns-clause-failed
returns-clause-failed c = not_none c.self.inside.failed c.self.inside.writer.0 c.self.inside.writer.1 c.args.self.now.1 c.self.inside.rows.items c.self.inside.succs.items _ c.if-self.false c.self.invariant (ap (λ p. p.1) c.self.view_is)

pub returns-clause-actors : goal.returns-clause-actors
returns-clause-actors c = c.in_ok-push_lent.ensures.actors ∙ c.in_ok-write_out.ensures.actors ∙ ap (λ p. p.0) c.self.view_is

pub invariant_of-self-2 : goal.invariant_of-self-2
invariant_of-self-2 c =
    (took_rows c.self.inside.failed _ _ c.self.inside.writer.1 _ _ c.args.self.now.1 c.self.inside.rows.items _ c.self.inside.succs.items _ (row_with c.args.row (map id_of c.args.succs.now) ∷ []) c.if-self.false (ap (λ p. p.1) c.self.view_is) c.in_ok-write_out.ensures.same c.in_ok-write_out.ensures.still c.in_ok-write_out.ensures.none.0 c.in_ok-write_out.ensures.none.1
    (room_for_one _ (row_with c.args.row (map id_of c.args.succs.now)) (room_behind_one c.self.inside.failed c.self.inside.writer.1 _ c.args.self.now.1 c.self.inside.rows.items c.self.inside.succs.items (map id_of c.args.succs.now) c.if-self.false (ap (λ p. p.1) c.self.view_is) c.in_ok-write_out.ensures.same c.requires.room)) c.in_ok-push_lent.ensures.ok).0

pub returns-clause-ok : goal.returns-clause-ok
returns-clause-ok c =
    (took_rows c.self.inside.failed _ c.args.self.now.0 c.self.inside.writer.1 _ _ c.args.self.now.1 c.self.inside.rows.items _ c.self.inside.succs.items _ (row_with c.args.row (map id_of c.args.succs.now) ∷ []) c.if-self.false (ap (λ p. p.1) c.self.view_is) c.in_ok-write_out.ensures.same c.in_ok-write_out.ensures.still c.in_ok-write_out.ensures.none.0 c.in_ok-write_out.ensures.none.1
    (room_for_one _ (row_with c.args.row (map id_of c.args.succs.now)) (room_behind_one c.self.inside.failed c.self.inside.writer.1 _ c.args.self.now.1 c.self.inside.rows.items c.self.inside.succs.items (map id_of c.args.succs.now) c.if-self.false (ap (λ p. p.1) c.self.view_is) c.in_ok-write_out.ensures.same c.requires.room)) c.in_ok-push_lent.ensures.ok).1
