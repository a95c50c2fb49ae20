use Rattle.std.proofs.Common.{◌∙◌, ap, map, sym, subst}
use Rattle.am_types.specs.Views.{id_of}
use Rattle.am_doccols.specs.Gathered.{AreGiven, rows_given}
use Rattle.am_doccols.proofs.GivenRows.{room_given}
use Rattle.am_doccols.proofs.RowsShort.{not_failed}
use Rattle.am_doccols.proofs.RowsTaken.{rows_taken}
use Rattle.am_doccols.proofs.row_writer.RowWriter.push_all.Goals as goal

pub push_rows-requires-clause-given : goal.push_rows-requires-clause-given
push_rows-requires-clause-given c = subst (λ a. AreGiven a c.args.rows.now (map id_of c.args.succs.now)) (sym (c.lend.ensures ∙ ap (λ p. p.0) c.self.view_is)) c.requires.given

pub push_rows-requires-clause-room : goal.push_rows-requires-clause-room
push_rows-requires-clause-room c = room_given c.self.inside.failed c.self.inside.actors c.self.inside.fields c.self.inside.ids c.self.inside.lengths c.self.inside.succs c.args.self.now.1 c.args.rows.now c.args.succs.now c.if-self.false (ap (λ p. p.1) c.self.view_is) c.self.invariant (c.requires.given).count c.requires.room

pub returns-clause-failed : goal.returns-clause-failed
returns-clause-failed c = not_failed c.self.inside.failed c.self.inside.actors c.self.inside.fields c.self.inside.ids c.self.inside.lengths c.self.inside.succs c.args.self.now.1 _ c.if-self.false (ap (λ p. p.1) c.self.view_is)

pub invariant_of-self-2 : goal.invariant_of-self-2
invariant_of-self-2 c =
    (rows_taken c.self.inside.failed c.self.inside.actors c.lend.result c.self.inside.fields c.self.inside.ids c.self.inside.lengths c.self.inside.succs c.args.self.now (rows_given c.args.rows.now (map id_of c.args.succs.now)) _ _ _ _
    c.if-self.false (ap (λ p. p.0) c.self.view_is) (ap (λ p. p.1) c.self.view_is) c.self.invariant c.lend.ensures (c.requires.given).all c.requires.room c.in_ok-push_rows.ensures).0

pub returns-clause-ok : goal.returns-clause-ok
returns-clause-ok c =
    (rows_taken c.self.inside.failed c.self.inside.actors c.lend.result c.self.inside.fields c.self.inside.ids c.self.inside.lengths c.self.inside.succs c.args.self.now (rows_given c.args.rows.now (map id_of c.args.succs.now)) _ _ _ _
    c.if-self.false (ap (λ p. p.0) c.self.view_is) (ap (λ p. p.1) c.self.view_is) c.self.invariant c.lend.ensures (c.requires.given).all c.requires.room c.in_ok-push_rows.ensures).1
