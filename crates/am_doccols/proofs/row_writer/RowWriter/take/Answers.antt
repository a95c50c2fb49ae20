use Rattle.std.proofs.Common.{take, ap}
use Rattle.am_doccols.proofs.RowsTaken.{rows_taken, writers_open}
use Rattle.am_doccols.proofs.row_writer.RowWriter.take.Goals as goal

pub copy_to-requires-clause-room : goal.copy_to-requires-clause-room
copy_to-requires-clause-room c = writers_open c.self.inside.failed c.self.inside.actors c.self.inside.fields c.self.inside.ids c.self.inside.lengths c.self.inside.succs c.args.self.now.1 c.args.n c.args.from.now c.if-self.false (ap (λ p. p.1) c.self.view_is) c.self.invariant c.requires.enough c.requires.room

pub invariant_of-self-2 : goal.invariant_of-self-2
invariant_of-self-2 c =
    (rows_taken c.self.inside.failed c.self.inside.actors c.lend.result c.self.inside.fields c.self.inside.ids c.self.inside.lengths c.self.inside.succs c.args.self.now (take c.args.n c.args.from.now) _ _ _ _
    c.if-self.false (ap (λ p. p.0) c.self.view_is) (ap (λ p. p.1) c.self.view_is) c.self.invariant c.lend.ensures c.requires.rows c.requires.room c.in_ok-copy_to.ensures.rows).0

pub returns-clause-ok : goal.returns-clause-ok
returns-clause-ok c =
    (rows_taken c.self.inside.failed c.self.inside.actors c.lend.result c.self.inside.fields c.self.inside.ids c.self.inside.lengths c.self.inside.succs c.args.self.now (take c.args.n c.args.from.now) _ _ _ _
    c.if-self.false (ap (λ p. p.0) c.self.view_is) (ap (λ p. p.1) c.self.view_is) c.self.invariant c.lend.ensures c.requires.rows c.requires.room c.in_ok-copy_to.ensures.rows).1
