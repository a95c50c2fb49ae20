use Rattle.std.proofs.Common.{ap}
use Rattle.am_colmeta.specs.Metadata.{metadata, listing, body}
use Rattle.am_doccols.proofs.RowsShort.{columns_short, not_failed}
use Rattle.am_doccols.proofs.RowsWritten.{columns_ascend, rows_finished}
use Rattle.am_doccols.proofs.row_writer.RowWriter.finish.Goals as goal

pub columns_in-requires-clause-fields : goal.columns_in-requires-clause-fields
columns_in-requires-clause-fields c = (columns_short c.self.inside.failed c.self.inside.actors c.self.inside.fields c.self.inside.ids c.self.inside.lengths c.self.inside.succs c.if-self.false c.self.invariant).fields

pub columns_in-requires-clause-ids : goal.columns_in-requires-clause-ids
columns_in-requires-clause-ids c = (columns_short c.self.inside.failed c.self.inside.actors c.self.inside.fields c.self.inside.ids c.self.inside.lengths c.self.inside.succs c.if-self.false c.self.invariant).ids

pub columns_in-requires-clause-lengths : goal.columns_in-requires-clause-lengths
columns_in-requires-clause-lengths c = (columns_short c.self.inside.failed c.self.inside.actors c.self.inside.fields c.self.inside.ids c.self.inside.lengths c.self.inside.succs c.if-self.false c.self.invariant).lengths

pub columns_in-requires-clause-succs : goal.columns_in-requires-clause-succs
columns_in-requires-clause-succs c = (columns_short c.self.inside.failed c.self.inside.actors c.self.inside.fields c.self.inside.ids c.self.inside.lengths c.self.inside.succs c.if-self.false c.self.invariant).succs

pub columns_of-requires : goal.columns_of-requires
columns_of-requires c = columns_ascend c.self.inside.failed c.self.inside.actors c.self.inside.fields c.self.inside.ids c.self.inside.lengths c.self.inside.succs c.in_ok-columns.columns.items c.deref.result.now c.if-self.false c.self.invariant c.in_ok-columns.ensures c.deref.ensures.value

pub returns-clause-failed : goal.returns-clause-failed
returns-clause-failed c = not_failed c.self.inside.failed c.self.inside.actors c.self.inside.fields c.self.inside.ids c.self.inside.lengths c.self.inside.succs c.args.self.1 _ c.if-self.false (ap (λ p. p.1) c.self.view_is)

pub returns-clause-metadata : goal.returns-clause-metadata
returns-clause-metadata c = rows_finished (λ t. t.0) (λ columns. metadata (listing columns)) c.self.inside.failed c.self.inside.actors c.self.inside.fields c.self.inside.ids c.self.inside.lengths c.self.inside.succs c.args.self c.in_ok-columns.columns.items c.deref.result.now c.columns_of.result c.if-self.false (ap (λ p. p.0) c.self.view_is) (ap (λ p. p.1) c.self.view_is) c.self.invariant c.in_ok-columns.ensures c.deref.ensures.value c.columns_of.ensures.metadata

pub returns-clause-body : goal.returns-clause-body
returns-clause-body c = rows_finished (λ t. t.1) body c.self.inside.failed c.self.inside.actors c.self.inside.fields c.self.inside.ids c.self.inside.lengths c.self.inside.succs c.args.self c.in_ok-columns.columns.items c.deref.result.now c.columns_of.result c.if-self.false (ap (λ p. p.0) c.self.view_is) (ap (λ p. p.1) c.self.view_is) c.self.invariant c.in_ok-columns.ensures c.deref.ensures.value c.columns_of.ensures.body
