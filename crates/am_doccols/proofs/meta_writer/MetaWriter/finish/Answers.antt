use Rattle.std.proofs.Common.{ap}
use Rattle.am_colmeta.specs.Metadata.{metadata, listing, body}
use Rattle.am_doccols.proofs.MetasShort.{columns_short, not_failed}
use Rattle.am_doccols.proofs.MetasWritten.{columns_ascend, metas_finished}
use Rattle.am_doccols.proofs.meta_writer.MetaWriter.finish.Goals as goal

pub meta_columns_in-requires-clause-actor : goal.meta_columns_in-requires-clause-actor
meta_columns_in-requires-clause-actor c = (columns_short c.self.inside.failed c.self.inside.actors c.self.inside.columns c.if-self.false c.self.invariant).actor

pub meta_columns_in-requires-clause-message : goal.meta_columns_in-requires-clause-message
meta_columns_in-requires-clause-message c = (columns_short c.self.inside.failed c.self.inside.actors c.self.inside.columns c.if-self.false c.self.invariant).message

pub meta_columns_in-requires-clause-lengths : goal.meta_columns_in-requires-clause-lengths
meta_columns_in-requires-clause-lengths c = (columns_short c.self.inside.failed c.self.inside.actors c.self.inside.columns c.if-self.false c.self.invariant).lengths

pub columns_of-requires : goal.columns_of-requires
columns_of-requires c = columns_ascend c.self.inside.failed c.self.inside.actors c.self.inside.columns c.in_ok-columns.columns.items c.deref.result.now c.if-self.false c.self.invariant c.in_ok-columns.ensures c.deref.ensures.value

pub returns-clause-failed : goal.returns-clause-failed
returns-clause-failed c = not_failed c.self.inside.failed c.self.inside.actors c.self.inside.columns c.args.self.1 _ c.if-self.false (ap (λ p. p.1) c.self.view_is)

pub returns-clause-metadata : goal.returns-clause-metadata
returns-clause-metadata c = metas_finished (λ t. t.0) (λ columns. metadata (listing columns)) c.self.inside.failed c.self.inside.actors c.self.inside.columns c.args.self c.in_ok-columns.columns.items c.deref.result.now c.columns_of.result c.if-self.false (ap (λ p. p.0) c.self.view_is) (ap (λ p. p.1) c.self.view_is) c.self.invariant c.in_ok-columns.ensures c.deref.ensures.value c.columns_of.ensures.metadata

pub returns-clause-body : goal.returns-clause-body
returns-clause-body c = metas_finished (λ t. t.1) body c.self.inside.failed c.self.inside.actors c.self.inside.columns c.args.self c.in_ok-columns.columns.items c.deref.result.now c.columns_of.result c.if-self.false (ap (λ p. p.0) c.self.view_is) (ap (λ p. p.1) c.self.view_is) c.self.invariant c.in_ok-columns.ensures c.deref.ensures.value c.columns_of.ensures.body
