use Rattle.std.proofs.Common.{◌∙◌, rules}
use Rattle.am_colmeta.proofs.Collecting.{finished, if_some}
use Rattle.am_colmeta.proofs.writer.ColumnWriter.finish.Goals as goal

pub returns-clause-metadata : goal.returns-clause-metadata
returns-clause-metadata c = if_some c.args.self (λ columns f. c.from.ensures ∙ f.metadata_are) (finished _ c.self.inside.columns.items c.deref.result.now c.self.inside.body.items _ c.push_metadata.new.out.items c.args.self c.if-self.false c.self.view_is c.self.invariant (search rules) c.in_ok-push_metadata.ensures.few (search rules) c.in_ok-push_metadata.ensures.written)

pub returns-clause-body : goal.returns-clause-body
returns-clause-body c = if_some c.args.self (λ columns f. c.from-2.ensures ∙ f.body_are) (finished _ c.self.inside.columns.items c.deref.result.now c.self.inside.body.items _ c.push_metadata.new.out.items c.args.self c.if-self.false c.self.view_is c.self.invariant (search rules) c.in_ok-push_metadata.ensures.few (search rules) c.in_ok-push_metadata.ensures.written)

pub returns-clause-ascend : goal.returns-clause-ascend
returns-clause-ascend c = if_some c.args.self (λ columns f. f.ascending) (finished _ c.self.inside.columns.items c.deref.result.now c.self.inside.body.items _ c.push_metadata.new.out.items c.args.self c.if-self.false c.self.view_is c.self.invariant (search rules) c.in_ok-push_metadata.ensures.few (search rules) c.in_ok-push_metadata.ensures.written)

pub returns-clause-listed : goal.returns-clause-listed
returns-clause-listed c = if_some c.args.self (λ columns f. f.listed) (finished _ c.self.inside.columns.items c.deref.result.now c.self.inside.body.items _ c.push_metadata.new.out.items c.args.self c.if-self.false c.self.view_is c.self.invariant (search rules) c.in_ok-push_metadata.ensures.few (search rules) c.in_ok-push_metadata.ensures.written)
