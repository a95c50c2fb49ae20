use Rattle.std.proofs.Common.{◌∙◌, ap}
use Rattle.am_colmeta.specs.Metadata.{metadata, listing, body}
use Rattle.am_fields.proofs.WriteLaws.{OnOk-then}
use Rattle.am_doccols.proofs.Gathering.{gathered_text, going, not_none, shown_is}
use Rattle.am_doccols.proofs.row_gatherer.RowGatherer.finish.Goals as goal

pub write_out-written-requires : goal.write_out-written-requires
write_out-written-requires c = going c.self.inside.failed c.self.inside.writer.0 c.self.inside.writer.1 c.self.inside.rows.items c.self.inside.succs.items c.if-self.false c.self.invariant

pub returns-clause-failed : goal.returns-clause-failed
returns-clause-failed c = not_none c.self.inside.failed c.self.inside.writer.0 c.self.inside.writer.1 c.args.self.1 c.self.inside.rows.items c.self.inside.succs.items _ c.if-self.false c.self.invariant (ap (λ p. p.1) c.self.view_is)

pub returns-clause-metadata : goal.returns-clause-metadata
returns-clause-metadata c =
    gathered_text (λ t. t.0) (λ columns. metadata (listing columns)) c.write_out-written.result c.finish.result c.write_out-written.new.writer.0 c.args.self.0 c.write_out-written.new.writer.1 c.args.self.1
    (OnOk-then c.write_out-written.result _ _ (λ e. e ∙ shown_is c.self.inside.failed c.self.inside.writer.1 c.args.self.1 c.self.inside.rows.items c.self.inside.succs.items c.if-self.false (ap (λ p. p.1) c.self.view_is)) c.write_out-written.ensures.same)
    c.write_out-written.ensures.err (c.write_out-written.ensures.actors ∙ ap (λ p. p.0) c.self.view_is) c.finish.ensures.failed c.finish.ensures.metadata

pub returns-clause-body : goal.returns-clause-body
returns-clause-body c =
    gathered_text (λ t. t.1) body c.write_out-written.result c.finish.result c.write_out-written.new.writer.0 c.args.self.0 c.write_out-written.new.writer.1 c.args.self.1
    (OnOk-then c.write_out-written.result _ _ (λ e. e ∙ shown_is c.self.inside.failed c.self.inside.writer.1 c.args.self.1 c.self.inside.rows.items c.self.inside.succs.items c.if-self.false (ap (λ p. p.1) c.self.view_is)) c.write_out-written.ensures.same)
    c.write_out-written.ensures.err (c.write_out-written.ensures.actors ∙ ap (λ p. p.0) c.self.view_is) c.finish.ensures.failed c.finish.ensures.body
