use Rattle.std.proofs.Common.{take, refl, ◌∙◌, arith}
use Rattle.am_colmeta.specs.Metadata.{metadata, listing, body}
use Rattle.am_doccols.specs.Columns.{written_metas}
use Rattle.am_doccols.specs.Conditions.{HasMetaRoom}
use Rattle.am_fields.proofs.WriteLaws.{held}
use Rattle.am_doc.proofs.Rooms.{meta_room, at_end}
use Rattle.am_doc.proofs.Writers.{text_is}
use Rattle.am_doc.proofs.Turns.{taken_more}
use Rattle.am_doc.proofs.columns.metas_text.Goals as goal

pub push-requires-clause-room : goal.push-requires-clause-room
push-requires-clause-room c = held c.loop-meta.writer.1 (take c.loop-meta.meta-index c.args.metas.now) (λ metas. HasMetaRoom metas c.meta-item.result.deps) c.loop-meta.invariant.1
    (meta_room c.args.metas.now c.loop-meta.meta-index c.meta-item.result c.loop-meta-test.true c.meta-item.is c.requires.few c.requires.few_deps)

pub returns-clause-metadata : goal.returns-clause-metadata
returns-clause-metadata c = text_is (λ t. t.0) (λ a metas. metadata (listing (written_metas a metas))) c.loop-meta.writer.0 c.args.actors.now c.loop-meta.writer.1 c.args.metas.now c.finish.result c.loop-meta.invariant.0 (at_end c.loop-meta.meta-index c.args.metas.now c.loop-meta.writer.1 (omega (arith, c.loop-meta-test.false)) c.loop-meta.invariant.1) c.finish.ensures.metadata

pub returns-clause-body : goal.returns-clause-body
returns-clause-body c = text_is (λ t. t.1) (λ a metas. body (written_metas a metas)) c.loop-meta.writer.0 c.args.actors.now c.loop-meta.writer.1 c.args.metas.now c.finish.result c.loop-meta.invariant.0 (at_end c.loop-meta.meta-index c.args.metas.now c.loop-meta.writer.1 (omega (arith, c.loop-meta-test.false)) c.loop-meta.invariant.1) c.finish.ensures.body

pub loop-meta-preserved : goal.loop-meta-preserved
loop-meta-preserved c = (
  c.in_ok-push.ensures.actors ∙ c.loop-meta.invariant.0,
  taken_more c.args.metas.now c.loop-meta.meta-index c.meta-item.result c.meta-item.result c.loop-meta.writer.1 c.push.new.self.1 c.loop-meta-test.true c.meta-item.is refl c.loop-meta.invariant.1 c.in_ok-push.ensures.ok,
)
