use Rattle.std.proofs.Common.{◌++◌, sym, ap, ◌∙◌}
use Rattle.am_colmeta.specs.Metadata.{metadata}
use Rattle.am_colmeta.specs.Actors.{actors_bytes}
use Rattle.am_change.specs.Contents.{hashes_bytes}
use Rattle.am_change.proofs.FrontLaws.{behind_is, fields}
use Rattle.am_doc.proofs.FrontLaws.{from_left, to_left, front_same}
use Rattle.am_doc.proofs.front.FrontRef.read.Goals as goal

pub returns-in_err-metas-clause-only : goal.returns-in_err-metas-clause-only
returns-in_err-metas-clause-only c = λ f rest is e.
    let r2 = metadata f.metas ++ (metadata f.rows ++ rest) in
    let r1 = hashes_bytes f.heads ++ r2 in
    let whole = from_left f c.args.bytes.now rest e in
    let actors = fields _ _ _ _ (c.in-Ok.ensures.only f.actors r1 is.actors whole) in
    let behind = behind_is c.args.bytes.now (actors_bytes f.actors) c.split_at.result.1.now r1 c.in-Ok.size actors.1 c.split_at.ensures.back whole in
    let heads = c.in_ok-heads.ensures.only f.heads r2 is.hashes is.heads behind in
    absurd (c.in_err-metas.ensures.only f.metas f.rows rest is.metas is.rows heads.1)

pub returns-clause-only : goal.returns-clause-only
returns-clause-only c = λ f rest is e.
    let r2 = metadata f.metas ++ (metadata f.rows ++ rest) in
    let r1 = hashes_bytes f.heads ++ r2 in
    let whole = from_left f c.args.bytes.now rest e in
    let actors = fields _ _ _ _ (c.in-Ok.ensures.only f.actors r1 is.actors whole) in
    let behind = behind_is c.args.bytes.now (actors_bytes f.actors) c.split_at.result.1.now r1 c.in-Ok.size actors.1 c.split_at.ensures.back whole in
    let heads = c.in_ok-heads.ensures.only f.heads r2 is.hashes is.heads behind in
    let lists = c.in_ok-metas.ensures.only f.metas f.rows rest is.metas is.rows heads.1 in
    (front_same (record { actors = c.in-Ok.actors; heads = c.in_ok-heads.heads; metas = c.in_ok-metas.metas; rows = c.in_ok-metas.rows }) f actors.0 heads.0 lists.0 lists.1, lists.2)

pub returns-clause-some : goal.returns-clause-some
returns-clause-some c =
    let heads = c.in_ok-heads.ensures.some in
    let lists = c.in_ok-metas.ensures.some in (
      record { actors = c.in-Ok.ensures.numbers; hashes = heads.1; heads = heads.2; metas = lists.1; rows = lists.2 },
      to_left (record { actors = c.in-Ok.actors; heads = c.in_ok-heads.heads; metas = c.in_ok-metas.metas; rows = c.in_ok-metas.rows }) c.args.bytes.now c.in_ok-metas.rest.now
          (c.in-Ok.ensures.found.1 ∙ ap (λ b. actors_bytes c.in-Ok.actors ++ b) (sym c.split_at.ensures.back ∙ heads.0 ∙ ap (λ b. hashes_bytes c.in_ok-heads.heads ++ b) lists.0)),
    )
