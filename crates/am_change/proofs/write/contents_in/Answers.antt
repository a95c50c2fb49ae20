use Rattle.std.proofs.Common.{ap, ◌∙◌}
use Rattle.am_colmeta.specs.Metadata.{metadata, listing, body}
use Rattle.am_colmeta.specs.Actors.{actors_bytes}
use Rattle.am_opcols.specs.Others.{others}
use Rattle.am_opcols.specs.Writing.{written_columns}
use Rattle.am_change.specs.Contents.{contents}
use Rattle.am_change.proofs.Joined.{five}
use Rattle.am_change.proofs.write.contents_in.Goals as goal

pub returns : goal.returns
unfolding contents
returns g c =
    let actor = c.actor.ensures in
    let ops = c.ops.ensures in
    five c.in_ok-out.out.items _ _ _ _ _ _ _ _ _ _ _ _ _ _ c.in_ok-out.ensures.items c.in_ok-push_head.ensures c.in_ok-push_actors.ensures c.in_ok-extend_from_slice.ensures.items c.in_ok-extend_from_slice-2.ensures.items c.in_ok-extend_from_slice-3.ensures.items
    (ap actors_bytes (c.as_slice.ensures ∙ c.in_ok-text.ensures.others ∙ (λ j. others (actor j) (ops j))))
    (c.as_slice-2.ensures ∙ c.in_ok-text.ensures.metadata ∙ (λ j. metadata (listing (written_columns (actor j) (ops j)))))
    (c.as_slice-3.ensures ∙ c.in_ok-text.ensures.body ∙ (λ j. body (written_columns (actor j) (ops j))))
    c.extra.ensures
