use Rattle.std.proofs.Common.{◌∙◌, map, ap, sym}
use Rattle.std.proofs.lemmas.Result.{IfOk-weaker}
use Rattle.am_places.proofs.Stable.{sorted_by-map}
use Rattle.am_merge.specs.Mentions.{mentioned}
use Rattle.am_merge.specs.Naming.{named_cmp}
use Rattle.am_merge.proofs.HasCounter.{by_mention_first}
use Rattle.am_merge.proofs.mentions.table_of.Goals as goal

pub sort_by_counter-requires : goal.sort_by_counter-requires
sort_by_counter-requires c = by_mention_first

pub returns : goal.returns
returns c =
    IfOk-weaker c.namings_of.result _ _
    (λ all h. h ∙ ap (map mentioned) c.as_slice.ensures.value ∙ ap (map mentioned) c.in_ok-sort_by_counter.ensures ∙ sym (sorted_by-map named_cmp mentioned c.args.mentions.items))
    c.namings_of.ensures
