use Rattle.std.proofs.Common.{◌++◌, map, ap, ◌∙◌}
use Rattle.std.specs.List.{dedup}
use Rattle.std.proofs.lemmas.Result.{IfOk-weaker}
use Rattle.am_types.specs.Order.{bytes_cmp, sorted_by}
use Rattle.am_types.specs.Same.{same_bytes}
use Rattle.am_merge.proofs.Names.{short_all}
use Rattle.am_merge.proofs.actors.actors_once.Goals as goal

pub once-requires : goal.once-requires
once-requires c =
    let named = c.in_ok-push_authors.ensures.names ∙ ap (λ l. l ++ map (λ c. c.now.actor) c.args.added.now) (c.in_ok-names.ensures ∙ c.actors.ensures) in
    short_all c.push_authors.new.names.items c.args.doc.now.actors c.args.added.now named
    (c.spelled_tables_are_sound.ensures c.is_spelled.ensures.bytes c.args.doc.now c.is_spelled.ensures.spelled).short c.in_ok-push_authors.ensures.short

pub returns : goal.returns
returns c =
    let named = c.in_ok-push_authors.ensures.names ∙ ap (λ l. l ++ map (λ c. c.now.actor) c.args.added.now) (c.in_ok-names.ensures ∙ c.actors.ensures) in
    IfOk-weaker c.once.result _ _ (λ actors e. e ∙ ap (λ l. dedup same_bytes (sorted_by bytes_cmp l)) named) c.once.ensures
