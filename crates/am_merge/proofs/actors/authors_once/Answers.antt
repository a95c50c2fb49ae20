use Rattle.std.proofs.Common.{rules, ◌≡◌, List, [], ◌++◌, map, ap, ◌∙◌}
use Rattle.std.specs.List.{dedup}
use Rattle.std.proofs.lemmas.List.Elements.{All-from_recursion}
use Rattle.std.proofs.lemmas.Result.{IfOk-weaker}
use Rattle.am_types.specs.Order.{bytes_cmp, sorted_by}
use Rattle.am_types.specs.Same.{same_bytes}
use Rattle.am_fields.specs.Limits.{IsShortActor}
use Rattle.am_merge.proofs.Names.{Lent, bytes_of, short_all}
use Rattle.am_merge.proofs.actors.authors_once.Goals as goal

pub once-requires : goal.once-requires
once-requires c =
    let empty : c.new-names.result.items ≡ [] = search rules in
    let named = c.in_ok-push_authors.ensures.names ∙ ap (λ (l : List Lent). map bytes_of l ++ map (λ c. c.now.actor) c.args.changes.now) empty in
    short_all c.push_authors.new.names.items [] c.args.changes.now named (All-from_recursion IsShortActor [] tt) c.in_ok-push_authors.ensures.short

pub returns : goal.returns
returns c =
    let empty : c.new-names.result.items ≡ [] = search rules in
    let named = c.in_ok-push_authors.ensures.names ∙ ap (λ (l : List Lent). map bytes_of l ++ map (λ c. c.now.actor) c.args.changes.now) empty in
    IfOk-weaker c.once.result _ _ (λ actors e. e ∙ ap (λ l. dedup same_bytes (sorted_by bytes_cmp l)) named) c.once.ensures
