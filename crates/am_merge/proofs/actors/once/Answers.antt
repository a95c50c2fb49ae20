use Rattle.std.proofs.Common.{All, map, sym, ap, subst, ◌∙◌}
use Rattle.std.specs.List.{dedup}
use Rattle.std.proofs.lemmas.List.Filters.{dedup_is, All-dedup}
use Rattle.std.proofs.lemmas.List.Sorted.{All-permutation}
use Rattle.std.proofs.lemmas.Result.{IfOk-weaker}
use Rattle.am_types.specs.Same.{same_bytes}
use Rattle.am_fields.specs.Limits.{IsShortActor}
use Rattle.am_merge.proofs.Names.{Lent, bytes_of, same_lent, once, sorted}
use Rattle.am_merge.proofs.actors.once.Goals as goal

pub actors_of-requires : goal.actors_of-requires
actors_of-requires c =
    let came = c.args.all.items in
    let up = c.sort_unstable.new.self.items in
    let left = c.as_slice.ensures.value ∙ dedup_is same_lent up c.dedup.new.self.items c.dedup.ensures.filtered in
    subst (All (λ (a : Lent). IsShortActor a.now)) (sym left)
    (All-dedup same_lent (λ (a : Lent). IsShortActor a.now) up (All-permutation (λ (a : Lent). IsShortActor a.now) came up c.sort_unstable.ensures.permutation c.requires))

pub returns : goal.returns
returns c =
    let came = c.args.all.items in
    let up = c.sort_unstable.new.self.items in
    let left = c.as_slice.ensures.value ∙ dedup_is same_lent up c.dedup.new.self.items c.dedup.ensures.filtered in
    IfOk-weaker c.actors_of.result _ _
    (λ actors e. e
    ∙ ap (map bytes_of) left
    ∙ once up
    ∙ ap (dedup same_bytes) (sorted came up c.sort_unstable.ensures.permutation c.sort_unstable.ensures.sorted))
    c.actors_of.ensures
