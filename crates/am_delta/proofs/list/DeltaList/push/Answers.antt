use Rattle.std.proofs.Common.{◌∷◌, ◌++◌, [], pos, rules, sym, ap, ◌∙◌, subst, FitsSigned, w64}
use Rattle.std.proofs.lemmas.Int.{to_z-of_z}
use Rattle.am_delta.specs.Deltas.{less, or_last, sums_from, KeepsLast}
use Rattle.am_delta.proofs.Sums.{passed}
use Rattle.am_delta.proofs.Writing.{middling_fits}
use Rattle.am_delta.proofs.Listing.{listed_push}
use Rattle.am_delta.proofs.list.DeltaList.push.Goals as goal

pub invariant_of-self-2 : goal.invariant_of-self-2
invariant_of-self-2 c =
    let last = to_z-of_z w64 c.self.inside.last (middling_fits c.self.inside.last c.self.invariant.0) in
    let fits : FitsSigned w64 c.value_or-self-inside.result = search rules in
    let next = passed c.value_or-self-inside.result in
    subst (λ ds. KeepsLast ds next) (sym c.in_ok-push.ensures.items)
    (listed_push c.self.inside.differences.items c.self.inside.last next c.args.value c.difference_to.result c.requires c.self.invariant
    (c.difference_to.ensures ∙ ap (less c.args.value) last)
    (to_z-of_z w64 c.value_or-self-inside.result fits ∙ c.value_or-self-inside.ensures ∙ ap (or_last c.args.value) last)).0

pub returns-clause-ok : goal.returns-clause-ok
returns-clause-ok c =
    let last = to_z-of_z w64 c.self.inside.last (middling_fits c.self.inside.last c.self.invariant.0) in
    let fits : FitsSigned w64 c.value_or-self-inside.result = search rules in
    let next = passed c.value_or-self-inside.result in
    ap (sums_from (pos 0)) c.in_ok-push.ensures.items
    ∙ (listed_push c.self.inside.differences.items c.self.inside.last next c.args.value c.difference_to.result c.requires c.self.invariant
    (c.difference_to.ensures ∙ ap (less c.args.value) last)
    (to_z-of_z w64 c.value_or-self-inside.result fits ∙ c.value_or-self-inside.ensures ∙ ap (or_last c.args.value) last)).1
    ∙ ap (λ v. v ++ c.args.value ∷ []) c.self.view_is
