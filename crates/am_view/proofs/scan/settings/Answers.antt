use Rattle.std.proofs.Common.{◌≡◌, ◌∙◌, replicate, take, sym, ap, arith}
use Rattle.std.proofs.lemmas.Bool.Decides.{nat_tests}
use Rattle.std.proofs.lemmas.List.{take_at, length-replicate}
use Rattle.am_types.specs.Actions as actions
use Rattle.am_view.proofs.scan.settings.Goals as goal

pub returns-clause-set : goal.returns-clause-set
returns-clause-set c =
    let next = c.next_alike_within-action in
    let same : next.result.0 ≡ actions.set = grind (arith, nat_tests) in
    ap (take next.result.1) (sym c.again.ensures ∙ next.ensures.next) ∙ take_at (replicate next.result.1 next.result.0) _ next.result.1 (length-replicate next.result.1 next.result.0) ∙ ap (λ a. replicate next.result.1 a) same
