use Rattle.std.proofs.Common.{refl, sym, ap, ◌∙◌, subst, pos, length}
use Rattle.am_runs.proofs.Spelled.{one_signed}
use Rattle.am_delta.specs.Deltas.{AllFit, sums_from}
use Rattle.am_delta.proofs.Sums.{length-sums}
use Rattle.am_delta.proofs.cursor.DeltaCursor.spelled.Goals as goal

pub spelled-differences-requires : goal.spelled-differences-requires
spelled-differences-requires c =
    let j = c.requires.1 in
    (j.0, j.1, sym (length-sums (pos 0) j.0) ∙ sym (ap length j.2) ∙ c.requires.2)

pub invariant_of-result : goal.invariant_of-result
invariant_of-result c =
    let j = c.requires.1 in
    let same = one_signed _ _ _ j.1 c.spelled-differences.ensures.spelled in
    subst AllFit (j.2 ∙ ap (sums_from (pos 0)) same) c.requires.3

pub returns-clause-spelled : goal.returns-clause-spelled
returns-clause-spelled c = (c.spelled-differences.result, c.spelled-differences.ensures.spelled, refl)

pub returns-clause-count : goal.returns-clause-count
returns-clause-count c = length-sums (pos 0) c.spelled-differences.result ∙ c.spelled-differences.ensures.count
