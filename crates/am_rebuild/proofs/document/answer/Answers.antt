use Rattle.std.proofs.Common.{vec_items, subst}
use Rattle.am_change.specs.Hashes.{own_hash}
use Rattle.am_rebuild.specs.Judged.{IsJudged}
use Rattle.am_rebuild.specs.Documents.{bare}
use Rattle.am_rebuild.proofs.Documents.{entries_whole, entries_own, entries_come, other, no_history_of}
use Rattle.am_rebuild.proofs.document.answer.Goals as goal

pub returns-in_ok-into_rebuilt-in-Whole-clause-judged : goal.returns-in_ok-into_rebuilt-in-Whole-clause-judged
returns-in_ok-into_rebuilt-in-Whole-clause-judged c = λ t j.
    let whole = subst (IsJudged own_hash (bare t) c.args.gathered) c.in-Whole.is j in
    entries_whole t c.args.gathered (vec_items c.in_ok-into_rebuilt-in-Whole.field-0.entries) c.in_ok-into_rebuilt-in-Whole.ensures.entries whole.0 whole.1

pub returns-in_ok-into_rebuilt-in-Whole-clause-own_hashes : goal.returns-in_ok-into_rebuilt-in-Whole-clause-own_hashes
returns-in_ok-into_rebuilt-in-Whole-clause-own_hashes c = λ t j.
    let whole = subst (IsJudged own_hash (bare t) c.args.gathered) c.in-Whole.is j in
    entries_own t c.args.gathered (vec_items c.in_ok-into_rebuilt-in-Whole.field-0.entries) c.in_ok-into_rebuilt-in-Whole.ensures.entries whole.0

pub returns-in_ok-into_rebuilt-in-Whole-clause-may_come : goal.returns-in_ok-into_rebuilt-in-Whole-clause-may_come
returns-in_ok-into_rebuilt-in-Whole-clause-may_come c = λ t j.
    let whole = subst (IsJudged own_hash (bare t) c.args.gathered) c.in-Whole.is j in
    entries_come t c.args.gathered (vec_items c.in_ok-into_rebuilt-in-Whole.field-0.entries) c.in_ok-into_rebuilt-in-Whole.ensures.entries whole.0

pub returns-in-OtherHeads-clause-judged : goal.returns-in-OtherHeads-clause-judged
returns-in-OtherHeads-clause-judged c = λ t j.
    let found = subst (IsJudged own_hash (bare t) c.args.gathered) c.in-OtherHeads.is j in
    other t c.args.gathered c.in-OtherHeads.hash found.0 found.1

pub returns-in-NoHistory-clause-judged : goal.returns-in-NoHistory-clause-judged
returns-in-NoHistory-clause-judged c = λ t j. no_history_of t (subst (IsJudged own_hash (bare t) c.args.gathered) c.in-NoHistory.is j)
