use Rattle.std.proofs.Common.{◌≤◌, List, length, find, sym, ap, ◌∙◌, arith}
use Rattle.std.proofs.lemmas.Bool.{not-false}
use Rattle.std.proofs.lemmas.List.{length-map}
use Rattle.am_types.specs.Members.{Member}
use Rattle.am_types.specs.Verdicts.{has_seq, verdict}
use Rattle.am_history_tests.specs.DeliverySamples.{bare, isnt_bare}
use Rattle.am_delivery.specs.Waiting.{member_of, members_of}
use Rattle.am_history_tests.proofs.SampleSets.{fits, clashes, none_from, none_mapped}
use Rattle.am_history_tests.proofs.sample_set.SampleSetClosed.judge.Goals as goal

pub returns-in-Some : goal.returns-in-Some
returns-in-Some c =
    let change = c.args.change.now in
    sym (clashes (members_of c.as_slice-held.result.now) change c.in-Some.hash (sym c.in-Some.ensures))
    ∙ ap (λ es. verdict (members_of es) change) c.as_slice-held.ensures.value

pub returns-in-None : goal.returns-in-None
returns-in-None c =
    let change = c.args.change.now in
    let es = c.as_slice-held.result.now in
    let C : List Member = members_of es in
    let long = length-map es member_of in
    let few : length C ≤ 1000 = omega (arith, c.if-held-gt1000.false) in
    sym (fits C change few (not-false (bare change) (sym c.is_other.ensures ∙ c.if-is_other.false)) (none_from (find isnt_bare C) (sym c.has_other.ensures ∙ c.if-has_other.false)) (none_mapped (find (has_seq change.actor change.seq) C) c.in-None.ensures))
    ∙ ap (λ es. verdict (members_of es) change) c.as_slice-held.ensures.value
