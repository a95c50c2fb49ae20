use Rattle.std.proofs.Common.{◌≡◌, ◌-◌, Some, ◌∷◌, map, refl, sym, ap, ◌∙◌, subst}
use Rattle.std.specs.Option.{option_map}
use Rattle.am_runs.specs.Counters.{entries_from, counted}
use Rattle.am_runs.proofs.Counted.{opened-count, opened_repeat, opened_nulls, opened_literal, run_there, counted_none}
use Rattle.am_runs.proofs.number.first_of_run.Goals as goal

pub overflow_sub-left : goal.overflow_sub-left
overflow_sub-left g c = opened-count g.K.Number.end_of _ _ _ c.requires.some c.in-Some.ensures.place c.requires.held

pub literal_number-requires-clause-held : goal.literal_number-requires-clause-held
literal_number-requires-clause-held g c = (opened_literal g.K.Number.end_of _ _ _ c.requires.some c.in-Some.ensures.place c.requires.held c.in-Literal.is).0

pub returns-in-None-clause-some : goal.returns-in-None-clause-some
returns-in-None-clause-some g c = absurd (run_there g.K.Number.end_of _ _ c.requires.some c.in-None.ensures.place c.requires.held)

pub returns-in-None-clause-held : goal.returns-in-None-clause-held
returns-in-None-clause-held g c = absurd (run_there g.K.Number.end_of _ _ c.requires.some c.in-None.ensures.place c.requires.held)

pub returns-in-Repeat-clause-held : goal.returns-in-Repeat-clause-held
returns-in-Repeat-clause-held g c = (opened_repeat g.K.Number.end_of g.K.Number.value_of _ _ _ _ c.requires.some c.in-Some.ensures.place c.requires.held c.in-Repeat.is refl).0

pub returns-in-Repeat-clause-next : goal.returns-in-Repeat-clause-next
returns-in-Repeat-clause-next g c =
    let at = c.args.at.now in
    let run = c.in-Some.run' in
    subst (λ x. map (option_map g.K.Number.value_of) (entries_from g.K.Number.end_of 0 at.left at.rest.now) ≡ x ∷ counted g.K.Number.value_of (run.count - 1) x (entries_from g.K.Number.end_of 0 (at.left - run.count) run.rest.now))
    (sym (c.in-Some.ensures.value c.in-Repeat.is))
    (opened_repeat g.K.Number.end_of g.K.Number.value_of _ _ _ _ c.requires.some c.in-Some.ensures.place c.requires.held c.in-Repeat.is refl).1

pub returns-in-Nulls-clause-held : goal.returns-in-Nulls-clause-held
returns-in-Nulls-clause-held g c = (opened_nulls g.K.Number.end_of g.K.Number.value_of _ _ _ c.requires.some c.in-Some.ensures.place c.requires.held c.in-Nulls.is).0

pub returns-in-Nulls-clause-next : goal.returns-in-Nulls-clause-next
returns-in-Nulls-clause-next g c = (opened_nulls g.K.Number.end_of g.K.Number.value_of _ _ _ c.requires.some c.in-Some.ensures.place c.requires.held c.in-Nulls.is).1

pub returns-in-Some-literal_number-clause-next : goal.returns-in-Some-literal_number-clause-next
returns-in-Some-literal_number-clause-next g c =
    let new = c.literal_number.new.at in
    ap (map (option_map g.K.Number.value_of)) (opened_literal g.K.Number.end_of _ _ _ c.requires.some c.in-Some.ensures.place c.requires.held c.in-Literal.is).1
    ∙ c.in-Some-literal_number.ensures.next
    ∙ ap (λ l. Some c.in-Some-literal_number.n ∷ l) (sym (counted_none g.K.Number.value_of new.copies c.args.value.now (entries_from g.K.Number.end_of new.literal new.left new.rest.now) c.literal_number.ensures.copies))
