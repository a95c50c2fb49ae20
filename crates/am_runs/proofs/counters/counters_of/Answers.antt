use Rattle.std.proofs.Common.{◌∙◌, None, arith, subst}
use Rattle.am_runs.specs.Typed.{AllItems}
use Rattle.am_runs.proofs.Counted.{count-le, shows_repeat, shows_nulls, shows_literal}
use Rattle.am_runs.proofs.counters.counters_of.Goals.{in-Repeat, in-Literal, in-Nulls}
use Rattle.am_runs.proofs.counters.counters_of.Goals as goal

pub overflow_sub-left : goal.overflow_sub-left
overflow_sub-left g c = count-le _ _ _ c.place-all.ensures.holds

pub returns-clause-held : goal.returns-clause-held
returns-clause-held g c =
    let items = subst (AllItems g.K.Item.end_of) c.place-all.ensures.list c.requires in
    let holds = c.place-all.ensures.holds in
    elim c.match-at.branch [
      | in-Repeat w ↦ rw w.copies-is (shows_repeat _ _ _ w.in-Repeat.is holds items (omega arith)).held
      | in-Literal w ↦ rw w.copies-is (shows_literal _ _ _ None w.in-Literal.is holds items (omega arith)).held
      | in-Nulls w ↦ rw w.copies-is (shows_nulls _ _ _ w.in-Nulls.is holds items (omega arith)).held
    ]

pub returns-clause-list : goal.returns-clause-list
returns-clause-list g c =
    let items = subst (AllItems g.K.Item.end_of) c.place-all.ensures.list c.requires in
    let holds = c.place-all.ensures.holds in
    elim c.match-at.branch [
      | in-Repeat w ↦ rw w.copies-is (c.place-all.ensures.list ∙ (shows_repeat _ _ _ w.in-Repeat.is holds items (omega arith)).list)
      | in-Literal w ↦ rw w.copies-is (c.place-all.ensures.list ∙ (shows_literal _ _ _ None w.in-Literal.is holds items (omega arith)).list)
      | in-Nulls w ↦ rw w.copies-is (c.place-all.ensures.list ∙ (shows_nulls _ _ _ w.in-Nulls.is holds items (omega arith)).list)
    ]
