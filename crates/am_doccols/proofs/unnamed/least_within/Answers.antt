use Rattle.std.proofs.Common.{◌≡◌, ◌+◌, ◌-◌, length, arith}
use Rattle.am_fields.proofs.Filled.{empty_false}
use Rattle.am_doccols.proofs.Skipped.{above_all, below_all, last_behind}
use Rattle.am_doccols.proofs.unnamed.least_within.Goals as goal
use Rattle.am_doccols.proofs.unnamed.least_within.Goals.{then-high-counters-via-then-high-counters, then-high-counters-via-else-high-counters+then-counters-last}

pub returns-then-high-counters-clause-none : goal.returns-then-high-counters-clause-none
returns-then-high-counters-clause-none c =
    let last : length c.args.counters.now - 1 + 1 ≡ length c.args.counters.now = last_behind c.args.counters.now (empty_false c.args.counters.now c.if-is_empty.ensures) in
    λ x low high. elim c.then-high-counters.branch [
      | then-high-counters-via-then-high-counters w ↦ below_all c.args.counters.now c.args.high c.requires w.if-high-counters.true x high
      | then-high-counters-via-else-high-counters+then-counters-last w ↦ above_all c.args.counters.now c.args.low _ c.requires last w.if-counters-last.true x low
    ]

pub returns-in-None-clause-none : goal.returns-in-None-clause-none
returns-in-None-clause-none c = λ x low high. c.in-None.ensures.none x low

pub returns-else-counter-high-clause-none : goal.returns-else-counter-high-clause-none
returns-else-counter-high-clause-none c = λ x low high. c.in-Some.ensures.some.2 x low (omega (arith, c.if-counter-high.false))
