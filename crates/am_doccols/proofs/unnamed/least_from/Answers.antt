use Rattle.std.proofs.Common.{refl}
use Rattle.am_doccols.proofs.Skipped.{least_found, least_there, none_from}
use Rattle.am_doccols.proofs.unnamed.least_from.Goals as goal

pub returns-then-at-counters-clause-some : goal.returns-then-at-counters-clause-some
returns-then-at-counters-clause-some c =
    let p = least_found c.args.counters.now c.args.low c.in-Err.at _ c.requires c.in-Err.ensures.position c.if-at-counters.true refl in
    (p.0, p.1, least_there c.args.counters.now c.args.low c.in-Err.at _ c.requires c.in-Err.ensures.position c.if-at-counters.true refl)

pub returns-else-at-counters-clause-none : goal.returns-else-at-counters-clause-none
returns-else-at-counters-clause-none c = none_from c.args.counters.now c.args.low c.in-Err.at c.requires c.in-Err.ensures.position c.if-at-counters.false
