use Rattle.std.proofs.Common.{◌∙◌, Some, arith}
use Rattle.am_values.specs.Cutting.{width}
use Rattle.am_values.proofs.Alike.{some_as, none_as, alike_first, alike_empty, none_behind}
use Rattle.am_values.proofs.cutting.behind_given.Goals as goal

pub returns-then-number-eq0-clause-some : goal.returns-then-number-eq0-clause-some
returns-then-number-eq0-clause-some c =
    let number = Some c.args.number in
    some_as c.behind.result _ _ (λ rest w. (alike_empty c.args.count number c.args.raw.now c.if-number-eq0.true w.0, w.1 ∙ none_behind c.args.count (width number) c.args.raw.now c.if-number-eq0.true)) c.behind.ensures.some

pub returns-then-number-eq0-clause-none : goal.returns-then-number-eq0-clause-none
returns-then-number-eq0-clause-none c =
    none_as c.behind.result _ _ (λ no a. no (alike_first c.args.count (Some c.args.number) c.args.raw.now (omega (arith, c.requires)) a)) c.behind.ensures.none
