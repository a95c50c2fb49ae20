use Rattle.std.proofs.Common.{◌∙◌, sym}
use Rattle.am_doccols.proofs.Skipped.{found, missed}
use Rattle.am_doccols.proofs.unnamed.is_among.Goals as goal

pub returns-clause-found : goal.returns-clause-found
returns-clause-found c = λ t. found c.args.counters.now c.args.counter c.binary_search.result c.binary_search.ensures.bound c.binary_search.ensures.position (sym c.is_ok.ensures.value ∙ t)

pub returns-clause-none : goal.returns-clause-none
returns-clause-none c = λ f. missed c.args.counters.now c.args.counter c.binary_search.result c.requires c.binary_search.ensures.position (sym c.is_ok.ensures.value ∙ f)
