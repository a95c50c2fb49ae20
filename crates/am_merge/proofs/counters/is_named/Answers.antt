use Rattle.std.proofs.Common.{◌∙◌, sym}
use Rattle.am_doccols.proofs.Skipped.{missed}
use Rattle.am_merge.proofs.counters.is_named.Goals as goal

pub returns : goal.returns
returns c = λ f. missed c.args.counters.now c.args.counter c.binary_search.result c.requires c.binary_search.ensures.position (sym c.is_ok.ensures.value ∙ f)
