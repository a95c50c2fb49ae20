use Rattle.std.proofs.Common.{sym, ◌∙◌, arith}
use Rattle.am_colmeta.specs.Reading.{first_pair}
use Rattle.am_colmeta.proofs.Counted.{behind-one}
use Rattle.am_colmeta.proofs.parts.behind_pairs.Goals as goal

pub loop-left-preserved : goal.loop-left-preserved
loop-left-preserved c = sym (behind-one first_pair c.loop-left.left c.loop-left.rest.now _ c.in_ok-more.more.now (omega arith) (sym c.in_ok-more.ensures.read)) ∙ c.loop-left.invariant
