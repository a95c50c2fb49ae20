use Rattle.std.proofs.Common.{sym, ◌∙◌, arith}
use Rattle.am_colmeta.specs.Reading.{first_prefixed}
use Rattle.am_colmeta.proofs.Counted.{behind-one}
use Rattle.am_colmeta.proofs.parts.behind_prefixed.Goals as goal

pub loop-left-preserved : goal.loop-left-preserved
loop-left-preserved c = sym (behind-one first_prefixed c.loop-left.left c.loop-left.rest.now _ c.in_ok-more.more.now (omega arith) (sym c.in_ok-more.ensures)) ∙ c.loop-left.invariant
