use Rattle.std.proofs.Common.{sym, ap, length, ◌∙◌}
use Rattle.am_colmeta.specs.Reading.{first_prefixed}
use Rattle.am_colmeta.proofs.Counted.{length-parts}
use Rattle.am_colmeta.proofs.actors.ActorList.count.Goals as goal

pub returns : goal.returns
returns c = record { number = sym (length-parts first_prefixed _ _ c.self.invariant.0) ∙ ap length c.self.view_is }
