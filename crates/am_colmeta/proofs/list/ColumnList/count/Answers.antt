use Rattle.std.proofs.Common.{sym, ap, length, ◌∙◌}
use Rattle.am_colmeta.specs.Reading.{first_pair}
use Rattle.am_colmeta.proofs.Counted.{length-parts}
use Rattle.am_colmeta.proofs.list.ColumnList.count.Goals as goal

pub returns : goal.returns
returns c = sym (length-parts first_pair _ _ c.self.invariant) ∙ ap length c.self.view_is
