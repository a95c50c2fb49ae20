use Rattle.std.proofs.Common.{◌∙◌, sym}
use Rattle.am_types.specs.Views.{id_of}
use Rattle.am_merge.proofs.Carried.{less_at, less_none}
use Rattle.am_merge.proofs.carry.is_less.Goals as goal

pub returns-then-count-at-clause-less : goal.returns-then-count-at-clause-less
returns-then-count-at-clause-less c = sym (less_none c.args.added.now c.args.at (id_of c.args.old) c.if-count-at.true)

pub returns-clause-less : goal.returns-clause-less
returns-clause-less c = c.comes_before.ensures ∙ sym (less_at c.args.added.now c.args.at c.index-added-at.result (id_of c.args.old) c.if-count-at.false c.index-added-at.is)
