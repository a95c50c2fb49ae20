use Rattle.std.proofs.Common.{rules}
use Rattle.am_store.proofs.Picking.{none_held}
use Rattle.am_store.proofs.rebuilding.put.Goals as goal

pub unreachable-requires : goal.unreachable-requires
unreachable-requires c = none_held c.requires.0 c.args.hash (c.in-None.ensures.set c.requires.0 c.requires.1) c.requires.3

pub returns : goal.returns
returns c = λ C e.
    let at = c.in-Some.ensures.set C e in
    (c.in-Some.place, at.1, search rules)
