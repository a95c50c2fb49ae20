use Rattle.std.proofs.Common.{rules}
use Rattle.am_types.specs.Members.{Member}
use Rattle.am_rebuild.proofs.Grows.{may_admit, not_held, grown}
use Rattle.am_history_tests.proofs.valid_set.enter.Goals as goal

pub admit-requires : goal.admit-requires
admit-requires c = may_admit c.args.graph.now c.args.index.now (record { hash = c.args.hash; change = c.args.change.now }) c.requires

pub returns : goal.returns
returns c =
    let m : Member = record { hash = c.args.hash; change = c.args.change.now } in
    grown c.args.graph.now c.add.new.self c.args.index.now c.admit.new.self m (not_held c.args.graph.now c.args.index.now m c.requires) (search rules) c.in_ok-admit.ensures.changes
