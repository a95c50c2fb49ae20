use Rattle.am_delivery.specs.Waiting.{members_of}
use Rattle.am_store.proofs.Picking.{none_held, entry_found}
use Rattle.am_store.proofs.lists.change_at.Goals as goal

pub unreachable-requires : goal.unreachable-requires
unreachable-requires c =
    let C = members_of c.args.entries.now in
    none_held C c.args.hash.now (c.in-None.ensures.set C c.requires.of_set) c.requires.held

pub returns : goal.returns
returns c =
    let C = members_of c.args.entries.now in
    let at = c.in-Some.ensures.set C c.requires.of_set in
    entry_found c.args.entries.now c.args.hash.now c.in-Some.place c.index-entries-place.result at.0 at.1
