use Rattle.std.proofs.Common.{◌∙◌, ◌∷◌, []}
use Rattle.am_merge.specs.Stops.{copies, event_of}
use Rattle.am_merge.proofs.Carried.{behind_both, can_first, can_rest, written_both}
use Rattle.am_merge.proofs.carry.carry_to.Goals as goal

pub copy_rows-requires : goal.copy_rows-requires
copy_rows-requires c = can_first c.args.writer.now.0 c.args.writer.now.1 (copies c.args.stop.now.skip) (event_of c.args.named.now c.args.stop.now ∷ []) c.args.from.now c.requires

pub at_stop-requires : goal.at_stop-requires
at_stop-requires c =
    can_rest c.args.writer.now.0 _ c.args.writer.now.1 _ (copies c.args.stop.now.skip) (event_of c.args.named.now c.args.stop.now ∷ []) c.args.from.now _ c.requires
    c.in_ok-copy_rows.ensures.actors c.in_ok-copy_rows.ensures.ok c.in_ok-copy_rows.ensures.behind

pub returns-clause-ok : goal.returns-clause-ok
returns-clause-ok c =
    written_both c.args.writer.now.0 c.args.writer.now.1 _ _ (copies c.args.stop.now.skip) (event_of c.args.named.now c.args.stop.now ∷ []) c.args.from.now _ c.requires
    c.in_ok-copy_rows.ensures.ok c.in_ok-copy_rows.ensures.behind c.in_ok-at_stop.ensures.ok

pub returns-clause-behind : goal.returns-clause-behind
returns-clause-behind c =
    behind_both (copies c.args.stop.now.skip) (event_of c.args.named.now c.args.stop.now ∷ []) c.args.from.now _ _
    c.in_ok-copy_rows.ensures.behind c.in_ok-at_stop.ensures.behind

pub returns-clause-actors : goal.returns-clause-actors
returns-clause-actors c = c.in_ok-at_stop.ensures.actors ∙ c.in_ok-copy_rows.ensures.actors
