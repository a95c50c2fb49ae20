use Rattle.std.proofs.Common.{◌∙◌, ◌++◌, ◌∷◌, [], ap, sym}
use Rattle.am_merge.specs.Plans.{Take}
use Rattle.am_merge.specs.Stops.{done_in, events_of}
use Rattle.am_merge.proofs.Stopping.{copy_more, none_in}
use Rattle.am_merge.proofs.stops.take_row.Goals as goal

pub returns-then-first-last-clause-stopped : goal.returns-then-first-last-clause-stopped
returns-then-first-last-clause-stopped c named =
    let v = c.args.walk.now in
    copy_more (events_of named v.stops.items) v.skipped ∙ ap (λ ids. done_in named v ++ Take ids ∷ []) (sym (none_in named c.args.first c.args.last c.if-first-last.true))
