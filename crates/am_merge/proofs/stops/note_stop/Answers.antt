use Rattle.std.proofs.Common.{◌∙◌, ◌++◌, ap}
use Rattle.am_merge.specs.Stops.{copies, events_of}
use Rattle.am_merge.specs.declared.stops.Stop.{Stop}
use Rattle.am_merge.proofs.Stopping.{stop_more}
use Rattle.am_merge.proofs.stops.note_stop.Goals as goal

pub returns-clause-stopped : goal.returns-clause-stopped
returns-clause-stopped c named =
    let v = c.args.walk.now in
    let s : Stop = record { skip = v.skipped; put = c.args.put; first = c.args.first; last = c.args.last } in
    ap (λ ss. events_of named ss ++ copies 0) c.in_ok-push.ensures.items ∙ stop_more named v.stops.items s
