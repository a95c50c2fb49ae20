use Rattle.am_merge.specs.Spots.{spot_in}
use Rattle.am_merge.specs.Stops.{events_of, waiting_of}
use Rattle.am_merge.proofs.Unnamed.{row_unnamed}
use Rattle.am_merge.proofs.walk.pass_row.Goals as goal

pub returns-clause-passed : goal.returns-clause-passed
returns-clause-passed c A t counters r e =
    let v = c.args.walk.now in
    let h = row_unnamed A c.args.tables.now c.args.counters.now t counters (events_of c.args.tables.now.named.items v.stops.items) v.skipped (spot_in c.args.row.now) r (waiting_of v) e (c.is_named.ensures c.if-is_named.false) in
    record { events = h.0; waiting = h.1 }
