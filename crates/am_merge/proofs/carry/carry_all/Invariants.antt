use Rattle.std.proofs.Common.{◌≡◌, ◌++◌, drop}
use Rattle.std.specs.Option.{IfSome}
use Rattle.am_merge.specs.Carrying.{CanCarry}
use Rattle.am_merge.specs.Plans.{carried}
use Rattle.am_merge.specs.Stops.{copies, events_of}
use Rattle.am_merge.proofs.carry.carry_all.Given as goal

abbrev pub invariant-loop-i : goal.invariant-loop-i
invariant-loop-i l = record {
  actors : l.writer.0 ≡ l.fn.writer.0;
  can : CanCarry l.writer.0 l.writer.1 (events_of l.named (drop l.i l.stops) ++ copies l.fn.rest) l.from;
  whole : IfSome l.writer.1 (λ done. done ++ carried (events_of l.named (drop l.i l.stops) ++ copies l.fn.rest) l.from ≡ carried (events_of l.named l.stops ++ copies l.fn.rest) l.fn.from);
}
