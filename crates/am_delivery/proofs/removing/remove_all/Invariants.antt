use Rattle.std.proofs.Common.{◌≡◌, take}
use Rattle.am_delivery.specs.Waiting.{waiting_of, remaining}
use Rattle.am_delivery.proofs.removing.remove_all.Given as goal

abbrev pub invariant-loop-hash : goal.invariant-loop-hash
invariant-loop-hash l = waiting_of l.waiting ≡ remaining (take l.hash-index l.gone) (waiting_of l.fn.waiting)
