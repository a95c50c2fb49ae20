use Rattle.std.proofs.Common.{◌≡◌, ◌++◌, map, filter, take}
use Rattle.am_types.specs.declared.Hash.{Hash}
use Rattle.am_types.specs.Order.{hash_cmp, same}
use Rattle.am_delivery.specs.Views.{listed}
use Rattle.am_delivery.proofs.pending.note_all.Given as goal

abbrev pub invariant-loop-d : goal.invariant-loop-d
invariant-loop-d l = (d : Hash) → listed l.waiting_for d ≡ listed l.fn.waiting_for d ++ map (λ g. l.h) (filter (same hash_cmp d) (take l.d-index l.absent))
