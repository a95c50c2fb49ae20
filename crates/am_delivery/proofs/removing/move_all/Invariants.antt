use Rattle.std.proofs.Common.{◌≡◌, ◌≤◌, ◌+◌, ◌++◌, length, take, vec_capacity, vec_items, vec_len}
use Rattle.am_delivery.specs.Waiting.{members_of, unboxed, waiting_of, remaining, taken_out}
use Rattle.am_delivery.proofs.removing.move_all.Given as goal

abbrev pub invariant-loop-hash : goal.invariant-loop-hash
invariant-loop-hash l = record {
  left : waiting_of l.waiting ≡ remaining (take l.hash-index l.gone) (waiting_of l.fn.waiting);
  taken : members_of (unboxed (vec_items l.taken)) ≡ members_of (unboxed (vec_items l.fn.taken)) ++ taken_out (take l.hash-index l.gone) (waiting_of l.fn.waiting);
  room : vec_len l.taken + length l.gone ≤ vec_capacity l.taken + l.hash-index;
}
