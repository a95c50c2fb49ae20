use Rattle.std.proofs.Common.{◌≡◌, ◌<◌, ◌++◌, [], All, length, map}
use Rattle.std.specs.Option.{IfSome}
use Rattle.am_types.specs.Limits.{most_operations}
use Rattle.am_places.specs.Numbered.{operation_of}
use Rattle.am_merge.specs.Carrying.{CanCarry}
use Rattle.am_merge.specs.Plans.{carried}
use Rattle.am_merge.specs.Aims.{stacked_at}
use Rattle.am_merge.specs.Walk.{beginning, walk_out}
use Rattle.am_merge.proofs.fresh.put_all.Given as goal

abbrev pub invariant-rest : goal.invariant-rest
invariant-rest l = record {
  actors : l.writer.0 ≡ l.fn.writer.0;
  within : All (λ k. k < length l.operations) l.waiting.items;
  can : CanCarry l.writer.0 l.writer.1 (walk_out (map operation_of l.operations) l.left (stacked_at (map operation_of l.operations) l.waiting.items)) [];
  whole : IfSome l.writer.1 (λ done. done ++ carried (walk_out (map operation_of l.operations) l.left (stacked_at (map operation_of l.operations) l.waiting.items)) []
      ≡ carried (walk_out (map operation_of l.operations) most_operations (beginning (map operation_of l.operations))) []);
}

abbrev pub decreases-rest : goal.decreases-rest
decreases-rest l = l.left
