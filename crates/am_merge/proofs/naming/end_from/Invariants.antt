use Rattle.std.proofs.Common.{◌≡◌, ◌≤◌, ◌-◌, length, true}
use Rattle.std.specs.List.{AllWithin}
use Rattle.std.specs.Ordering.{is_le}
use Rattle.am_types.specs.Views.{id_of, object_of}
use Rattle.am_merge.specs.Naming.{key_cmp, named_key, named_of}
use Rattle.am_merge.proofs.naming.end_from.Given as goal

abbrev pub invariant-loop-last : goal.invariant-loop-last
invariant-loop-last l = record {
  order : l.first ≤ l.last;
  bound : l.last ≤ length l.table;
  within : AllWithin (λ n. is_le (key_cmp (named_key (named_of n)) (object_of l.obj, id_of l.id)) ≡ true) l.table l.first l.last;
}

abbrev pub decreases-loop-last : goal.decreases-loop-last
decreases-loop-last l = length l.table - l.last
