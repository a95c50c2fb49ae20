use Rattle.std.proofs.Common.{ℕ, ◌≡◌, ◌≤◌, ◌+◌, ◌-◌, length, slice_index_or, true}
use Rattle.std.specs.Ordering.{is_lt}
use Rattle.am_types.specs.Views.{id_of, object_of}
use Rattle.am_merge.specs.Naming.{key_cmp, named_key, named_of}
use Rattle.am_merge.specs.declared.naming.Naming.{Naming}
use Rattle.am_merge.proofs.naming.seam_near.Given as goal

abbrev pub invariant-loop-steps : goal.invariant-loop-steps
invariant-loop-steps l = record {
  bound : l.at ≤ length l.table;
  steps : l.steps ≤ 12;
  behind : (j : ℕ) (d : Naming) → j + 1 ≡ l.at → is_lt (key_cmp (named_key (named_of (slice_index_or l.table j d))) (object_of l.obj, id_of l.id)) ≡ true;
}

abbrev pub decreases-loop-steps : goal.decreases-loop-steps
decreases-loop-steps l = 12 - l.steps
