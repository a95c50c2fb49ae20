use Rattle.std.proofs.Common.{◌≡◌, ◌≤◌, ◌<◌, ◌-◌, ℕ, drop, get_or, Contains}
use Rattle.am_doccols.proofs.Skipped.{counters_of}
use Rattle.am_doccols.proofs.unnamed.count_unnamed.Given as goal

abbrev pub invariant-loop-count : goal.invariant-loop-count
invariant-loop-count l = record {
  few : l.count ≤ l.all;
  behind : l.rest ≡ drop l.count (counters_of l.ids);
  unnamed : (j : ℕ) → j < l.count → Contains l.counters (get_or (counters_of l.ids) j 0) → ⊥;
}

abbrev pub decreases-loop-count : goal.decreases-loop-count
decreases-loop-count l = l.all - l.count
