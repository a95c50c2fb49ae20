use Rattle.std.proofs.Common.{◌≡◌, ◌≤◌, ◌<◌, ℕ, drop, get_or, Contains}
use Rattle.am_doccols.proofs.unnamed.unnamed_one_by_one.Given as goal

abbrev pub invariant-loop-passed : goal.invariant-loop-passed
invariant-loop-passed l = record {
  few : l.passed ≤ l.n;
  behind : l.rest ≡ drop l.passed l.numbers;
  unnamed : (j : ℕ) → j < l.passed → Contains l.counters (get_or l.numbers j 0) → ⊥;
}
