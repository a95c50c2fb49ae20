use Rattle.std.proofs.Common.{ℕ, ◌≡◌, ◌<◌, ◌≤◌, length}
use Rattle.am_fits.specs.Runs.{runs_below, runs_in}
use Rattle.am_fits.proofs.runs.cut_each.Given as goal

abbrev pub invariant-loop-author : goal.invariant-loop-author
invariant-loop-author l = record {
  long : length l.authors.items ≡ length l.fn.authors.items;
  done : (a : ℕ) → a < l.author → runs_in l.authors.items a ≡ runs_below l.bound (runs_in l.fn.authors.items a);
  rest : (a : ℕ) → l.author ≤ a → runs_in l.authors.items a ≡ runs_in l.fn.authors.items a;
}
