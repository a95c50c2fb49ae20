use Rattle.std.proofs.Common.{ℕ, ◌≡◌, ◌<◌}
use Rattle.am_fits.specs.Told.{IsGoodAt}
use Rattle.am_fits.proofs.known.first_bad.Given as goal

abbrev pub invariant-loop-k : goal.invariant-loop-k
invariant-loop-k g l = record {
  same : l.ancestors ≡ l.fn.ancestors;
  good : (j : ℕ) → j < l.k → IsGoodAt l.fn.ancestors.clock l.fn.ancestors.facts (g.C.ReadChange.change l.change) j;
}
