use Rattle.std.proofs.Common.{◌≡◌, ◌≤◌, ◌-◌, length, take}
use Rattle.am_fits.specs.Runs.{keys_of}
use Rattle.am_fits.proofs.spans.drop_last.Given as goal

abbrev pub invariant-spans : goal.invariant-spans
invariant-spans l = record {
  same : l.spans.items ≡ l.fn.spans.items;
  within : l.whole ≤ length l.fn.spans.items;
  low : l.left ≤ length (keys_of (take l.whole l.fn.spans.items));
  is : take (length (keys_of l.fn.spans.items) - l.extra) (keys_of l.fn.spans.items) ≡ take (length (keys_of (take l.whole l.fn.spans.items)) - l.left) (keys_of (take l.whole l.fn.spans.items));
}

abbrev pub decreases-spans : goal.decreases-spans
decreases-spans l = l.whole
