use Rattle.std.proofs.Common.{[]}
use Rattle.am_delivery.proofs.Alikeness.{sorted_permutation}
use Rattle.am_delivery.proofs.Steady.{steady_from}
use Rattle.am_delivery.proofs.laws.waiting_sorts_alike.Goals as goal

pub returns : goal.returns
returns c C V W stored same = sorted_permutation V W (steady_from C V [] stored).distinct same
