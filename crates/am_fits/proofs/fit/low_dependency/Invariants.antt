use Rattle.std.proofs.Common.{◌≡◌, List, false, nat_le}
use Rattle.std.specs.List.{AllWithin}
use Rattle.std.specs.Option.{option_map_or}
use Rattle.am_types.specs.Members.{Member, member}
use Rattle.am_types.specs.Operations.{max}
use Rattle.am_graph.specs.Graphs.{nodes}
use Rattle.am_fits.proofs.fit.low_dependency.Given as goal

abbrev pub invariant-loop-dep : goal.invariant-loop-dep
invariant-loop-dep g l = (C : List Member) → l.graph ≡ nodes C → AllWithin (λ h. option_map_or (λ m. nat_le (g.C.ReadChange.change l.change).start (max m.change)) (member C h) false ≡ false) l.dep-items 0 l.dep-index
