use Rattle.std.proofs.Common.{◌≡◌, length, take}
use Rattle.am_graph.specs.Graphs.{HasDistinctSeqs}
use Rattle.am_graph.specs.Whole.{IsWhole}
use Rattle.am_graph.proofs.parts.Parts.cut.Given as goal

abbrev pub invariant-changes : goal.invariant-changes
invariant-changes l = record {
  whole : IsWhole l.self;
  seqs : HasDistinctSeqs l.self.held.entries;
  first : take l.count l.self.held.entries ≡ take l.count l.fn.self.held.entries;
}

abbrev pub decreases-changes : goal.decreases-changes
decreases-changes l = length l.self.held.entries
