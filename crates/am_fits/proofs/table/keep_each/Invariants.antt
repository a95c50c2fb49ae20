use Rattle.std.proofs.Common.{◌≡◌, Some}
use Rattle.am_graph.specs.Reaches.{number}
use Rattle.am_fits.specs.Tables.{KeepsEach}
use Rattle.am_fits.specs.Words.{words_of, WordsGrow, IsLast}
use Rattle.am_fits.proofs.table.keep_each.Given as goal

abbrev pub invariant-loop-i : goal.invariant-loop-i
invariant-loop-i g l = record {
  grow : WordsGrow (words_of l.fn.texts) (words_of l.texts);
  author : number (words_of l.texts).authors (g.C.ReadChange.change l.change).actor ≡ Some l.author;
  last : IsLast (words_of l.texts) l.last;
  keeps : KeepsEach (words_of l.texts) l.author (g.C.ReadChange.change l.change) l.i l.fn.kept.items l.kept.items;
}
