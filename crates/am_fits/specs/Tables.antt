-- What a table says.
--     entries_in t           the keys of the operations, each beside what is kept
--     facts_in t             the facts, each beside the id
--     IsTable t              the keys of t stand for what they mean, and its runs are those of its spans
--     KeepsEach w a c k old new    new is old and what is kept of the first k operations of the change c of the author a
--     IsLonger t u           u is t, but for texts and for more behind what is kept
use Rattle.std.specs.Prelude.{ℕ, ◌≡◌, List, ◌++◌, length, map, take}
use Rattle.std.specs.List.{zip}
use Rattle.am_types.specs.declared.OpId.{OpId}
use Rattle.am_types.specs.declared.Change.{Change}
use Rattle.am_types.specs.Operations.{operations}
use Rattle.am_fits.specs.declared.table.IdKey.{IdKey}
use Rattle.am_fits.specs.declared.table.Kept.{Kept}
use Rattle.am_fits.specs.declared.table.Table.{Table}
use Rattle.am_fits.specs.Facts.{Fact, facts}
use Rattle.am_fits.specs.Runs.{keys_from, keys_of, runs_in, AreRuns}
use Rattle.am_fits.specs.Words.{Words, WordsGrow, words_of, entry_in, AreKept}

abbrev pub entries_in : Table → List (IdKey × Kept)
entries_in t = zip (keys_of t.spans.items) t.kept.items

abbrev pub facts_in : Table → List (OpId × Fact)
facts_in t = map (entry_in (words_of t.texts)) (entries_in t)

pub record IsTable (t : Table) : Type 0 where
  pub even : length t.kept.items ≡ length (keys_of t.spans.items)
  pub kept : AreKept (words_of t.texts) (entries_in t)
  pub runs : AreRuns (keys_of t.spans.items) (runs_in t.runs.items)

-- ---- while operations join

pub record KeepsEach (w : Words) (author : ℕ) (c : Change) (k : ℕ) (old new : List Kept) : Type 0 where
  pub rest : List Kept
  pub is : new ≡ old ++ rest
  pub long : length rest ≡ k
  pub kept : AreKept w (zip (keys_from author c.start k) rest)
  pub facts : map (entry_in w) (zip (keys_from author c.start k) rest) ≡ facts (take k (operations c))

pub record IsLonger (t u : Table) : Type 0 where
  pub grow : WordsGrow (words_of t.texts) (words_of u.texts)
  pub rest : List Kept
  pub kept : u.kept.items ≡ t.kept.items ++ rest
  pub spans : u.spans.items ≡ t.spans.items
  pub runs : (a : ℕ) → runs_in u.runs.items a ≡ runs_in t.runs.items a
