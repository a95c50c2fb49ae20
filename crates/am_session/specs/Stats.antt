-- The reply to stats.
--     stats_text k hits       how many changes have joined, how many operations, predecessors and dependencies these have,
--                             how many changes wait, how long the contents of the document are, and how often a view was found
use Rattle.std.specs.Prelude.{ℕ, ◌∷◌, List, [], ◌++◌, length, codes}
use Rattle.am_types.specs.Documents.{table}
use Rattle.am_doc.specs.Contents.{body}
use Rattle.am_store.specs.declared.Counts.{Counts}
use Rattle.am_store.specs.Kept.{Kept, counts_of}
use Rattle.am_session.specs.Replies.{newline, numbered}

abbrev pub stats_line : Counts → ℕ → ℕ → List ℕ
stats_line counts bytes hits =
    numbered (codes "ok changes ") counts.changes ++ numbered (codes " operations ") counts.operations ++ numbered (codes " preds ") counts.preds
    ++ numbered (codes " links ") counts.links ++ numbered (codes " waiting ") counts.waiting ++ numbered (codes " bytes ") bytes
    ++ numbered (codes " hits ") hits ++ newline ∷ []

abbrev pub stats_text : Kept → ℕ → List ℕ
stats_text k hits = stats_line (counts_of k) (length (body (table k.closed))) hits
