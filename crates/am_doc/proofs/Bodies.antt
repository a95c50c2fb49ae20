-- Parts that are those of a table are its contents.
use Rattle.std.proofs.Common.{◌≡◌, ℕ, List, ◌++◌}
use Rattle.am_types.specs.declared.Table.{Table}
use Rattle.am_colmeta.specs.Metadata.{metadata, listing, body as columns_body}
use Rattle.am_colmeta.specs.Actors.{actors_bytes}
use Rattle.am_doccols.specs.Columns.{written_rows, written_metas}
use Rattle.am_change.specs.Contents.{hashes_bytes}
use Rattle.am_doc.specs.Contents.{body, suffix_bytes}

pub body_is : (t : Table) (a h m r n s : List ℕ) → a ≡ actors_bytes t.actors → h ≡ hashes_bytes t.heads
    → m ≡ metadata (listing (written_metas t.actors t.metas)) → r ≡ metadata (listing (written_rows t.actors t.rows))
    → n ≡ columns_body (written_metas t.actors t.metas) → s ≡ columns_body (written_rows t.actors t.rows)
    → a ++ (h ++ (m ++ (r ++ (n ++ (s ++ suffix_bytes t.suffix))))) ≡ body t
unfolding body
body_is t a h m r n s pa ph pm pr pn ps = λ i. pa i ++ (ph i ++ (pm i ++ (pr i ++ (pn i ++ (ps i ++ suffix_bytes t.suffix)))))
