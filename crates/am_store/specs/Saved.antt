-- The files that keep the changes of a store. (Automerge Binary Document Format, "Chunk Container" and "Document Chunks".)
--     document C        the file of the canonical document of the set C
--     chunks W          the chunks of the members of W, one after another
--     chunk_in C h      the chunk of the member of C with the hash h, where there is one
--     saved_all k       the document of the closed set, and behind it the chunks of the waiting changes, ascending by hash
use Rattle.std.specs.Prelude.{ℕ, List, ◌++◌, Option, option_map}
use Rattle.std.specs.List.{flat_map}
use Rattle.std.specs.Ordering.{on}
use Rattle.am_types.specs.declared.Hash.{Hash}
use Rattle.am_types.specs.Order.{hash_cmp, sorted_by}
use Rattle.am_types.specs.Members.{Member, member}
use Rattle.am_types.specs.Documents.{table}
use Rattle.am_frame.specs.Frames.{framed}
use Rattle.am_doc.specs.Contents.{body}
use Rattle.am_change.specs.Contents.{chunk}
use Rattle.am_store.specs.Kept.{Kept}

abbrev pub document : List Member → List ℕ
document C = framed 0 (body (table C))

abbrev pub chunks : List Member → List ℕ
chunks W = flat_map (λ m. chunk m.change) W

abbrev pub chunk_in : List Member → Hash → Option (List ℕ)
chunk_in C h = option_map (λ m. chunk m.change) (member C h)

abbrev pub saved_all : Kept → List ℕ
saved_all k = document k.closed ++ chunks (sorted_by (on (λ m. m.hash) hash_cmp) k.waiting)
