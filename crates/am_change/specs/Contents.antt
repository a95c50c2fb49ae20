-- The bytes of a change. (Automerge Binary Document Format, "Chunk Container" and "Change Chunks".)
--     hashes_bytes hashes     their number, and then the hashes
--     head c                  what stands before the operations: dependencies, actor, numbers, message
--     contents c              the contents of its chunk
--     chunk c                 its chunk, of type 1
--     hash c                  the digest of type, length and contents
use Rattle.std.specs.Prelude.{ℕ, List, ◌++◌, length}
use Rattle.std.specs.List.{flat_map}
use Rattle.sha2.specs.Sha256.{sha256}
use Rattle.am_leb.specs.Leb.{uleb, leb}
use Rattle.am_types.specs.declared.Hash.{Hash}
use Rattle.am_types.specs.declared.Change.{Change}
use Rattle.am_colmeta.specs.Metadata.{metadata, listing, body}
use Rattle.am_colmeta.specs.Actors.{prefixed, actors_bytes}
use Rattle.am_frame.specs.Frames.{framed, covered}
use Rattle.am_opcols.specs.Others.{others}
use Rattle.am_opcols.specs.Writing.{written_columns}

abbrev pub hashes_bytes : List Hash → List ℕ
hashes_bytes hashes = uleb (length hashes) ++ flat_map (λ h. h.0) hashes

abbrev pub head : Change → List ℕ
head c = hashes_bytes c.deps ++ (prefixed c.actor ++ (uleb c.seq ++ (uleb c.start ++ (leb c.time ++ prefixed c.message))))

unfoldable pub contents : Change → List ℕ
contents c =
    head c
    ++ (actors_bytes (others c.actor c.ops)
    ++ (metadata (listing (written_columns c.actor c.ops))
    ++ (body (written_columns c.actor c.ops)
    ++ c.extra)))

abbrev pub chunk : Change → List ℕ
chunk c = framed 1 (contents c)

abbrev pub hash : Change → List ℕ
hash c = sha256 (covered 1 (contents c))
