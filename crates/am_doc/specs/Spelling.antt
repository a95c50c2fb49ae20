-- When the contents of a document spell a table. (Automerge Binary Document Format, "Document Chunks".)
--     meta_specifications, row_specifications     the columns that change rows and operation rows may have
--     AreColumns specifications columns     the columns are among these, and ascend
--     IsSuffix heads metas bytes places     the bytes are a place for each head, below the number of change rows; or there
--                                           are none, and no places are told
--     SpellsBehind f rest t         behind the front f stand columns that spell the rows of t, and such a suffix
--     SpellsTable bytes t           the bytes are a front, and the rest of t behind it
--     Judges bytes result           the answer is the right one for the bytes: the table that they spell; or that a column
--                                   is compressed; or that neither is so
-- Each list is spelled in any way that its columns may be read. That only these columns are listed, how long an actor may
-- be, and that the suffix isn't compared with the heads, are choices of amstore's profile.
use Rattle.std.specs.Prelude.{◌≡◌, ℕ, ◌<◌, List, [], ◌∷◌, ◌++◌, length, Option, Some, None, Result, Ok, Err}
use Rattle.std.specs.List.{AllByRecursion, flat_map}
use Rattle.am_leb.specs.Leb.{uleb}
use Rattle.am_types.specs.declared.Table.{Table}
use Rattle.am_types.specs.Order.{hash_cmp, Ascends}
use Rattle.am_colmeta.specs.Metadata.{listing, body, Ascend}
use Rattle.am_colmeta.specs.Judgement.{AreKnown}
use Rattle.am_fields.specs.Limits.{IsShortActor}
use Rattle.am_fields.specs.Specifications as row_column
use Rattle.am_doccols.specs.Columns.{SpellsMetas, SpellsRows}
use Rattle.am_doccols.specs.MetaSpecifications as meta_column
use Rattle.am_doc.specs.declared.fault.DocFault.{DocFault}
use Rattle.am_doc.specs.declared.fault.DocFault.TheVariants.{BadDocument, CompressedColumn}
use Rattle.am_doc.specs.Fronts.{Front, front_bytes, IsFront, IsCompressed}

abbrev pub meta_specifications : List ℕ
meta_specifications =
    meta_column.author
    ∷ meta_column.seq
    ∷ meta_column.max
    ∷ meta_column.time
    ∷ meta_column.message
    ∷ meta_column.dep_count
    ∷ meta_column.dep_index
    ∷ meta_column.extra_metadata
    ∷ meta_column.extra_raw
    ∷ []

abbrev pub row_specifications : List ℕ
row_specifications =
    row_column.object_actor
    ∷ row_column.object_counter
    ∷ row_column.key_actor
    ∷ row_column.key_counter
    ∷ row_column.key_name
    ∷ row_column.id_actor
    ∷ row_column.id_counter
    ∷ row_column.insert
    ∷ row_column.action
    ∷ row_column.value_metadata
    ∷ row_column.value_raw
    ∷ row_column.succ_count
    ∷ row_column.succ_actor
    ∷ row_column.succ_counter
    ∷ row_column.expand
    ∷ row_column.mark
    ∷ []

pub record AreColumns (specifications : List ℕ) (columns : List (ℕ × List ℕ)) : Type 0 where
  pub ascend : Ascend (listing columns)
  pub known : AreKnown specifications (listing columns)

abbrev pub IsSuffix : ℕ → ℕ → List ℕ → Option (List ℕ) → Type 0
IsSuffix heads metas bytes None = bytes ≡ []
IsSuffix heads metas bytes (Some places) = (bytes ≡ flat_map uleb places) × (length places ≡ heads) × (0 < heads) × AllByRecursion (λ i. i < metas) places

-- what stands behind the front f spells the rest of t
pub record SpellsBehind (f : Front) (rest : List ℕ) (t : Table) : Type 0 where
  pub metas : List (ℕ × List ℕ)
  pub rows : List (ℕ × List ℕ)
  pub suffix : List ℕ
  pub joined : rest ≡ body metas ++ (body rows ++ suffix)
  pub metas_listed : listing metas ≡ f.metas
  pub rows_listed : listing rows ≡ f.rows
  pub are_metas : AreColumns meta_specifications metas
  pub are_rows : AreColumns row_specifications rows
  pub actors : t.actors ≡ f.actors
  pub heads : t.heads ≡ f.heads
  pub are_short : AllByRecursion IsShortActor f.actors
  pub ascend : Ascends hash_cmp f.heads
  pub spells_metas : SpellsMetas f.actors metas t.metas
  pub spells_rows : SpellsRows f.actors rows t.rows
  pub is_suffix : IsSuffix (length f.heads) (length t.metas) suffix t.suffix

pub record SpellsTable (bytes : List ℕ) (t : Table) : Type 0 where
  pub front : Front
  pub rest : List ℕ
  pub is_front : IsFront front
  pub bytes_are : bytes ≡ front_bytes front ++ rest
  pub behind : SpellsBehind front rest t

abbrev pub Judges : List ℕ → Result Table DocFault → Type 0
Judges bytes (Ok t) = SpellsTable bytes t
Judges bytes (Err CompressedColumn) = IsCompressed bytes
Judges bytes (Err BadDocument) = (¬ IsCompressed bytes) × ((t : Table) → SpellsTable bytes t → ⊥)
