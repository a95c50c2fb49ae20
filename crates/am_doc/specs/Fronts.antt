-- What stands before the columns of a document. (Automerge Binary Document Format, "Document Chunks".)
--     Front              its parts: actors, heads, and the metadata of the change columns and of the operation columns
--     front_bytes f      its bytes
--     IsFront f          each head has 32 bytes, and each number fits 64 bits
--     IsCompressed bytes     such parts begin the bytes, and list a column that is compressed by DEFLATE
-- That the lengths of the columns are those of the bytes behind them isn't asked, nor anything else of the parts.
use Rattle.std.specs.Prelude.{◌≡◌, ℕ, ◌<◌, ◌^◌, List, ◌++◌, ◌⊎◌, length}
use Rattle.std.specs.List.{AllByRecursion}
use Rattle.am_types.specs.declared.Hash.{Hash}
use Rattle.am_colmeta.specs.Metadata.{metadata, AreListed}
use Rattle.am_colmeta.specs.Actors.{actors_bytes, AreActors}
use Rattle.am_colmeta.specs.Judgement.{AreCompressed}
use Rattle.am_change.specs.Contents.{hashes_bytes}
use Rattle.am_change.specs.Fronts.{Has32}

pub record Front : Type 0 where
  pub actors : List (List ℕ)
  pub heads : List Hash
  pub metas : List (ℕ × ℕ)
  pub rows : List (ℕ × ℕ)

abbrev pub front_bytes : Front → List ℕ
front_bytes f = actors_bytes f.actors ++ (hashes_bytes f.heads ++ (metadata f.metas ++ metadata f.rows))

pub record IsFront (f : Front) : Type 0 where
  pub actors : AreActors f.actors
  pub hashes : AllByRecursion Has32 f.heads
  pub heads : length f.heads < 2 ^ 64
  pub metas : AreListed f.metas
  pub rows : AreListed f.rows

pub record IsCompressed (bytes : List ℕ) : Type 0 where
  pub parts : Front
  pub rest : List ℕ
  pub is_front : IsFront parts
  pub bytes_are : bytes ≡ front_bytes parts ++ rest
  pub compressed : AreCompressed parts.metas ⊎ AreCompressed parts.rows
