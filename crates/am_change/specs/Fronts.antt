-- What stands before the columns of a change. (Automerge Binary Document Format, "Change Chunks".)
--     Front              its parts: dependencies, author, numbers, message, other actors, column metadata
--     front_bytes f      its bytes
--     front c            that of a change, in its contents
--     IsFront f          each dependency has 32 bytes, and each number fits 64 bits
--     IsCompressed bytes     such parts begin the bytes, and list a column that is compressed by DEFLATE
-- That the lengths of the columns are those of the bytes behind them isn't asked, nor anything else of the parts.
use Rattle.std.specs.Prelude.{◌≡◌, ℕ, ◌<◌, ◌^◌, ℤ, List, ◌++◌, length, FitsSigned}
use Rattle.std.specs.Int.{w64}
use Rattle.std.specs.List.{AllByRecursion}
use Rattle.am_leb.specs.Leb.{uleb, leb}
use Rattle.am_types.specs.declared.Hash.{Hash}
use Rattle.am_types.specs.declared.Change.{Change}
use Rattle.am_colmeta.specs.Metadata.{metadata, listing, AreListed}
use Rattle.am_colmeta.specs.Actors.{prefixed, actors_bytes, AreActors}
use Rattle.am_colmeta.specs.Judgement.{AreCompressed}
use Rattle.am_opcols.specs.Others.{others}
use Rattle.am_opcols.specs.Writing.{written_columns}
use Rattle.am_change.specs.Contents.{hashes_bytes}

pub record Front : Type 0 where
  pub deps : List Hash
  pub actor : List ℕ
  pub seq : ℕ
  pub start : ℕ
  pub time : ℤ
  pub message : List ℕ
  pub others : List (List ℕ)
  pub listed : List (ℕ × ℕ)

abbrev pub front_bytes : Front → List ℕ
front_bytes f =
    hashes_bytes f.deps ++ (prefixed f.actor ++ (uleb f.seq ++ (uleb f.start ++ (leb f.time ++ (prefixed f.message ++ (actors_bytes f.others ++ metadata f.listed))))))

abbrev pub front : Change → Front
front c = record {
  deps = c.deps;
  actor = c.actor;
  seq = c.seq;
  start = c.start;
  time = c.time;
  message = c.message;
  others = others c.actor c.ops;
  listed = listing (written_columns c.actor c.ops);
}

-- a hash has 32 bytes
abbrev pub Has32 : Hash → Type 0
Has32 h = length h.0 ≡ 32

pub record IsFront (f : Front) : Type 0 where
  pub hashes : AllByRecursion Has32 f.deps
  pub deps : length f.deps < 2 ^ 64
  pub actor : length f.actor < 2 ^ 64
  pub seq : f.seq < 2 ^ 64
  pub start : f.start < 2 ^ 64
  pub time : FitsSigned w64 f.time
  pub message : length f.message < 2 ^ 64
  pub others : AreActors f.others
  pub listed : AreListed f.listed

pub record IsCompressed (bytes : List ℕ) : Type 0 where
  pub parts : Front
  pub rest : List ℕ
  pub is_front : IsFront parts
  pub bytes_are : bytes ≡ front_bytes parts ++ rest
  pub compressed : AreCompressed parts.listed
